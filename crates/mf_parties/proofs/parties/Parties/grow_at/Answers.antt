use Rattle.std.proofs.Common.{◌≡◌, Some, None, ap, sym, ◌∙◌, subst, position}
use Rattle.std.proofs.lemmas.Result.{on_ok_weaker, on_err_weaker}
use Rattle.mf_objects.specs.Live.{Entities, has_id}
use Rattle.mf_objects.specs.Changes.{with_change}
use Rattle.mf_parties.specs.Changing.{grown}
use Rattle.mf_parties.specs.Standing.{IsOpenable}
use Rattle.mf_parties.proofs.Standing.{nowhere, grown_place, kept_place, grown_stands}
use Rattle.mf_parties.proofs.parties.Parties.grow_at.Goals as goal

pub returns-in_default-clause-ok : goal.returns-in_default-clause-ok
returns-in_default-clause-ok c =
    let at : position (has_id c.args.id) c.args.self.now.live ≡ None =
    sym (ap (λ (o : Entities). position (has_id c.args.id) o.live) c.self.view_is) ∙ sym (ap (position (has_id c.args.id)) c.deref.ensures.value) ∙ sym c.place_of.ensures ∙ c.in_default.is in
    nowhere (grown c.args.growth) c.args.id c.args.self.now at

pub invariant_of-self : goal.invariant_of-self
invariant_of-self c =
    let o : Entities = record { next = c.self.inside.next; live = c.self.inside.list.items } in
    let at : position (has_id c.args.id) o.live ≡ Some c.in-Some.place = sym (ap (position (has_id c.args.id)) c.deref.ensures.value) ∙ sym c.place_of.ensures ∙ c.in-Some.is in
    grown_stands c.grow.result c.args.growth c.args.id o c.in-Some.place c.index_mut.result.now c.grow.new.self at c.index_mut.ensures.value
    (subst (λ (p : Entities). IsOpenable p c.args.growth) (sym c.self.view_is) c.requires) c.self.invariant c.grow.ensures.ok c.grow.ensures.err

pub returns-clause-ok : goal.returns-clause-ok
returns-clause-ok c =
    let o : Entities = record { next = c.self.inside.next; live = c.self.inside.list.items } in
    let at : position (has_id c.args.id) o.live ≡ Some c.in-Some.place = sym (ap (position (has_id c.args.id)) c.deref.ensures.value) ∙ sym c.place_of.ensures ∙ c.in-Some.is in
    on_ok_weaker c.grow.result (λ (is : c.grow.new.self ≡ grown c.args.growth c.index_mut.result.now).
    grown_place c.args.growth c.args.id o c.in-Some.place c.index_mut.result.now c.grow.new.self at c.index_mut.ensures.value c.self.invariant is
    ∙ ap (λ (p : Entities). with_change (grown c.args.growth) p c.args.id) c.self.view_is) c.grow.ensures.ok

pub returns-clause-err : goal.returns-clause-err
returns-clause-err c =
    let o : Entities = record { next = c.self.inside.next; live = c.self.inside.list.items } in
    on_err_weaker c.grow.result (λ (is : c.grow.new.self ≡ c.index_mut.result.now).
    kept_place o c.in-Some.place c.index_mut.result.now c.grow.new.self c.index_mut.ensures.value is ∙ c.self.view_is) c.grow.ensures.err
