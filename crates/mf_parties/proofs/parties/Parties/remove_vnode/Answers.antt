use Rattle.std.proofs.Common.{◌≡◌, List, not, ap, sym, ◌∙◌, subst}
use Rattle.std.specs.Prelude.{filter}
use Rattle.mf_objects.specs.Live.{LiveEntity, Entities, has_id}
use Rattle.mf_objects.specs.Changes.{with_what}
use Rattle.mf_objects.specs.Descriptors.{with_fds, closed_on, without_vnode}
use Rattle.mf_parties.specs.Standing.{IsStanding}
use Rattle.mf_parties.proofs.Standing.{standing_unlinked, whole}
use Rattle.mf_parties.proofs.parties.Parties.remove_vnode.Goals as goal

pub invariant_of-self : goal.invariant_of-self
invariant_of-self c =
    let o : Entities = record { next = c.self.inside.next; live = c.self.inside.list.items } in
    let closed = whole c.self.inside.list.len (with_what (with_fds (closed_on c.args.id))) c.deref_mut.result.now c.close_on.new.list o.live c.close_on.ensures c.deref_mut.ensures.value c.deref_mut.ensures.len in
    let is : c.remove.new.list.items ≡ (without_vnode c.args.id o).live = c.remove.ensures ∙ ap (filter (λ (e : LiveEntity). not (has_id c.args.id e))) closed in
    subst (λ (es : List LiveEntity). IsStanding (record { next = c.self.inside.next; live = es })) (sym is) (standing_unlinked c.args.id o c.requires c.self.invariant)
