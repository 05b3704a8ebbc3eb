use Rattle.std.proofs.Common.{◌≡◌, ◌++◌, ℕ, List, Option, None, Some, ap, sym, ◌∙◌, get_or, map, reverse, string_bytes, append_assoc, take}
use Rattle.std.specs.Prelude.{codes}
use Rattle.std.proofs.lemmas.Result.{on_ok_weaker}
use Rattle.mf_objects.specs.declared.id.Id.{Id}
use Rattle.mf_objects.specs.declared.entity.Entity.{Entity}
use Rattle.mf_objects.specs.Titles.{path_in, parent_of}
use Rattle.mf_objects.specs.Sound.{unlabelled}
use Rattle.mf_objects.proofs.Paths.{one_entity, path_of_none, path_of_place, path_unsaid}
use Rattle.mf_objects.proofs.Shorthands.{below}
use Rattle.mf_objects.proofs.objects.naming.+push_path.Goals as goal

pub returns-in-None-clause-ok : goal.returns-in-None-clause-ok
returns-in-None-clause-ok t c =
    path_unsaid (string_bytes c.args.out.now) (path_in (reverse (map unlabelled c.args.entities.now)) c.args.id)
    (path_of_none c.args.entities.now c.args.id (sym c.place_of.ensures ∙ c.in-None.is))

pub returns-in-None-parent-clause-ok : goal.returns-in-None-parent-clause-ok
returns-in-None-parent-clause-ok t c =
    let es = c.args.entities.now in
    let place = c.in-Some.place in
    let e : Entity = c.index-entities-place.result in
    let none : parent_of (get_or es place e).what ≡ None = sym c.parent.ensures ∙ c.in-None-parent.is in
    path_unsaid (string_bytes c.args.out.now) (path_in (reverse (map unlabelled es)) c.args.id)
    (path_of_place es c.args.id place e c.requires (sym c.place_of.ensures ∙ c.in-Some.is)
    ∙ ap (λ (o : Option Id). below (path_in (reverse (map unlabelled (take place es)))) o (get_or es place e).name) none)

pub returns-in_ok-push_path-in-Some-parent-clause-ok : goal.returns-in_ok-push_path-in-Some-parent-clause-ok
returns-in_ok-push_path-in-Some-parent-clause-ok t c =
    let es = c.args.entities.now in
    let place = c.in-Some.place in
    let out : List ℕ = string_bytes c.args.out.now in
    let e : Entity = c.index-entities-place.result in
    let named : Entity = get_or es place c.index-entities-place-in-Some-parent.result in
    let at = sym c.place_of.ensures ∙ c.in-Some.is in
    let some : parent_of (get_or es place e).what ≡ Some c.in-Some-parent.dir =
    sym c.parent.ensures ∙ c.in-Some-parent.is in
    let same : get_or es place e ≡ named = one_entity es c.args.id place e c.index-entities-place-in-Some-parent.result at in
    let above : List ℕ = path_in (reverse (map unlabelled (take place es))) c.in-Some-parent.dir in
    let whole : path_in (reverse (map unlabelled es)) c.args.id ≡ above ++ codes "/" ++ named.name =
    path_of_place es c.args.id place e c.requires at
    ∙ ap (λ (o : Option Id). below (path_in (reverse (map unlabelled (take place es)))) o (get_or es place e).name) some
    ∙ ap (λ (x : Entity). above ++ codes "/" ++ x.name) same in
    on_ok_weaker c.push_component.result
    (λ (is : string_bytes c.push_component.new.out ≡ string_bytes c.push_path.new.out ++ codes "/" ++ c.as_str.result.now).
    is
    ∙ ap (λ (bytes : List ℕ). bytes ++ codes "/" ++ c.as_str.result.now) c.in_ok-push_path-in-Some-parent.ensures.ok
    ∙ ap (λ (name : List ℕ). (out ++ above) ++ codes "/" ++ name) c.as_str.ensures
    ∙ ap (λ (bytes : List ℕ). bytes ++ named.name) (append_assoc out above (codes "/"))
    ∙ append_assoc out (above ++ codes "/") named.name
    ∙ ap (λ (bytes : List ℕ). out ++ bytes) (sym whole)) c.push_component.ensures.ok
