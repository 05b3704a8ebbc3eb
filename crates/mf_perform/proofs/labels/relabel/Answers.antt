use Rattle.std.proofs.Common.{◌≡◌, List, [], ◌∷◌, Option, Some, ap, sym, ◌∙◌}
use Rattle.std.specs.Option.{option_zip}
use Rattle.mf_elem.specs.declared.label.LabelValue.{LabelValue}
use Rattle.mf_elem.specs.declared.label.Request.{Request}
use Rattle.mf_slots.specs.Zones.{given_to}
use Rattle.mf_objects.specs.Changes.{with_change}
use Rattle.mf_objects.specs.Labels.{with_label}
use Rattle.mf_objects.specs.Live.{Entities, label_at}
use Rattle.mf_objects.specs.declared.id.Id.{Id}
use Rattle.mf_policy.specs.Relabelled.{relabelled}
use Rattle.std.specs.Option.{option_map_or}
use Rattle.mf_plan.specs.Effect.Effect.{Relabel, Unchanged}
use Rattle.mf_perform.specs.Effect.{after, with_objects}
use Rattle.mf_perform.proofs.Given.{given_each}
use Rattle.mf_perform.proofs.labels.relabel.Goals as goal

pub returns-in_ok-relabel-clause-ok : goal.returns-in_ok-relabel-clause-ok
returns-in_ok-relabel-clause-ok c = λ me.
    let s = c.args.state.now in
    let id = c.in-Some-Some.id in
    let request = c.in-Some-Some.request in
    let label = label_at s.objects id in
    let first = c.give.new.value in
    let second = c.give-in-Some-Some.new.value in
    let third = c.give-in-Some-Some-2.new.value in
    let fourth = c.give-in-Some-Some-3.new.value in
    let each : given_to (first ∷ second ∷ third ∷ fourth ∷ []) label ≡ relabelled s.specs request label =
    given_each first second third fourth s.specs request label c.give.ensures c.give-in-Some-Some.ensures c.give-in-Some-Some-2.ensures c.give-in-Some-Some-3.ensures in
    let asked : option_zip c.args.target c.args.asked.now ≡ Some (id, request) = (λ k. option_zip (c.in-Some-Some.is-0 k) (c.in-Some-Some.is-1 k)) in
    ap (λ (o : Entities). with_objects s o) (c.in_ok-relabel.ensures.ok ∙ ap (λ (values : List LabelValue). with_change (with_label values) s.objects id) each)
    ∙ sym (ap (λ (o : Option (Id × Request)). after s me (option_map_or (λ (a : Id × Request). Relabel a.0 a.1) o Unchanged)) asked)
