use Rattle.std.proofs.Common.{◌≡◌, ◌↔◌, List, IsTrue, ap, sym, ◌∙◌, subst}
use Rattle.mf_elem.specs.declared.label.LabelValue.{LabelValue}
use Rattle.mf_objects.specs.Live.{Entities, label_at}
use Rattle.mf_objects.specs.Sound.{IsPlace}
use Rattle.mf_objects.proofs.Kept.{view}
use Rattle.mf_objects.proofs.Found.{label_there}
use Rattle.mf_objects.proofs.objects.Objects.has_label.Goals as goal

pub returns : goal.returns
returns c =
    let next = c.self.inside.next in
    let zones = c.self.inside.zones in
    let es = c.self.inside.entities.items in
    let e = c.index.result.now in
    let place : IsPlace (view next zones es) c.args.id c.place-place.result =
    subst (λ (o : Entities). IsPlace o c.args.id c.place-place.result) (sym c.self.view_is) c.place-place.ensures in
    let here = label_there next zones es c.args.id c.place-place.result e place c.index.ensures ∙ ap (λ (o : Entities). label_at o c.args.id) c.self.view_is in
    subst (λ (label : List LabelValue). IsTrue c.has_values.result ↔ (c.args.label.now ≡ label)) here c.has_values.ensures
