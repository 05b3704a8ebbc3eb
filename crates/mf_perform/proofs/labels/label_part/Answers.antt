use Rattle.std.proofs.Common.{◌≡◌, ℕ, Option, Some, ap, sym, ◌∙◌}
use Rattle.std.specs.Prelude.{slice_index_or}
use Rattle.mf_elem.specs.declared.label.LabelValue.{LabelValue}
use Rattle.mf_elem.specs.declared.label.LabelValue.TheVariants.{Unset}
use Rattle.mf_list.specs.Asked.{slot_of}
use Rattle.mf_plan.specs.declared.reply.LabelPart.{LabelPart}
use Rattle.mf_plan.specs.Payloads.{shown}
use Rattle.mf_perform.proofs.LabelParts.{no_part, part_at}
use Rattle.mf_perform.proofs.labels.label_part.Goals as goal

pub returns-in_err-place : goal.returns-in_err-place
returns-in_err-place c = c.from_residual.ensures ∙ no_part c.args.module c.args.specs.now c.args.label.now (sym c.find.ensures ∙ c.in_err-place.was)

pub returns : goal.returns
returns c =
    let r = c.registration.result in
    let label = c.args.label.now in
    let value : c.shown-value.result ≡ shown (slice_index_or label (slot_of r) Unset) =
    c.shown-value.ensures ∙ ap shown (c.value_in.ensures ∙ ap (λ (slot : ℕ). slice_index_or label slot Unset) c.unwrap_or-slot.ensures) in
    ap {B = Option LabelPart} (λ (v : LabelValue). Some (record { «module» = c.args.module; value = v })) value
    ∙ part_at c.args.module c.args.specs.now label c.in_ok-place.place r (sym c.find.ensures ∙ c.in_ok-place.was) c.registration.ensures
