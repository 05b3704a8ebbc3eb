use Rattle.std.proofs.Common.{ℕ, Option, ap, sym, ◌∙◌}
use Rattle.std.specs.Prelude.{slice_index_or, unwrap_or}
use Rattle.mf_elem.specs.declared.label.LabelValue.TheVariants.{Unset}
use Rattle.mf_objects.specs.Live.{label_at}
use Rattle.mf_plan.specs.Payloads.{shown}
use Rattle.mf_audit.proofs.Comparing.{listed_part, no_part}
use Rattle.mf_audit.proofs.payloads.label_part.Goals as goal

pub returns-then-not-is_listed : goal.returns-then-not-is_listed
returns-then-not-is_listed c =
    no_part c.args.module c.args.listed.now (label_at c.args.parties.now c.args.id) (sym c.is_listed.ensures ∙ search)

pub returns : goal.returns
returns c =
    let label = label_at c.args.parties.now c.args.id in
    listed_part c.args.module c.args.listed.now label _ (sym c.is_listed.ensures ∙ search)
    (c.shown_value-value.ensures
    ∙ ap shown (c.value.ensures ∙ ap (λ (slot : ℕ). slice_index_or label slot Unset) (c.unwrap_or-slot.ensures ∙ ap (λ (slot : Option ℕ). unwrap_or slot 0) c.slot_in.ensures)))
