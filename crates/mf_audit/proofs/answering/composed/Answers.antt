use Rattle.std.proofs.Common.{ap, arith, sym, ◌∙◌}
use Rattle.mf_compose.specs.Composition.{composition}
use Rattle.mf_compose.proofs.Composed.{composition_of_none}
use Rattle.mf_audit.proofs.Answers.{all_taken, one_more, some_entry}
use Rattle.mf_audit.proofs.answering.composed.Goals as goal

pub loop-place-init : goal.loop-place-init
loop-place-init c = sym composition_of_none

pub loop-place-preserved : goal.loop-place-preserved
loop-place-preserved c =
    c.select-selected.ensures
    ∙ one_more c.args.listed.now c.args.item.now c.loop-place.place some_entry c.loop-place.selected c.answer_at.result (omega arith) c.loop-place.invariant
    (c.answer_at.ensures some_entry)

pub returns : goal.returns
returns c = c.loop-place.invariant ∙ ap composition (all_taken c.args.listed.now c.args.item.now c.loop-place.place (omega arith))
