use Rattle.std.proofs.Common.{ap, sym, ◌∙◌, get_or}
use Rattle.mf_errno.specs.declared.errno.Errno.TheVariants.{Success}
use Rattle.mf_errno.specs.OfTwo.{select}
use Rattle.mf_compose.proofs.Composed.{composition_more}
use Rattle.mf_compose.proofs.composition.fold.Goals as goal

pub loop-answer-preserved : goal.loop-answer-preserved
loop-answer-preserved c =
    let more = composition_more c.args.answers.now c.loop-answer.answer-index Success c.loop-answer-test.true in
    let so_far = ap (select (get_or c.args.answers.now c.loop-answer.answer-index Success)) c.loop-answer.invariant in
    c.select-selected.ensures ∙ so_far ∙ sym more
