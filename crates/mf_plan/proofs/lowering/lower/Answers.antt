use Rattle.std.proofs.Common.{arith}
use Rattle.mf_plan.proofs.LoweredViews.{finds_it, one_more}
use Rattle.mf_plan.proofs.lowering.lower.Goals as goal

pub subject_for-check-requires-clause-first : goal.subject_for-check-requires-clause-first
subject_for-check-requires-clause-first c none =
    finds_it c.args.slot c.args.caller c.args.own c.args.subjects.now c.args.checks.now c.loop-place.place c.loop-place.subjects c.loop-place.checks
    c.loop-place.value c.loop-place.is_lowered _ c.requires.places c.requires.first
    (omega (arith, c.loop-place-test.true, c.loop-place.invariant.long)) c.loop-place.invariant none

pub loop-place-preserved : goal.loop-place-preserved
loop-place-preserved c =
    one_more c.args.slot c.args.caller c.args.own c.args.subjects.now c.args.checks.now c.loop-place.place
    c.loop-place.subjects c.subject_for-check.new.subjects c.loop-place.checks c.loop-place.value c.lower_once-is_lowered.new.value
    c.loop-place.is_lowered c.lower_once-is_lowered.result _ c.subject_for-check.result c.requires.places
    (omega (arith, c.loop-place-test.true, c.loop-place.invariant.long)) c.subject_for-check.ensures.place c.subject_for-check.ensures.within c.subject_for-check.ensures.grows
    c.subject_for-check.ensures.few c.lower_once-is_lowered.ensures.value c.lower_once-is_lowered.ensures.same c.loop-place.invariant
