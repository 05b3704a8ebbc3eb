use Rattle.std.proofs.Common.{arith}
use Rattle.mf_plan.proofs.Viewing.{one_more}
use Rattle.mf_plan.proofs.views.fill_views.Goals as goal

pub loop-place-preserved : goal.loop-place-preserved
loop-place-preserved c =
    one_more c.args.objects.now c.args.asked.now c.args.checks.now c.loop-place.place c.loop-place.subjects c.place_of_subject-subject.new.subjects c.loop-place.seen
    c.loop-place.last _ c.look_again.new.seen c.place_of_subject-subject.result
    c.loop-place.invariant (omega arith) c.place_of_subject-subject.ensures.grows c.look_again.ensures.subject
    c.place_of_subject-subject.ensures.within c.place_of_subject-subject.ensures.place c.look_again.ensures.asked
    c.place_of_subject-subject.ensures.last c.place_of_subject-subject.ensures.few
