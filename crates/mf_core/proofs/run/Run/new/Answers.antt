use Rattle.mf_core.proofs.Reached.{opening_reached}
use Rattle.mf_core.proofs.run.Run.new.Goals as goal

pub invariant_of-result : goal.invariant_of-result
invariant_of-result c =
    opening_reached c.args.script.now c.in_ok-objects.objects c.in_ok-specs.specs c.in_ok-specs.numbers c.in_ok-progress.progress c.requires
    c.in_ok-specs.ensures.specs c.in_ok-specs.ensures.numbers
    c.in_ok-objects.ensures.value c.in_ok-objects.ensures.few.ids c.in_ok-progress.ensures
