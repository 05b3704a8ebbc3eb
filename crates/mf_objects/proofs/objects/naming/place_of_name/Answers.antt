use Rattle.std.proofs.Common.{[], arith}
use Rattle.mf_objects.proofs.FirstNames.{at_start, found_place, texts, texts_length}
use Rattle.mf_objects.proofs.objects.naming.place_of_name.Goals as goal

pub returns-else-le : goal.returns-else-le
returns-else-le c =
    found_place c.args.name.now c.args.names.now c.loop-place.place (record { ref_ptr = (0, 0); now = [] }) c.le.result c.requires c.loop-place-test.true c.loop-place.invariant.within
    c.le.ensures c.if-le.false c.loop-place.invariant.behind

pub returns-after-loop-place : goal.returns-after-loop-place
returns-after-loop-place c =
    at_start c.args.name.now (texts c.args.names.now) c.loop-place.place (omega arith)
    (λ d l. c.loop-place.invariant.behind d (omega (arith, l, texts_length c.args.names.now)))
