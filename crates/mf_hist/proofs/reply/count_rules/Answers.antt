use Rattle.mf_hist.proofs.Numbered.{counted, few_more}
use Rattle.mf_hist.proofs.reply.count_rules.Goals as goal

pub loop-slot-preserved : goal.loop-slot-preserved
loop-slot-preserved c = record {
  count = counted c.args.rules.now c.as_slice-slot-items.result.now c.loop-slot.slot-index c.loop-slot.count c.from-count.result c.is_some.result
      c.as_slice-slot-items.ensures.value c.loop-slot-test.true c.is_some.ensures c.from-count.ensures c.loop-slot.invariant.count;
  few = few_more c.loop-slot.slot-index c.loop-slot.count c.from-count.result c.is_some.result c.from-count.ensures c.loop-slot.invariant.few;
}
