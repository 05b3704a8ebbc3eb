use Rattle.std.proofs.Common.{◌≡◌, ◌≤◌, length, take}
use Rattle.mf_hist.specs.ReplyText.{numbered_from}
use Rattle.mf_hist.proofs.reply.count_rules.Given as goal

abbrev pub invariant-loop-slot : goal.invariant-loop-slot
invariant-loop-slot l = record {
  count : l.count ≡ length (numbered_from 0 (take l.slot-index l.rules));
  few : l.count ≤ l.slot-index;
}
