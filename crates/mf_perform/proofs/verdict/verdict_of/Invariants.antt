use Rattle.std.proofs.Common.{◌≡◌, ◌+◌, drop}
use Rattle.mf_perform.specs.Verdict.{denial_from}
use Rattle.mf_perform.proofs.verdict.verdict_of.Given as goal

abbrev pub invariant-loop-place : goal.invariant-loop-place
invariant-loop-place g l = record {
  counts : l.number ≡ l.place + 1;
  so_far : denial_from l.list 1 l.plan.items ≡ denial_from l.list l.number (drop l.place l.plan.items);
}
