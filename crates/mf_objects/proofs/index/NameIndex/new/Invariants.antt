use Rattle.std.proofs.Common.{◌≡◌, [], replicate}
use Rattle.mf_objects.proofs.index.NameIndex.new.Given as goal

abbrev pub invariant-loop : goal.invariant-loop
invariant-loop l = l.buckets.items ≡ replicate l.counter []
