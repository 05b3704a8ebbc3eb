use Rattle.std.proofs.Common.{◌≡◌, ◌<◌, take}
use Rattle.std.specs.Prelude.{fold}
use Rattle.mf_objects.specs.Index.{mixed, seed_of}
use Rattle.mf_objects.proofs.index.bucket_of.Given as goal

abbrev pub invariant-loop-byte : goal.invariant-loop-byte
invariant-loop-byte l = (l.hash ≡ fold mixed (seed_of l.fn.group) (take l.byte-index l.byte-items)) × (l.hash < 16777220)
