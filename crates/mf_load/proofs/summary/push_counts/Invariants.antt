use Rattle.std.proofs.Common.{◌≡◌, ◌++◌, take, string_bytes}
use Rattle.std.specs.List.{flat_map}
use Rattle.mf_load.specs.Replied.{counted_text}
use Rattle.mf_load.proofs.summary.push_counts.Given as goal

abbrev pub invariant-loop-errno : goal.invariant-loop-errno
invariant-loop-errno l = string_bytes l.out ≡ string_bytes l.fn.out ++ flat_map (counted_text l.replied) (take l.errno-index l.errnos)
