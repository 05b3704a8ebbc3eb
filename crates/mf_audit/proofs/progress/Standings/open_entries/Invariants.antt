use Rattle.std.proofs.Common.{◌≡◌, ◌≤◌, take}
use Rattle.mf_core.specs.Progress.{open_entries}
use Rattle.mf_audit.proofs.progress.Standings.open_entries.Given as goal

abbrev pub invariant-loop-standing : goal.invariant-loop-standing
invariant-loop-standing l = record {
  value : l.inside ≡ open_entries (take l.standing-index l.standing-items);
  most : l.inside ≤ l.standing-index;
}
