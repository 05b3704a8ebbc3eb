use Rattle.std.proofs.Common.{◌≡◌, ◌+◌, ◌≤◌, take}
use Rattle.std.specs.Prelude.{fold}
use Rattle.mf_core.specs.Opening.{with_file}
use Rattle.mf_audit.proofs.opening.add_files.Given as goal

abbrev pub invariant-loop-file : goal.invariant-loop-file
invariant-loop-file l = record {
  value : l.parties ≡ fold (with_file l.listed) l.fn.parties (take l.file-index l.file-items);
  ids : l.parties.next ≤ 1 + l.file-index;
}
