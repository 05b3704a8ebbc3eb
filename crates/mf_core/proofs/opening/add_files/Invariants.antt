use Rattle.std.proofs.Common.{◌≡◌, ◌+◌, take}
use Rattle.std.specs.Prelude.{fold}
use Rattle.mf_core.specs.Opening.{with_file}
use Rattle.mf_core.specs.Registering.{HasAtMost}
use Rattle.mf_core.proofs.opening.add_files.Given as goal

abbrev pub invariant-loop-file : goal.invariant-loop-file
invariant-loop-file l = record {
  value : l.objects ≡ fold (with_file l.listed) l.fn.objects (take l.file-index l.file-items);
  few : HasAtMost l.objects (1 + l.file-index);
}
