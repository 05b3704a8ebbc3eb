use Rattle.std.proofs.Common.{◌≡◌}
use Rattle.mf_calls.specs.Generated.{load_files}
use Rattle.mf_calls.proofs.generated.load_files.Given as goal

abbrev pub invariant-loop-task : goal.invariant-loop-task
invariant-loop-task l = record { so_far : l.files ≡ load_files l.task }
