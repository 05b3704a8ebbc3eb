use Rattle.std.proofs.Common.{◌≡◌, ℕ, ◌<◌}
use Rattle.mf_core.specs.declared.progress.Turn.TheVariants as turn
use Rattle.mf_core.specs.LegalHistory.{turn_of}
use Rattle.mf_audit.proofs.player.Player.is_complete.Given as goal

abbrev pub invariant-loop-task : goal.invariant-loop-task
invariant-loop-task l = (t : ℕ) → t < l.task → turn_of l.self.script l.self.run.progress t ≡ turn.Finished
