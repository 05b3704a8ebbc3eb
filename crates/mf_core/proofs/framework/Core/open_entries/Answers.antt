use Rattle.std.proofs.Common.{ap, sym, ◌∙◌}
use Rattle.mf_core.specs.LegalHistory.{RunState}
use Rattle.mf_core.specs.Progress.{open_entries}
use Rattle.mf_core.proofs.Insides.{run_state_here}
use Rattle.mf_core.proofs.framework.Core.open_entries.Goals as goal

pub returns : goal.returns
returns c = c.open_entries.ensures ∙ sym (ap (λ (m : RunState). open_entries m.progress) (run_state_here c.args.self.now c.self.inside.run c.self.inside.history c.self.view_is c.self.invariant))
