use Rattle.std.proofs.Common.{refl}
use Rattle.mf_core.specs.declared.history.Event.TheVariants as event
use Rattle.mf_flow.proofs.Noted.{sources_stay}
use Rattle.mf_flow.proofs.tracking.TrackedCore.leave.Goals as goal

pub invariant_of-self : goal.invariant_of-self
invariant_of-self c = (
  λ yes.
      sources_stay c.self.inside.core c.leave.new.self (event.Leave c.args.task) c.self.inside.flows.items (λ f. refl) c.leave.ensures.event c.history-history.ensures.formed
      c.history-history.ensures.legal (c.self.invariant.0 yes),
  tt,
)
