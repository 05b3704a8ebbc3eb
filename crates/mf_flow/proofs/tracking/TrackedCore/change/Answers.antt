use Rattle.std.proofs.Common.{◌≡◌}
use Rattle.mf_flow.proofs.Noted.{sources_changed}
use Rattle.mf_flow.proofs.tracking.TrackedCore.change.Goals as goal

pub invariant_of-self : goal.invariant_of-self
invariant_of-self g c = (
  λ yes.
      sources_changed (c.change-outcome.new.list ≡ c.args.list.now) (c.change-outcome.new.catalogue ≡ c.args.catalogue.now) c.self.inside.core c.change-outcome.new.self c.args.task c.change-outcome.result c.self.inside.flows.items c.change-outcome.ensures.outcome c.change-outcome.ensures.err
      c.history-history.ensures.formed c.history-history.ensures.legal (c.self.invariant.0 yes),
  tt,
)
