use Rattle.std.proofs.Common.{ap, ◌∙◌}
use Rattle.mf_core.specs.declared.history.History.{History}
use Rattle.mf_flow.proofs.Followed.{slots_within}
use Rattle.mf_flow.proofs.Noted.{sources_first}
use Rattle.mf_flow.specs.Table.{sourced}
use Rattle.mf_flow.proofs.tracking.TrackedCore.of.Goals as goal

pub opening_flows-requires : goal.opening_flows-requires
opening_flows-requires c =
    slots_within c.args.core.script c.args.core.history c.deref.result.now c.history.ensures.formed c.history.ensures.legal
    (c.deref.ensures.value ∙ c.in_ok-booted.ensures ∙ ap (λ (h : History). sourced h.boots) c.history.ensures.value)

pub invariant_of-result : goal.invariant_of-result
invariant_of-result c = (
  λ yes.
      sources_first c.args.core.script c.args.core.history c.state.result.now c.in_ok-flows.flows.items c.history.ensures.formed c.history.ensures.legal c.requires c.state.ensures
      (c.in_ok-flows.ensures.registrations ∙ c.deref.ensures.value ∙ c.in_ok-booted.ensures ∙ ap (λ (h : History). sourced h.boots) c.history.ensures.value)
      c.in_ok-flows.ensures.opening,
  tt,
)
