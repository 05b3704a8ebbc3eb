use Rattle.std.proofs.Common.{ap, map, subst, sym, ◌∙◌}
use Rattle.std.specs.List.{AllByRecursion}
use Rattle.mf_plan.specs.declared.state.State.{State}
use Rattle.mf_core.specs.LegalHistory.{RunState}
use Rattle.mf_flow.specs.declared.following.Flow.{Flow}
use Rattle.mf_flow.specs.Rows.{IsFlowOf, IsOpening}
use Rattle.mf_flow.proofs.Followed.{slots_within}
use Rattle.mf_flow.proofs.Listed.{whole_table}
use Rattle.mf_flow.proofs.table.sources_along.Goals as goal

pub opening_flows-requires : goal.opening_flows-requires
opening_flows-requires c = slots_within c.args.script.now c.args.history.now c.args.booted.now c.requires.formed c.requires.legal c.requires.booted

pub follow_all-requires-clause-registrations : goal.follow_all-requires-clause-registrations
follow_all-requires-clause-registrations c = c.in_ok-flows.ensures.registrations ∙ c.requires.booted

pub follow_all-requires-clause-opening : goal.follow_all-requires-clause-opening
follow_all-requires-clause-opening c =
    subst (λ (x : State). AllByRecursion (IsOpening x.objects) c.in_ok-flows.flows.items) c.state.ensures c.in_ok-flows.ensures.opening

pub returns : goal.returns
returns c =
    let s = c.args.script.now in
    let h = c.args.history.now in
    let flows = c.deref.result.now in
    let same = c.deref.ensures.value in
    whole_table s h c.args.booted.now flows c.list_flows.result c.requires.booted
    (ap (map (λ (f : Flow). f.registration)) same ∙ c.in_ok-follow_all.ensures.registrations ∙ sym c.requires.booted)
    (c.list_flows.ensures s h (ap (λ (x : State). x.objects) c.state-2.ensures ∙ ap (λ (x : RunState). x.state.objects) c.in_ok-follow_all.ensures.run)
    (subst (AllByRecursion (IsFlowOf s h)) (sym same) c.in_ok-follow_all.ensures.flows))
