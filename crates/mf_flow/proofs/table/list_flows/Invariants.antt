use Rattle.std.proofs.Common.{◌≡◌, take}
use Rattle.std.specs.List.{AllByRecursion, flat_map}
use Rattle.mf_calls.specs.declared.script.Script.{Script}
use Rattle.mf_core.specs.declared.history.History.{History}
use Rattle.mf_core.specs.LegalHistory.{run_state_of}
use Rattle.mf_flow.specs.Rows.{IsFlowOf}
use Rattle.mf_flow.specs.Table.{rows_for}
use Rattle.mf_flow.proofs.table.list_flows.Given as goal

abbrev pub invariant-loop-flow : goal.invariant-loop-flow
invariant-loop-flow l =
    (s : Script) (h : History) → l.objects ≡ (run_state_of s h.events.list).state.objects → AllByRecursion (IsFlowOf s h) l.flows
    → l.table ≡ flat_map (λ flow. rows_for s h flow.registration) (take l.flow-index l.flows)
