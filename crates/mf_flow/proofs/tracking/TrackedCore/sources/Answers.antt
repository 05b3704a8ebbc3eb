use Rattle.std.proofs.Common.{◌≡◌, List, ap, map, sym, subst, ◌∙◌, refl}
use Rattle.std.specs.List.{AllByRecursion}
use Rattle.std.specs.Prelude.{IfOk}
use Rattle.mf_calls.specs.declared.script.Script.{Script}
use Rattle.mf_calls.specs.WellFormed.{IsWellFormed}
use Rattle.mf_plan.specs.declared.state.State.{State}
use Rattle.mf_core.specs.declared.history.History.{History}
use Rattle.mf_core.specs.CoreView.{CoreView}
use Rattle.mf_core.specs.LegalHistory.{IsLegal}
use Rattle.mf_flow.specs.Rows.{IsFlowOf}
use Rattle.mf_flow.specs.declared.following.Flow.{Flow}
use Rattle.mf_flow.specs.Laws.{AreInOrder}
use Rattle.mf_flow.specs.Table.{sourced, table_of}
use Rattle.mf_flow.proofs.Dominating.{in_order}
use Rattle.mf_flow.proofs.Followed.{where_ok}
use Rattle.mf_flow.proofs.Listed.{whole_table}
use Rattle.mf_flow.proofs.tracking.TrackedCore.sources.Goals as goal

pub sources-requires-clause-formed : goal.sources-requires-clause-formed
sources-requires-clause-formed c = subst IsWellFormed (sym c.script.ensures) c.history-history.ensures.formed

pub sources-requires-clause-legal : goal.sources-requires-clause-legal
sources-requires-clause-legal c =
    subst (λ (s : Script). IsLegal s c.history-history.result.now) (sym c.script.ensures)
    (subst (IsLegal c.self.inside.core.script) (sym c.history-history.ensures.value) c.history-history.ensures.legal)

pub returns-then-not-is_tracked-clause-table : goal.returns-then-not-is_tracked-clause-table
returns-then-not-is_tracked-clause-table c =
    subst (λ (k : CoreView). IfOk c.sources.result (λ table. table ≡ table_of k.script k.history)) c.self.view_is
    (subst (λ (h : History). IfOk c.sources.result (λ table. table ≡ table_of c.self.inside.core.script h)) c.history-history.ensures.value
    (subst (λ (s : Script). IfOk c.sources.result (λ table. table ≡ table_of s c.history-history.result.now)) c.script.ensures c.sources.ensures.table))

pub returns-then-not-is_tracked-clause-order : goal.returns-then-not-is_tracked-clause-order
returns-then-not-is_tracked-clause-order c =
    where_ok c.sources.result (subst (λ (k : CoreView). AreInOrder k.script k.history) c.self.view_is
    (in_order c.self.inside.core.script c.self.inside.core.history c.history-history.ensures.formed c.history-history.ensures.legal))

pub returns-clause-table : goal.returns-clause-table
returns-clause-table c =
    let core = c.self.inside.core in
    let are = c.self.invariant.0 c.if-not-is_tracked.false in
    let flows = c.deref.result.now in
    subst (λ (k : CoreView). IfOk c.list_flows.result (λ table. table ≡ table_of k.script k.history)) c.self.view_is
    (whole_table core.script core.history (sourced core.history.boots) flows c.list_flows.result refl
    (ap (λ (fs : List Flow). map (λ (f : Flow). f.registration) fs) c.deref.ensures.value ∙ are.0)
    (c.list_flows.ensures core.script core.history (ap (λ (x : State). x.objects) c.state.ensures)
    (subst (AllByRecursion (IsFlowOf core.script core.history)) (sym c.deref.ensures.value) are.1)))

pub returns-clause-order : goal.returns-clause-order
returns-clause-order c =
    where_ok c.list_flows.result (subst (λ (k : CoreView). AreInOrder k.script k.history) c.self.view_is
    (in_order c.self.inside.core.script c.self.inside.core.history c.history-history.ensures.formed c.history-history.ensures.legal))
