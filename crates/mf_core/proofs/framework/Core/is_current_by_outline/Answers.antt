use Rattle.std.proofs.Common.{◌≡◌, List, Some, IsTrue, ap, subst, sym, ◌∙◌}
use Rattle.mf_policy.specs.Registration.{Entry}
use Rattle.mf_plan.specs.declared.state.State.{State}
use Rattle.mf_plan.specs.Outline.{AreLive, outlined}
use Rattle.mf_plan.specs.Plan.{lowering_by}
use Rattle.mf_plan.specs.Planned.{Plan}
use Rattle.std.specs.Prelude.{IfSome, IsSome}
use Rattle.mf_objects.specs.Live.{live_at}
use Rattle.mf_core.specs.CoreView.{run_state, specs_of}
use Rattle.mf_core.specs.LegalHistory.{RunState}
use Rattle.mf_core.specs.Next.{next_plan}
use Rattle.mf_core.proofs.Calls.{caller_lives, found_by, outline_live, same_plan, shown}
use Rattle.mf_core.proofs.Insides.{outline_here, plan_same, run_state_here}
use Rattle.mf_core.proofs.framework.Core.is_current_by_outline.Goals as goal

pub is_outlined-requires-clause-live : goal.is_outlined-requires-clause-live
is_outlined-requires-clause-live g c =
    let here = outline_here c.args.self.now c.self.inside.run c.self.inside.history c.self.view_is c.self.invariant c.args.task c.args.outline.now c.requires in
    subst (λ (s : State). AreLive s.objects c.args.outline.now.checks) (sym c.state-state.ensures)
    (outline_live c.self.inside.run.script c.self.inside.run.run c.args.task c.args.outline.now here)

pub is_outlined-requires-clause-caller : goal.is_outlined-requires-clause-caller
is_outlined-requires-clause-caller g c =
    let here = outline_here c.args.self.now c.self.inside.run c.self.inside.history c.self.view_is c.self.invariant c.args.task c.args.outline.now c.requires in
    subst (λ (s : State). IfSome c.args.outline.now.found.caller (λ id. IsSome (live_at s.objects id))) (sym c.state-state.ensures)
    (caller_lives c.self.inside.run.script c.self.inside.run.run c.args.task c.args.outline.now here)

-- the plan that the outline shows in the present state is that of the call
pub returns-clause-is : goal.returns-clause-is
returns-clause-is g c =
    let k = c.args.self.now in
    let outline = c.args.outline.now in
    let state = c.state-state.result.now in
    let here = outline_here k c.self.inside.run c.self.inside.history c.self.view_is c.self.invariant c.args.task outline c.requires in
    let next : next_plan k.script (run_state k) c.args.task ≡ Some (lowering_by state outline.found.caller (outlined state.objects outline)) =
    plan_same k c.self.inside.run c.self.inside.history c.self.view_is c.self.invariant c.args.task
    ∙ shown c.self.inside.run.script c.self.inside.run.run c.args.task outline here
    ∙ ap (λ (s : State). Some (lowering_by s outline.found.caller (outlined s.objects outline))) (sym c.state-state.ensures) in
    let listed : c.args.list.now ≡ specs_of k =
    c.same_specs.ensures.0 c.if-not-same_specs.false
    ∙ ap (λ (s : State). s.specs) c.state-state.ensures
    ∙ sym (ap (λ (r : RunState). r.state.specs) (run_state_here k c.self.inside.run c.self.inside.history c.self.view_is c.self.invariant)) in (
      λ yes. (next ∙ ap (λ (p : Plan). Some p) (sym (c.is_outlined.ensures.0 yes)), listed),
      λ current.
          c.is_outlined.ensures.1
          (same_plan (next_plan k.script (run_state k) c.args.task) c.args.plan.now (lowering_by state outline.found.caller (outlined state.objects outline)) current.0 next),
    )

pub returns-clause-found : goal.returns-clause-found
returns-clause-found g c = λ tail yes.
    let k = c.args.self.now in
    let outline = c.args.outline.now in
    let state = c.state-state.result.now in
    let here = outline_here k c.self.inside.run c.self.inside.history c.self.view_is c.self.invariant c.args.task outline c.requires in
    let next : next_plan k.script (run_state k) c.args.task ≡ Some c.args.plan.now =
    plan_same k c.self.inside.run c.self.inside.history c.self.view_is c.self.invariant c.args.task
    ∙ shown c.self.inside.run.script c.self.inside.run.run c.args.task outline here
    ∙ ap (λ (s : State). Some (lowering_by s outline.found.caller (outlined s.objects outline))) (sym c.state-state.ensures)
    ∙ ap (λ (p : Plan). Some p) (sym (c.is_outlined.ensures.0 yes)) in
    found_by k.script (run_state k) c.args.task outline c.requires c.args.plan.now next tail
