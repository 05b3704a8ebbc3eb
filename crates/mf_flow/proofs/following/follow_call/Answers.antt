use Rattle.std.proofs.Common.{◌≡◌, ap, sym, subst, map, Bool, List, ℕ, Option, refl, ◌∙◌}
use Rattle.std.specs.Option.{option_zip}
use Rattle.std.proofs.lemmas.Result.{on_ok_weaker}
use Rattle.mf_calls.specs.declared.script.Script.{Script}
use Rattle.mf_plan.specs.Planned.{Plan}
use Rattle.mf_plan.specs.declared.plan.Tail.TheVariants.{Do}
use Rattle.mf_plan.specs.Found.{AreFound}
use Rattle.mf_plan.specs.Names.{caller_name}
use Rattle.mf_plan.specs.Outline.{item_asking, item_of}
use Rattle.mf_plan.specs.declared.state.State.{State}
use Rattle.mf_objects.specs.Live.{Entities}
use Rattle.mf_plan.specs.OutlineOf.{IsOutlineOf}
use Rattle.mf_plan.specs.Plan.{call_row, plan_in, plan_of}
use Rattle.mf_plan.specs.Views.{process_named}
use Rattle.mf_core.specs.LegalHistory.{run_after}
use Rattle.mf_core.specs.NextFound.{IsNextOutline}
use Rattle.mf_core.specs.RunView.{RunView}
use Rattle.mf_perform.specs.Passed.{passed}
use Rattle.mf_flow.specs.declared.following.Flow.{Flow}
use Rattle.mf_flow.specs.Rows.{HasLabelSlot, IsKept, where_done, flow_after_event, flow_moved, flow_settled}
use Rattle.mf_flow.specs.Transfers.{descriptor_of}
use Rattle.mf_flow.proofs.Becoming.{all_becoming, becomes_along}
use Rattle.mf_core.specs.declared.history.Event.TheVariants as event
use Rattle.mf_flow.proofs.DoneCalls.{done_asked, done_flow, done_line, done_outline, passed_map}
use Rattle.mf_flow.proofs.following.follow_call.Goals as goal

pub returns-clause-flows : goal.returns-clause-flows
returns-clause-flows c =
    let s = c.args.script.now in
    let run = c.args.run.now.run in
    let said = c.args.reply.now in
    let e = event.Done c.args.task c.args.number said in
    let state = c.state-state.result.now in
    let state' = c.state.result.now in
    let task = c.name_of-name.result.now in
    let line = c.line_at-line.result.now in
    let outline = c.make.new.self in
    let checks = passed said outline.checks in
    let request = outline.found.request in
    let caller = outline.found.caller in
    let asked = where_done c.is_ok.result (option_zip outline.found.target request) in
    let fd = descriptor_of state task line in
    let next = c.next_id-next.result in
    let next_is = done_line s run e c.args.task c.args.number said line refl c.requires.may c.line_at-line.ensures in
    let outline_tail : (plan_of state task line.child line.call).tail ≡ Do → outline.tail ≡ Do =
    λ tail. ap (λ (p : Plan). p.tail) c.make.ensures.plan ∙ ap (λ (child : Option (List ℕ)). (plan_of state task child line.call).tail) c.child_name-child.ensures ∙ tail in
    let after_is : state' ≡ (run_after s run e).state =
    c.state.ensures ∙ ap (λ (x : RunView). x.run.state) c.in_ok-commit.ensures.ok ∙ ap (λ (x : Script). (run_after x run e).state) c.requires.script in
    let items_are : map (item_asking state.objects request) checks ≡ passed said (plan_in state (call_row state task line.child line.call)).items =
    sym (passed_map said (item_asking state.objects request) outline.checks)
    ∙ ap (λ (p : Plan). passed said p.items) c.make.ensures.plan
    ∙ ap (λ (child : Option (List ℕ)). passed said (plan_in state (call_row state task child line.call)).items) c.child_name-child.ensures in
    let caller_is = c.make.ensures.caller ∙ ap (λ (child : Option (List ℕ)). process_named state.objects (caller_name task child)) c.child_name-child.ensures in
    let asked_is =
    ap (λ (b : Bool). where_done b (option_zip outline.found.target request)) c.is_ok.ensures
    ∙ done_asked s run e c.args.task c.args.number said state task line outline.found refl c.requires.may c.state-state.ensures c.name_of-name.ensures next_is
    (λ tail. subst (λ (child : Option (List ℕ)). AreFound state task child line.call outline.found) c.child_name-child.ensures (c.make.ensures.found (outline_tail tail))) in
    on_ok_weaker c.settle_each.result (λ settled.
    becomes_along (λ (f new : Flow). new ≡ flow_moved state fd (map (item_of state.objects) checks) f)
    (λ (f new : Flow). IsKept state'.objects (flow_settled next state'.objects caller asked f) new)
    (λ (f new : Flow). IsKept (run_after s run e).state.objects (flow_after_event s run e f) new)
    c.args.flows.now.items c.move_passed.new.flows.items c.settle_each.new.flows.items
    (λ f moved new is kept.
    subst (λ (o : Entities). IsKept o (flow_after_event s run e f) new) (ap (λ (x : State). x.objects) after_is)
    (subst (λ (x : Flow). IsKept state'.objects x new)
    (done_flow s run e c.args.task c.args.number said state state' task line f moved fd request checks next caller asked
    refl c.state-state.ensures after_is c.name_of-name.ensures next_is items_are is refl c.next_id-next.ensures caller_is asked_is)
    kept))
    c.in_ok-move_passed.ensures settled) c.settle_each.ensures

pub settle_each-requires : goal.settle_each-requires
settle_each-requires c =
    let s = c.state-state.result.now in
    let fd = descriptor_of s c.name_of-name.result.now c.line_at-line.result.now in
    let checks = passed c.args.reply.now c.make.new.self.checks in
    all_becoming (λ (f new : Flow). new ≡ flow_moved s fd (map (item_of s.objects) checks) f) HasLabelSlot HasLabelSlot c.args.flows.now.items c.move_passed.new.flows.items
    (λ f new is slot. subst HasLabelSlot (sym is) slot) c.in_ok-move_passed.ensures c.requires.slots

-- the outline is that of the call
pub commit-requires-clause-outline : goal.commit-requires-clause-outline
commit-requires-clause-outline c =
    let s = c.args.script.now in
    let run = c.args.run.now.run in
    let e = event.Done c.args.task c.args.number c.args.reply.now in
    let state = c.state-state.result.now in
    let task = c.name_of-name.result.now in
    let line = c.line_at-line.result.now in
    let made = c.make.ensures in
    subst (λ (x : Script). IsNextOutline x run c.args.task c.make.new.self) (sym c.requires.script)
    (done_outline s run c.args.task state task line c.make.new.self c.state-state.ensures c.name_of-name.ensures
    (done_line s run e c.args.task c.args.number c.args.reply.now line refl c.requires.may c.line_at-line.ensures)
    (subst (λ (child : Option (List ℕ)). IsOutlineOf state task child line.call c.make.new.self) c.child_name-child.ensures
    (record { plan = made.plan; live = made.live; caller = made.caller; lives = made.lives; found = made.found })))
