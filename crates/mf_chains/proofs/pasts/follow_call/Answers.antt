use Rattle.std.proofs.Common.{◌≡◌, ◌++◌, ap, sym, subst, map, List, ℕ, Option, None, refl, ◌∙◌}
use Rattle.std.specs.Option.{option_copied, option_zip}
use Rattle.std.proofs.lemmas.Result.{on_ok_weaker}
use Rattle.mf_calls.specs.declared.script.Script.{Script}
use Rattle.mf_plan.specs.Planned.{Plan}
use Rattle.mf_plan.specs.declared.plan.Tail.TheVariants.{Do}
use Rattle.mf_plan.specs.declared.reply.Reply.{Reply}
use Rattle.mf_plan.specs.Found.{AreFound}
use Rattle.mf_plan.specs.Names.{caller_name}
use Rattle.mf_plan.specs.Outline.{item_asking, item_of}
use Rattle.mf_plan.specs.OutlineOf.{IsOutlineOf}
use Rattle.mf_plan.specs.Plan.{call_row, plan_in, plan_of}
use Rattle.mf_plan.specs.Views.{process_named}
use Rattle.mf_perform.specs.OneCall.{after_reply}
use Rattle.mf_perform.specs.Passed.{passed}
use Rattle.mf_core.specs.declared.history.Event.TheVariants as event
use Rattle.mf_core.specs.LegalHistory.{run_after}
use Rattle.mf_core.specs.NextFound.{IsNextOutline}
use Rattle.mf_core.specs.RunView.{RunView}
use Rattle.mf_flow.specs.Transfers.{descriptor_of}
use Rattle.mf_flow.proofs.DoneCalls.{done_asked, done_line, done_outline, passed_map}
use Rattle.mf_chains.specs.Happenings.{coming_at, happened_in, moving_from, relabelling}
use Rattle.mf_chains.proofs.Telling.{asked_after, done_happened}
use Rattle.mf_chains.proofs.Walking.{more_and_more, slots_after}
use Rattle.mf_chains.proofs.pasts.follow_call.Goals as goal

pub returns-clause-pasts : goal.returns-clause-pasts
returns-clause-pasts c =
    let s = c.args.script.now in
    let run = c.args.run.now.run in
    let said = c.args.reply.now in
    let n = c.args.event in
    let e = event.Done c.args.task c.args.line_number said in
    let state = c.state-state.result.now in
    let state' = c.state.result.now in
    let task = c.name_of-name.result.now in
    let line = c.line_at-line.result.now in
    let outline = c.make.new.self in
    let checks = c.passed-checks.result.now in
    let request = outline.found.request in
    let caller = outline.found.caller in
    let asked = c.asked_of-asked.result in
    let fd = option_copied c.descriptor_of_call-fd.result in
    let next = c.next_id-next.result in
    let next_is = done_line s run e c.args.task c.args.line_number said line refl c.requires.may c.line_at-line.ensures in
    let said_is = c.get-said.ensures ∙ c.lend-lent.ensures in
    let outline_tail : (plan_of state task line.child line.call).tail ≡ Do → outline.tail ≡ Do =
    λ tail. ap (λ (p : Plan). p.tail) c.make.ensures.plan ∙ ap (λ (child : Option (List ℕ)). (plan_of state task child line.call).tail) c.child_name-child.ensures ∙ tail in
    let after_is : state' ≡ (run_after s run e).state =
    c.state.ensures ∙ ap (λ (x : RunView). x.run.state) c.in_ok-commit.ensures.ok ∙ ap (λ (x : Script). (run_after x run e).state) c.requires.script in
    let items_are : map (item_asking state.objects request) checks ≡ passed said (plan_in state (call_row state task line.child line.call)).items =
    ap (map (item_asking state.objects request)) (c.passed-checks.ensures ∙ ap (λ xs. passed c.get-said.result.now xs) c.as_slice.ensures.value
    ∙ ap (λ (x : Reply). passed x outline.checks) said_is)
    ∙ sym (passed_map said (item_asking state.objects request) outline.checks)
    ∙ ap (λ (p : Plan). passed said p.items) c.make.ensures.plan
    ∙ ap (λ (child : Option (List ℕ)). passed said (plan_in state (call_row state task child line.call)).items) c.child_name-child.ensures in
    let caller_is = c.make.ensures.caller ∙ ap (λ (child : Option (List ℕ)). process_named state.objects (caller_name task child)) c.child_name-child.ensures in
    let fd_is : fd ≡ descriptor_of state task line =
    c.descriptor_of_call-fd.ensures.value ∙ ap (λ (child : Option (List ℕ)). descriptor_of state task (record line { child = child })) c.child_name-child.ensures in
    let asked_is =
    c.asked_of-asked.ensures ∙ ap (λ (x : Reply). after_reply x None (option_zip outline.found.target request)) said_is
    ∙ asked_after said (option_zip outline.found.target request)
    ∙ done_asked s run e c.args.task c.args.line_number said state task line outline.found refl c.requires.may c.state-state.ensures c.name_of-name.ensures next_is
    (λ tail. subst (λ (child : Option (List ℕ)). AreFound state task child line.call outline.found) c.child_name-child.ensures
    (c.make.ensures.found (outline_tail tail))) in
    on_ok_weaker c.settle_each.result (λ settled.
    more_and_more (λ r. moving_from r state fd n 1 (map (item_of state.objects) checks))
    (λ r. coming_at r state'.objects n caller next ++ relabelling r state'.objects n asked) (λ r. happened_in s r run n e)
    c.args.pasts.now.items c.move_each.new.pasts.items c.settle_each.new.pasts.items
    (λ r. done_happened s r run e c.args.task c.args.line_number n said state state' task line fd request checks next caller asked
    refl c.state-state.ensures after_is c.name_of-name.ensures next_is items_are fd_is c.next_id-next.ensures caller_is asked_is)
    c.in_ok-move_each.ensures settled) c.settle_each.ensures

pub settle_each-requires : goal.settle_each-requires
settle_each-requires c =
    let state = c.state-state.result.now in
    slots_after (λ r. moving_from r state (option_copied c.descriptor_of_call-fd.result) c.args.event 1 (map (item_of state.objects) c.passed-checks.result.now))
    c.args.pasts.now.items c.move_each.new.pasts.items c.in_ok-move_each.ensures c.requires.slots

-- the outline is that of the call
pub commit-requires-clause-outline : goal.commit-requires-clause-outline
commit-requires-clause-outline c =
    let s = c.args.script.now in
    let run = c.args.run.now.run in
    let e = event.Done c.args.task c.args.line_number c.args.reply.now in
    let state = c.state-state.result.now in
    let task = c.name_of-name.result.now in
    let line = c.line_at-line.result.now in
    let outline = c.make.new.self in
    subst (λ (x : Script). IsNextOutline x run c.args.task outline) (sym c.requires.script)
    (done_outline s run c.args.task state task line outline c.state-state.ensures c.name_of-name.ensures
    (done_line s run e c.args.task c.args.line_number c.args.reply.now line refl c.requires.may c.line_at-line.ensures)
    (subst (λ (child : Option (List ℕ)). IsOutlineOf state task child line.call outline) c.child_name-child.ensures
    (record {
      plan = c.make.ensures.plan;
      live = c.make.ensures.live;
      caller = c.make.ensures.caller;
      lives = c.make.ensures.lives;
      found = c.make.ensures.found;
    })))
