use Rattle.std.proofs.Common.{◌≡◌, List, ℕ, Option, ap, map, subst, ◌∙◌}
use Rattle.std.specs.Prelude.{OnOk}
use Rattle.std.specs.Option.{option_copied}
use Rattle.mf_objects.specs.declared.descriptors.Fd.{Fd}
use Rattle.mf_plan.specs.declared.outline.Check.{Check}
use Rattle.mf_plan.specs.declared.reply.Reply.{Reply}
use Rattle.mf_plan.specs.Outline.{item_of}
use Rattle.mf_perform.specs.Passed.{passed}
use Rattle.mf_flow.specs.declared.following.Flow.{Flow}
use Rattle.mf_flow.specs.Rows.{EachBecomes, flow_moved}
use Rattle.mf_flow.specs.Transfers.{descriptor_of}
use Rattle.mf_flow.proofs.following.move_passed.Goals as goal

pub returns : goal.returns
returns c =
    let s = c.args.state.now in
    let task = c.args.task.now in
    let line = c.args.line.now in
    let checks = c.args.outline.now.checks in
    let moved = λ (fd : Option Fd) (xs : List Check).
    OnOk c.move_in_each.result (EachBecomes (λ (f new : Flow). new ≡ flow_moved s fd (map (item_of s.objects) xs) f) c.args.flows.now.items c.move_in_each.new.flows.items) in
    let fd_is : option_copied c.descriptor_of_call-fd.result ≡ descriptor_of s task line =
    c.descriptor_of_call-fd.ensures.value ∙ ap (λ (child : Option (List ℕ)). descriptor_of s task (record line { child = child })) c.child_name.ensures in
    let checks_are : c.passed-checks.result.now ≡ passed c.args.reply.now checks =
    c.passed-checks.ensures ∙ ap (λ xs. passed c.get-said.result.now xs) c.as_slice.ensures.value
    ∙ ap (λ (said : Reply). passed said checks) (c.get-said.ensures ∙ c.lend-lent.ensures) in
    subst (λ (fd : Option Fd). moved fd (passed c.args.reply.now checks)) fd_is (subst (moved (option_copied c.descriptor_of_call-fd.result)) checks_are c.move_in_each.ensures)
