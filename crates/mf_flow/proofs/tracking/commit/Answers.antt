use Rattle.std.proofs.Common.{map, ap, ◌∙◌}
use Rattle.mf_calls.specs.declared.script.Script.{Script}
use Rattle.mf_calls.specs.Tasks.{name_of}
use Rattle.mf_plan.specs.Outline.{item_of}
use Rattle.mf_perform.specs.Passed.{passed}
use Rattle.mf_flow.specs.Transfers.{descriptor_of}
use Rattle.mf_flow.proofs.Noted.{call_noted, slots_moved, slots_of}
use Rattle.mf_flow.proofs.tracking.commit.Goals as goal

pub note_moves-is_noted-requires-clause-slots : goal.note_moves-is_noted-requires-clause-slots
note_moves-is_noted-requires-clause-slots c = λ yes.
    slots_of c.args.core.now.script c.args.core.now.history c.args.flows.now.items c.history-before.ensures.formed c.history-before.ensures.legal (c.requires.tracked yes)

pub note_rest-requires : goal.note_rest-requires
note_rest-requires c = λ yes.
    let k = c.args.core.now in
    let state = c.state-state.result.now in
    let moved = c.note_moves-is_noted.ensures yes in
    slots_moved k.script k.history state (descriptor_of state c.name_of-name.result.now c.line-line.result.now) (map (item_of state.objects) (passed c.args.reply c.args.outline.now.checks))
    c.args.flows.now.items c.note_moves-is_noted.new.flows.items c.history-before.ensures.formed c.history-before.ensures.legal (c.requires.tracked moved.0) moved.1

pub returns-clause-tracked : goal.returns-clause-tracked
returns-clause-tracked c = λ yes.
    let settled = c.note_rest.ensures yes in
    let moved = c.note_moves-is_noted.ensures settled.0 in
    call_noted c.args.core.now c.commit.new.self c.args.task c.args.reply c.state-state.result.now c.state.result.now c.name_of-name.result.now c.line-line.result.now c.args.outline.now
    c.next_id-next.result c.is_ok-is_done.result c.args.flows.now.items c.note_moves-is_noted.new.flows.items c.note_rest.new.flows.items c.state-state.ensures
    (c.name_of-name.ensures ∙ ap (λ (s : Script). name_of s c.args.task) c.script.ensures) c.line-line.ensures.value c.requires.outline c.requires.found c.in_ok-commit.ensures.event
    c.next_id-next.ensures c.state.ensures c.is_ok-is_done.ensures moved.1 settled.1 c.history-after.ensures.formed c.history-after.ensures.legal (c.requires.tracked moved.0)
