use Rattle.std.proofs.Common.{◌≡◌, ◌++◌, List, [], ap, sym, subst, arith, ◌∙◌, string_bytes, take, append-nil}
use Rattle.mf_text.proofs.Appending.{extends_behind, on_err}
use Rattle.mf_core.specs.declared.history.Event.{Event}
use Rattle.mf_core.specs.LegalHistory.{MayCome, RunState, opening_run, run_after}
use Rattle.mf_core.specs.RunView.{RunView}
use Rattle.mf_flow.proofs.Followed.{next_may, opening_replayed, replayed_more}
use Rattle.mf_why.specs.Slots.{HaveLabelSlots}
use Rattle.mf_why.specs.WhyText.{events_text}
use Rattle.mf_why.proofs.Slots.{slots_after}
use Rattle.mf_why.proofs.Telling.{reached_more, text_all, text_more, told_behind}
use Rattle.mf_why.proofs.adding.push_events.Goals as goal

pub loop-event-init : goal.loop-event-init
loop-event-init c =
    let s = c.args.script.now in
    let es = c.as_slice-events.result.now in
    let here : c.in_ok-run.run'.run ≡ opening_run s = ap (λ (x : RunView). x.run) c.in_ok-run.ensures in (
      opening_replayed s c.args.history.now es c.in_ok-run.run' c.as_slice-events.ensures c.requires.legal c.in_ok-run.ensures,
      here,
      ap (λ (r : RunState). string_bytes c.args.text.now ++ events_text c.args.extent s r es) here,
      ([], sym (append-nil (string_bytes c.args.text.now))),
    )

pub follow-requires-clause-slots : goal.follow-requires-clause-slots
follow-requires-clause-slots c =
    subst (λ (r : RunState). HaveLabelSlots r.state.specs) (sym c.loop-event.invariant.1)
    (slots_after c.args.script.now (take c.loop-event.event-index c.as_slice-events.result.now) c.requires.formed)

pub follow-requires-clause-script : goal.follow-requires-clause-script
follow-requires-clause-script c = c.loop-event.invariant.0.script

pub follow-requires-clause-may : goal.follow-requires-clause-may
follow-requires-clause-may c =
    subst (MayCome c.args.script.now c.loop-event.run.run) (sym c.event-item.is)
    (next_may c.args.script.now c.as_slice-events.result.now c.loop-event.event-index c.loop-event.run c.event-item.result (omega arith) c.loop-event.invariant.0)

pub loop-event-preserved : goal.loop-event-preserved
loop-event-preserved c =
    let s = c.args.script.now in
    let es = c.as_slice-events.result.now in
    let n = c.loop-event.event-index in
    let before = c.loop-event.run in
    let e = c.event-item.result in
    let next : c.follow.new.run.run ≡ run_after s before.run e = ap (λ (x : RunView). x.run) c.in_ok-follow.ensures.run in (
      replayed_more s es n before c.follow.new.run e e (omega arith) c.loop-event.invariant.0 c.event-item.is c.in_ok-follow.ensures.run,
      next ∙ reached_more s es n before.run e e (omega arith) c.event-item.is c.loop-event.invariant.1,
      text_more c.args.extent s es n before.run c.follow.new.run.run e e (string_bytes c.loop-event.text) (string_bytes c.follow.new.text) _ (omega arith) c.event-item.is next
          c.in_ok-follow.ensures.ok c.loop-event.invariant.2,
      told_behind (string_bytes c.args.text.now) (string_bytes c.loop-event.text) (string_bytes c.follow.new.text) c.loop-event.invariant.3.0 _ c.loop-event.invariant.3.1
          c.in_ok-follow.ensures.ok,
    )

pub returns-in_err-follow-clause-err : goal.returns-in_err-follow-clause-err
returns-in_err-follow-clause-err c =
    on_err c.from_residual-in_err-follow.result
    (extends_behind (string_bytes c.args.text.now) c.loop-event.invariant.3.0 (string_bytes c.loop-event.text) (string_bytes c.follow.new.text) c.loop-event.invariant.3.1
    c.in_err-follow.ensures.err)

pub returns-clause-ok : goal.returns-clause-ok
returns-clause-ok c =
    let s = c.args.script.now in
    let es = c.as_slice-events.result.now in
    text_all c.args.extent s es c.loop-event.event-index c.loop-event.run.run (string_bytes c.loop-event.text) _ (omega arith) c.loop-event.invariant.2
    ∙ ap (λ (xs : List Event). string_bytes c.args.text.now ++ events_text c.args.extent s (opening_run s) xs) c.as_slice-events.ensures
