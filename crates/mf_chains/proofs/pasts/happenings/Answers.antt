use Rattle.std.proofs.Common.{◌+◌, arith, ap, length, subst, sym}
use Rattle.mf_core.proofs.FewLines.{few_events}
use Rattle.mf_core.specs.LegalHistory.{MayCome}
use Rattle.mf_flow.proofs.Followed.{all_replayed, next_may, opening_replayed, replayed_more}
use Rattle.mf_chains.specs.Happenings.{happened_in, opening_happenings}
use Rattle.mf_chains.proofs.Walking.{begun, happened_all, happened_more, slots_after}
use Rattle.mf_chains.proofs.pasts.happenings.Goals as goal

pub overflow_cast-number : goal.overflow_cast-number
overflow_cast-number c =
    grind (arith, few_events c.args.script.now c.args.history.now.events.list c.requires.formed c.requires.legal.events, c.loop-place-test.true, ap length c.as_slice-event-items.ensures)

pub overflow_add-number : goal.overflow_add-number
overflow_add-number c =
    grind (arith, few_events c.args.script.now c.args.history.now.events.list c.requires.formed c.requires.legal.events, c.loop-place-test.true, ap length c.as_slice-event-items.ensures)

pub loop-place-init : goal.loop-place-init
loop-place-init c =
    let s = c.args.script.now in
    let es = c.as_slice-event-items.result.now in
    let o = c.state.result.now.objects in (
      opening_replayed s c.args.history.now es c.in_ok-run.run' c.as_slice-event-items.ensures c.requires.legal c.in_ok-run.ensures,
      slots_after (λ r. opening_happenings r o) c.args.pasts.now.items c.begin_each.new.pasts.items c.in_ok-begin_each.ensures c.requires.slots,
      begun s es c.in_ok-run.run' c.state.result.now c.args.pasts.now.items c.begin_each.new.pasts.items c.in_ok-run.ensures c.state.ensures c.in_ok-begin_each.ensures,
    )

pub follow-requires-clause-slots : goal.follow-requires-clause-slots
follow-requires-clause-slots c = c.loop-place.invariant.1

pub follow-requires-clause-script : goal.follow-requires-clause-script
follow-requires-clause-script c = c.loop-place.invariant.0.script

pub follow-requires-clause-may : goal.follow-requires-clause-may
follow-requires-clause-may c =
    subst (MayCome c.args.script.now c.loop-place.run.run) (sym c.event-item.is)
    (next_may c.args.script.now c.as_slice-event-items.result.now c.loop-place.place c.loop-place.run c.event-item.result (omega arith) c.loop-place.invariant.0)

pub loop-place-preserved : goal.loop-place-preserved
loop-place-preserved c =
    let s = c.args.script.now in
    let es = c.as_slice-event-items.result.now in
    let n = c.loop-place.place in
    let replay = c.loop-place.run in
    let e = c.event-item.result in (
      replayed_more s es n replay c.follow.new.run e e (omega arith) c.loop-place.invariant.0 c.event-item.is c.in_ok-follow.ensures.run,
      slots_after (λ r. happened_in s r replay.run (n + 1) e) c.loop-place.pasts.items c.follow.new.pasts.items c.in_ok-follow.ensures.pasts c.loop-place.invariant.1,
      happened_more s es n replay.run c.follow.new.run c.loop-place.pasts.items c.follow.new.pasts.items _ e e (omega arith) c.event-item.is c.in_ok-follow.ensures.run
          c.loop-place.invariant.2 c.in_ok-follow.ensures.pasts,
    )

pub returns-clause-run : goal.returns-clause-run
returns-clause-run c =
    all_replayed c.args.script.now c.args.history.now c.as_slice-event-items.result.now c.loop-place.place c.loop-place.run
    c.as_slice-event-items.ensures (omega arith) c.loop-place.invariant.0

pub returns-clause-pasts : goal.returns-clause-pasts
returns-clause-pasts c =
    happened_all c.args.script.now c.as_slice-event-items.result.now c.args.history.now.events.list c.loop-place.place c.loop-place.run.run c.args.pasts.now.items c.loop-place.pasts.items
    (omega arith) c.as_slice-event-items.ensures c.loop-place.invariant.2
