use Rattle.std.proofs.Common.{arith, refl, sym, subst, ◌∙◌}
use Rattle.mf_core.specs.LegalHistory.{MayCome}
use Rattle.mf_flow.proofs.Followed.{all_flows, all_replayed, flow_slots, flows_more, next_may, opening_flows, opening_replayed, replayed_more, still_registered}
use Rattle.mf_flow.specs.Table.{sourced}
use Rattle.mf_flow.proofs.table.follow_all.Goals as goal

pub loop-event-init : goal.loop-event-init
loop-event-init c =
    let s = c.args.script.now in
    let h = c.args.history.now in
    let es = c.as_slice-event-items.result.now in
    let replay = c.args.run.now in (
      opening_replayed s h es replay c.as_slice-event-items.ensures c.requires.legal c.requires.run,
      c.requires.registrations,
      opening_flows s h (sourced h.boots) es replay replay.run.state c.args.flows.now.items c.requires.formed c.requires.legal refl
          c.as_slice-event-items.ensures c.requires.run refl c.requires.registrations c.requires.opening,
    )

pub follow-requires-clause-slots : goal.follow-requires-clause-slots
follow-requires-clause-slots c =
    flow_slots c.args.script.now c.as_slice-event-items.result.now c.loop-event.event-index c.loop-event.run c.loop-event.flows.items c.loop-event.invariant.2

pub follow-requires-clause-script : goal.follow-requires-clause-script
follow-requires-clause-script c = c.loop-event.invariant.0.script

pub follow-requires-clause-may : goal.follow-requires-clause-may
follow-requires-clause-may c =
    subst (MayCome c.args.script.now c.loop-event.run.run) (sym c.event-item.is)
    (next_may c.args.script.now c.as_slice-event-items.result.now c.loop-event.event-index c.loop-event.run c.event-item.result (omega arith) c.loop-event.invariant.0)

pub loop-event-preserved : goal.loop-event-preserved
loop-event-preserved c =
    let s = c.args.script.now in
    let es = c.as_slice-event-items.result.now in
    let n = c.loop-event.event-index in
    let replay = c.loop-event.run in
    let e = c.event-item.result in (
      replayed_more s es n replay c.follow.new.run e e (omega arith) c.loop-event.invariant.0 c.event-item.is c.in_ok-follow.ensures.run,
      still_registered s replay.run e c.loop-event.flows.items c.follow.new.flows.items c.in_ok-follow.ensures.flows ∙ c.loop-event.invariant.1,
      flows_more s es n replay c.follow.new.run e e c.loop-event.flows.items c.follow.new.flows.items (omega arith) c.loop-event.invariant.0 c.event-item.is
          c.in_ok-follow.ensures.run c.in_ok-follow.ensures.flows c.loop-event.invariant.2,
    )

pub returns-clause-run : goal.returns-clause-run
returns-clause-run c =
    all_replayed c.args.script.now c.args.history.now c.as_slice-event-items.result.now c.loop-event.event-index c.loop-event.run
    c.as_slice-event-items.ensures (omega arith) c.loop-event.invariant.0

pub returns-clause-registrations : goal.returns-clause-registrations
returns-clause-registrations c = c.loop-event.invariant.1

pub returns-clause-flows : goal.returns-clause-flows
returns-clause-flows c =
    all_flows c.args.script.now c.args.history.now c.as_slice-event-items.result.now c.loop-event.event-index c.loop-event.run c.loop-event.flows.items
    c.as_slice-event-items.ensures (omega arith) c.loop-event.invariant.0 c.loop-event.invariant.2
