use Rattle.std.proofs.Common.{Bool, subst, arith}
use Rattle.mf_audit.specs.Taking.{Takes}
use Rattle.mf_audit.proofs.Playing.{played_all, played_few, played_more, played_none, played_stops}
use Rattle.mf_audit.proofs.audit.audit_events.Goals as goal

pub loop-event-init : goal.loop-event-init
loop-event-init c =
    record {
      played = played_none c.args.script.now c.args.events.now c.in_ok-player.player c.in_ok-player.ensures.opening;
      reached = c.in_ok-player.ensures.reached;
      line = omega arith;
    }

pub overflow_add-result : goal.overflow_add-result
overflow_add-result c =
    let few = played_few c.args.script.now c.args.events.now c.loop-event.event-index c.loop-event.player c.loop-event.invariant.played c.requires.formed (omega arith) in
    omega (arith, few, c.loop-event.invariant.line, c.requires.few)

pub overflow_add-line : goal.overflow_add-line
overflow_add-line c =
    let few = played_few c.args.script.now c.args.events.now c.loop-event.event-index c.loop-event.player c.loop-event.invariant.played c.requires.formed (omega arith) in
    omega (arith, few, c.loop-event.invariant.line, c.requires.few)

pub returns-then-not-branch : goal.returns-then-not-branch
returns-then-not-branch c =
    let takes = subst (λ (is : Bool). Takes c.loop-event.player c.event-item.result c.take.new.self is) c.if-not-branch.true c.in_ok-take.ensures in
    played_stops c.args.script.now c.args.events.now c.loop-event.event-index c.loop-event.player c.loop-event.invariant.played c.args.boots _ c.event-item.result
    (omega arith) c.event-item.is takes (omega (arith, c.loop-event.invariant.line))

pub loop-event-preserved : goal.loop-event-preserved
loop-event-preserved c =
    let takes = subst (λ (is : Bool). Takes c.loop-event.player c.event-item.result c.take.new.self is) c.if-not-branch.false c.in_ok-take.ensures in
    record {
      played = played_more c.args.script.now c.args.events.now c.loop-event.event-index c.loop-event.player c.loop-event.invariant.played c.event-item.result c.take.new.self
          (omega arith) c.event-item.is takes.0 takes.1;
      reached = takes.2;
      line = omega (arith, c.loop-event.invariant.line);
    }

pub returns : goal.returns
returns c =
    played_all c.args.script.now c.args.events.now c.loop-event.event-index c.loop-event.player c.loop-event.invariant.played c.args.boots c.is_complete.result
    (omega arith) c.is_complete.ensures
