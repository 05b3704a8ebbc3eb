use Rattle.std.proofs.Common.{◌≡◌, map, refl, subst, sym}
use Rattle.std.specs.Prelude.{OnOk}
use Rattle.mf_core.specs.declared.history.Event.{Event}
use Rattle.mf_core.specs.declared.history.Event.TheVariants as event
use Rattle.mf_flow.proofs.Followed.{where_ok}
use Rattle.mf_chains.specs.Happenings.{happened_in}
use Rattle.mf_chains.specs.Pasts.{with_more}
use Rattle.mf_chains.proofs.Walking.{nothing_happened}
use Rattle.mf_chains.proofs.pasts.follow.Goals as goal

pub returns-in-Done-clause-pasts : goal.returns-in-Done-clause-pasts
returns-in-Done-clause-pasts c =
    subst (λ (e : Event). OnOk c.follow_call.result
    (c.follow_call.new.pasts.items ≡ map (with_more (λ r. happened_in c.args.script.now r c.args.run.now.run c.args.number e)) c.args.pasts.now.items))
    (sym c.in-Done.is) c.follow_call.ensures.pasts

pub returns-in-Enter-clause-pasts : goal.returns-in-Enter-clause-pasts
returns-in-Enter-clause-pasts c =
    nothing_happened c.args.script.now c.args.run.now.run c.args.event.now (event.Enter c.in-Enter.task) c.args.number c.args.pasts.now.items c.in-Enter.is (λ r. refl)

pub returns-in-Leave-clause-pasts : goal.returns-in-Leave-clause-pasts
returns-in-Leave-clause-pasts c =
    nothing_happened c.args.script.now c.args.run.now.run c.args.event.now (event.Leave c.in-Leave.task) c.args.number c.args.pasts.now.items c.in-Leave.is (λ r. refl)

pub returns-in-Changed-clause-pasts : goal.returns-in-Changed-clause-pasts
returns-in-Changed-clause-pasts c =
    where_ok c.change.result
    (nothing_happened c.args.script.now c.args.run.now.run c.args.event.now (event.Changed c.in-Changed.task c.in-Changed.line_number c.in-Changed.reply) c.args.number c.args.pasts.now.items
    c.in-Changed.is (λ r. refl))
