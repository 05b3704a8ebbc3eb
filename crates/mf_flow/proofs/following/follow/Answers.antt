use Rattle.std.proofs.Common.{refl, subst, sym}
use Rattle.std.specs.Prelude.{OnOk}
use Rattle.mf_core.specs.declared.history.Event.{Event}
use Rattle.mf_core.specs.declared.history.Event.TheVariants as event
use Rattle.mf_flow.specs.Rows.{EachBecomes}
use Rattle.mf_flow.proofs.Followed.{Becomes, unmoved, where_ok}
use Rattle.mf_flow.proofs.following.follow.Goals as goal

pub returns-in-Done-clause-flows : goal.returns-in-Done-clause-flows
returns-in-Done-clause-flows c =
    subst (λ (e : Event). OnOk c.follow_call.result (EachBecomes (Becomes c.args.script.now c.args.run.now.run e) c.args.flows.now.items c.follow_call.new.flows.items))
    (sym c.in-Done.is) c.follow_call.ensures.flows

pub returns-in-Enter-clause-flows : goal.returns-in-Enter-clause-flows
returns-in-Enter-clause-flows c = unmoved c.args.script.now c.args.run.now.run c.args.event.now (event.Enter c.in-Enter.task) c.args.flows.now.items c.in-Enter.is (λ f. refl)

pub returns-in-Leave-clause-flows : goal.returns-in-Leave-clause-flows
returns-in-Leave-clause-flows c = unmoved c.args.script.now c.args.run.now.run c.args.event.now (event.Leave c.in-Leave.task) c.args.flows.now.items c.in-Leave.is (λ f. refl)

pub returns-in-Changed-clause-flows : goal.returns-in-Changed-clause-flows
returns-in-Changed-clause-flows c =
    where_ok c.change.result
    (unmoved c.args.script.now c.args.run.now.run c.args.event.now (event.Changed c.in-Changed.task c.in-Changed.number c.in-Changed.reply) c.args.flows.now.items c.in-Changed.is (λ f. refl))
