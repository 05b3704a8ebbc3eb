use Rattle.std.proofs.Common.{Option, sym, subst}
use Rattle.mf_objects.specs.declared.id.Id.{Id}
use Rattle.mf_plan.specs.declared.state.State.{State}
use Rattle.mf_perform.specs.Effect.{after}
use Rattle.mf_perform.specs.Relisting.{effect_in}
use Rattle.mf_core.specs.declared.run.changing.Relisted.{Relisted}
use Rattle.mf_core.specs.LegalHistory.{next_state}
use Rattle.mf_core.specs.Policies.{AreOf}
use Rattle.mf_core.specs.Relisted.{AreListedAfter}
use Rattle.mf_core.specs.RunView.{RunView}
use Rattle.mf_core.proofs.run.Run.relisted.Goals as goal

pub returns-clause-policies : goal.returns-clause-policies
returns-clause-policies g c =
    let nobody : Id = record { 0 = 0 } in
    let run = c.args.self.now.run in
    let next = next_state c.args.self.now.script run c.args.task in
    let change = effect_in c.in-Some.listed.relisting in
    let listed = subst (λ (listed : Option Relisted). AreListedAfter run.state next c.args.reply.now listed) c.in-Some.is c.in_ok-listed.ensures.value in
    subst (λ (s : State). AreOf s.specs c.args.fixed.now c.relist.new.list c.relist.new.catalogue) (sym (listed.1.made nobody))
    (subst (λ (v : RunView). AreOf (after v.run.state nobody change).specs c.args.fixed.now c.relist.new.list c.relist.new.catalogue) c.self.view_is (c.in_ok-relist.ensures.ok nobody))
