use Rattle.std.proofs.Common.{ap, sym, ◌∙◌}
use Rattle.mf_objects.specs.declared.id.Id.{Id}
use Rattle.mf_plan.specs.declared.state.State.{State}
use Rattle.mf_perform.specs.Effect.{after}
use Rattle.mf_perform.specs.Relisting.{effect_in}
use Rattle.mf_core.specs.RunView.{RunView}
use Rattle.mf_core.proofs.run.Run.listed_after.Goals as goal

pub returns-clause-value : goal.returns-clause-value
returns-clause-value c =
    let nobody : Id = record { 0 = 0 } in
    let change = effect_in c.in-Some.relisting in (
      c.in-Some.ensures.0,
      c.in-Some.ensures.1,
      c.in_ok-specs.ensures nobody ∙ ap (λ (v : RunView). (after v.run.state nobody change).specs) c.self.view_is
          ∙ sym (ap (λ (s : State). s.specs) (c.in-Some.ensures.1.made nobody)),
    )
