use Rattle.std.proofs.Common.{Some, ap, ◌∙◌}
use Rattle.std.specs.Prelude.{slice_set}
use Rattle.std.proofs.lemmas.List.{map-set}
use Rattle.mf_perform.specs.declared.verdict.Verdict.{Verdict}
use Rattle.mf_steps.specs.PlanRoom.{kept_in}
use Rattle.mf_steps.proofs.kept.KeptPlans.keep.Goals as goal

pub returns : goal.returns
returns g c =
    let plan = c.plan.new.plan in (
      plan,
      c.plan.ensures.plan,
      map-set kept_in c.self.inside.rooms.items c.args.task _
          ∙ ap (λ kept. slice_set kept c.args.task (Some (record { plan = plan; verdict = c.walk.result }))) c.self.view_is
          ∙ ap (λ (verdict : Verdict). slice_set c.args.self.now c.args.task (Some (record { plan = plan; verdict = verdict }))) c.walk.ensures,
    )
