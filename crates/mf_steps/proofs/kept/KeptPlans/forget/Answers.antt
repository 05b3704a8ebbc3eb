use Rattle.std.proofs.Common.{None, ap, ◌∙◌}
use Rattle.std.specs.Prelude.{slice_set}
use Rattle.std.proofs.lemmas.List.{map-set}
use Rattle.mf_steps.specs.PlanRoom.{kept_in}
use Rattle.mf_steps.proofs.kept.KeptPlans.forget.Goals as goal

pub returns : goal.returns
returns c =
    map-set kept_in c.self.inside.rooms.items c.args.task _ ∙ ap (λ kept. slice_set kept c.args.task None) c.self.view_is
