use Rattle.std.proofs.Common.{List, ℕ, Option, subst}
use Rattle.mf_calls.specs.Tasks.{name_of}
use Rattle.mf_plan.specs.OutlineOf.{IsOutlineOf}
use Rattle.mf_core.specs.RunView.{RunView}
use Rattle.mf_core.proofs.Calls.{outline_next}
use Rattle.mf_core.proofs.run.Run.has_plan.Goals as goal

pub returns-clause-outline : goal.returns-clause-outline
returns-clause-outline c =
    let line = c.line-line.result.now in
    let outline = c.is_of.new.outline in
    let state = c.self.inside.state in
    let named = subst (λ (child : Option (List ℕ)). IsOutlineOf state c.name_of-name.result.now child line.call outline) c.child_name.ensures c.is_of.ensures.outline in
    let here = subst (λ (name : List ℕ). IsOutlineOf state name line.child line.call outline) c.name_of-name.ensures named in
    outline_next c.args.self.now.script c.args.self.now.run c.args.task line c.line-line.ensures.value outline
    (subst (λ (v : RunView). IsOutlineOf v.run.state (name_of v.script c.args.task) line.child line.call outline) c.self.view_is here)
