use Rattle.std.proofs.Common.{List, ℕ, Option, ap, subst, sym, ◌∙◌}
use Rattle.mf_calls.specs.Tasks.{name_of}
use Rattle.mf_plan.specs.Found.{AreFound}
use Rattle.mf_plan.specs.OutlineOf.{IsOutlineOf}
use Rattle.mf_plan.specs.Planned.{Plan}
use Rattle.mf_core.specs.RunView.{RunView}
use Rattle.mf_core.proofs.Calls.{found_next, outline_next}
use Rattle.mf_core.proofs.run.Run.plan.Goals as goal

pub returns-clause-found : goal.returns-clause-found
returns-clause-found c = λ tail.
    let line = c.line-line.result.now in
    let found = c.make.new.outline.found in
    let state = c.self.inside.state in
    let is = c.make.ensures.outline in
    let about = is.found (ap (λ (p : Plan). p.tail) is.plan ∙ sym (ap (λ (p : Plan). p.tail) c.make.ensures.plan) ∙ tail) in
    let named = subst (λ (child : Option (List ℕ)). AreFound state c.name_of-name.result.now child line.call found) c.child_name.ensures about in
    let here = subst (λ (name : List ℕ). AreFound state name line.child line.call found) c.name_of-name.ensures named in
    found_next c.args.self.now.script c.args.self.now.run c.args.task line c.line-line.ensures.value found
    (subst (λ (v : RunView). AreFound v.run.state (name_of v.script c.args.task) line.child line.call found) c.self.view_is here)

pub returns-clause-outline : goal.returns-clause-outline
returns-clause-outline c =
    let line = c.line-line.result.now in
    let outline = c.make.new.outline in
    let state = c.self.inside.state in
    let named = subst (λ (child : Option (List ℕ)). IsOutlineOf state c.name_of-name.result.now child line.call outline) c.child_name.ensures c.make.ensures.outline in
    let here = subst (λ (name : List ℕ). IsOutlineOf state name line.child line.call outline) c.name_of-name.ensures named in
    outline_next c.args.self.now.script c.args.self.now.run c.args.task line c.line-line.ensures.value outline
    (subst (λ (v : RunView). IsOutlineOf v.run.state (name_of v.script c.args.task) line.child line.call outline) c.self.view_is here)
