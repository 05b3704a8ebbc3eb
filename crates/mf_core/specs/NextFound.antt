-- What was found for the call that comes next for a task, and the outline of its plan; the calls of a run cite this.
use Rattle.std.specs.Prelude.{ℕ, Option, Some, None}
use Rattle.mf_calls.specs.declared.script.Line.{Line}
use Rattle.mf_calls.specs.declared.script.Script.{Script}
use Rattle.mf_calls.specs.Tasks.{name_of}
use Rattle.mf_plan.specs.declared.found.Found.{Found}
use Rattle.mf_plan.specs.declared.outline.Outline.{Outline}
use Rattle.mf_plan.specs.Found.{AreFound}
use Rattle.mf_plan.specs.OutlineOf.{IsOutlineOf}
use Rattle.mf_core.specs.LegalHistory.{RunState, next_line}

abbrev pub FoundAt : Script → RunState → ℕ → Option Line → Found → Type 0
FoundAt s r t None found = ⊥
FoundAt s r t (Some line) found = AreFound r.state (name_of s t) line.child line.call found

abbrev pub IsNextFound : Script → RunState → ℕ → Found → Type 0
IsNextFound s r t found = FoundAt s r t (next_line s r.progress t) found

abbrev pub OutlineAt : Script → RunState → ℕ → Option Line → Outline → Type 0
OutlineAt s r t None outline = ⊥
OutlineAt s r t (Some line) outline = IsOutlineOf r.state (name_of s t) line.child line.call outline

abbrev pub IsNextOutline : Script → RunState → ℕ → Outline → Type 0
IsNextOutline s r t outline = OutlineAt s r t (next_line s r.progress t) outline
