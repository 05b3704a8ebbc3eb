use Rattle.std.proofs.Common.{◌≡◌, ℕ, List, Result, sym, subst}
use Rattle.mf_words.specs.Words.{Words}
use Rattle.mf_calls.specs.declared.script.Script.{Script}
use Rattle.mf_script.specs.declared.refusal.Refusal.{Refusal}
use Rattle.mf_script.specs.declared.rows.Place.{Place}
use Rattle.mf_script.specs.Gives.{Gives}
use Rattle.mf_script.specs.Grammar.{Reading, row_in}
use Rattle.mf_script.proofs.rows.any_row.Goals as goal

-- what is read at a place, by which place it is
at_place : (view : Unit {0} → Reading) (result : Result (Unit {0}) Refusal) (s : Script) (p q : Place) (w : List ℕ) (ws : Words) → p ≡ q
    → Gives view result (row_in s q w ws) → Gives view result (row_in s p w ws)
at_place view result s p q w ws is gives = subst (λ p. Gives view result (row_in s p w ws)) (sym is) gives

pub returns-in-Boots : goal.returns-in-Boots
unfolding row_in
returns-in-Boots c =
    at_place _ _ c.args.script.now c.args.place.now _ c.args.first.now c.args.words.now c.in-Boots.is
    (c.go_to.ensures c.behind_boots.new.script _ c.behind_boots.ensures)

pub returns-in-Tunable : goal.returns-in-Tunable
unfolding row_in
returns-in-Tunable c =
    at_place _ _ c.args.script.now c.args.place.now _ c.args.first.now c.args.words.now c.in-Tunable.is
    (c.go_to-in-Tunable.ensures c.behind_tunable.new.script _ c.behind_tunable.ensures)

pub returns-in-Files : goal.returns-in-Files
unfolding row_in
returns-in-Files c =
    at_place _ _ c.args.script.now c.args.place.now _ c.args.first.now c.args.words.now c.in-Files.is
    (c.go_to-in-Files.ensures c.behind_files.new.script _ c.behind_files.ensures)

pub returns-in-Tasks : goal.returns-in-Tasks
unfolding row_in
returns-in-Tasks c =
    at_place _ _ c.args.script.now c.args.place.now _ c.args.first.now c.args.words.now c.in-Tasks.is
    (c.go_to-in-Tasks.ensures c.args.script.now _ c.behind_tasks-next.ensures)

pub returns-in-Steps : goal.returns-in-Steps
unfolding row_in
returns-in-Steps c =
    at_place _ _ c.args.script.now c.args.place.now _ c.args.first.now c.args.words.now c.in-Steps.is
    (c.go_to-in-Steps.ensures c.in_steps.new.script _ c.in_steps.ensures)
