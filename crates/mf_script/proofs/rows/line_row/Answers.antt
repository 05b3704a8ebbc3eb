use Rattle.std.proofs.Common.{◌≡◌, ℕ, Bool, true, false, List, [], ◌∷◌, ◌++◌, length, Result, Ok, Err, refl, ap}
use Rattle.std.specs.Prelude.{nat_lt}
use Rattle.mf_words.specs.Words.{Words}
use Rattle.mf_calls.specs.declared.limits.TheConstants.{LINE_LIMIT}
use Rattle.mf_calls.specs.declared.script.Line.{Line}
use Rattle.mf_calls.specs.declared.script.Task.{Task}
use Rattle.mf_calls.specs.declared.script.Script.{Script}
use Rattle.mf_script.specs.declared.error.ScriptFault.TheVariants.{TooMany}
use Rattle.mf_script.specs.declared.refusal.Refusal.{Refusal}
use Rattle.mf_script.specs.declared.refusal.Refusal.TheVariants.{Faulty, Memory}
use Rattle.mf_script.specs.declared.rows.Place.TheVariants as place
use Rattle.mf_script.specs.Readers.{Read, and_then, unless}
use Rattle.mf_script.specs.Gives.{Gives}
use Rattle.mf_script.specs.Lines.{line_words}
use Rattle.mf_script.specs.Grammar.{Reading, with_list, line_in}
use Rattle.mf_script.proofs.rows.line_row.Goals as goal

-- how many lines list the rules with this line, where the task has room for it
abbrev lists_with : Task → ℕ → Line → Read ℕ
lists_with t lists line = and_then (unless TooMany (nat_lt (length t.lines) LINE_LIMIT)) (λ u. with_list line.call lists)

-- a test and what comes next, before what follows
in_turn : (room : Bool) (listed : Read ℕ) (more : ℕ → Read Reading)
    → and_then (unless TooMany room) (λ u. and_then listed more) ≡ and_then (and_then (unless TooMany room) (λ u. listed)) more
unfolding and_then
in_turn true listed more = refl
in_turn false listed more = refl

abbrev with_line : Script → Task → Line → ℕ → Read Reading
with_line s t line lists = Ok (s, place.Task (record t { lines = t.lines ++ line ∷ [] }) lists)

taken : (s : Script) (t : Task) (lists : ℕ) (w : List ℕ) (ws : Words) (line : Line) → line_words w ws ≡ Ok line
    → line_in s t lists w ws ≡ and_then (lists_with t lists line) (with_line s t line)
unfolding line_in and_then
taken s t lists w ws line read = rw read (in_turn (nat_lt (length t.lines) LINE_LIMIT) (with_list line.call lists) (with_line s t line))

-- the task with these lines, so many of whose lines list the rules
abbrev at_task : Script → Task → Read (List Line × ℕ) → Read Reading
at_task s t (Ok counted) = Ok (s, place.Task (record t { lines = counted.0 }) counted.1)
at_task s t (Err fault) = Err fault

by_count : (s : Script) (t : Task) (line : Line) (lines : List Line) (n : ℕ) (counted : Read ℕ) (result : Result (Unit {0}) Refusal)
    → Gives {Y = List Line × ℕ} (λ u. (lines, n)) result (and_then counted (λ k. Ok (t.lines ++ line ∷ [], k)))
    → Gives {Y = Reading} (λ u. (s, place.Task (record t { lines = lines }) n)) result (and_then counted (with_line s t line))
unfolding and_then
by_count s t line lines n (Ok k) (Ok u) e = ap (at_task s t) e
by_count s t line lines n (Ok k) (Err Memory) e = tt
by_count s t line lines n (Ok k) (Err (Faulty fault)) e = ap (at_task s t) e
by_count s t line lines n (Err fault) (Ok u) e = ap (at_task s t) e
by_count s t line lines n (Err fault) (Err Memory) e = tt
by_count s t line lines n (Err fault) (Err (Faulty other)) e = ap (at_task s t) e

line_taken : (s : Script) (t : Task) (lists : ℕ) (w : List ℕ) (ws : Words) (line : Line) (lines : List Line) (n : ℕ) (result : Result (Unit {0}) Refusal) → line_words w ws ≡ Ok line
    → Gives {Y = List Line × ℕ} (λ u. (lines, n)) result (and_then (lists_with t lists line) (λ k. Ok (t.lines ++ line ∷ [], k)))
    → Gives {Y = Reading} (λ u. (s, place.Task (record t { lines = lines }) n)) result (line_in s t lists w ws)
line_taken s t lists w ws line lines n result read gives =
    rw (taken s t lists w ws line read) (by_count s t line lines n (lists_with t lists line) result gives)

pub returns : goal.returns
returns c s =
    line_taken s c.args.task.now c.args.lists.now c.args.first.now c.args.words.now c.in_ok-line.line c.push_counted.new.list c.push_counted.new.count c.push_counted.result
    c.in_ok-line.ensures (c.push_counted.ensures _ c.lists_with-counted.ensures)
