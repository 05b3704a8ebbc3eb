-- The scripts that are read are spelled: what was read so far is, line by line.
use Rattle.std.proofs.Common.{◌≡◌, ℕ, ◌+◌, Bool, true, false, not, cond, ◌&&◌, List, [], ◌∷◌, ◌++◌, map, Ok, Err, refl, sym, subst, ap, ◌∙◌, inl, inr, codes, arith}
use Rattle.std.specs.Prelude.{if◌then◌else◌, length}
use Rattle.std.specs.List.{AllByRecursion, filter, flat_map, list_all, AllZip}
use Rattle.std.specs.Str.{bytes_eq}
use Rattle.std.proofs.lemmas.List.{append_assoc, append-nil, map-append, flat_map_more}
use Rattle.std.proofs.lemmas.Slice.Eq.{bytes_eq-Decides}
use Rattle.mf_errno.specs.declared.module.Module.{Module}
use Rattle.mf_words.specs.Words.{Words, words_in, lines_in, is_comment}
use Rattle.mf_words.proofs.Pieces.{IsWordOf, words_pieces}
use Rattle.mf_calls.specs.declared.script.FileLine.{FileLine}
use Rattle.mf_calls.specs.declared.script.Line.{Line}
use Rattle.mf_calls.specs.declared.script.Step.{Step}
use Rattle.mf_calls.specs.declared.script.Task.{Task}
use Rattle.mf_calls.specs.declared.script.Script.{Script}
use Rattle.mf_script.specs.declared.rows.Place.{Place}
use Rattle.mf_script.specs.declared.rows.Place.TheVariants as place
use Rattle.mf_script.specs.Readers.{Read}
use Rattle.mf_script.specs.Grammar as grammar
use Rattle.mf_script.specs.Grammar.{Reading, boot_in, tunable_in, file_in, task_in, line_in, step_in, behind_tasks, behind_files, behind_tunable, behind_boots, in_task, in_steps, row_in, words_line, line_read, or_at, ended, blank, script_from, script_of}
use Rattle.mf_script.proofs.Yields.{Yields, done, refused, chain, skip, checked, widened}
use Rattle.mf_spelling.specs.Spelling.{is_line_byte, Pieces, SpellLine, boot_pieces, tunable_pieces, file_pieces, task_pieces, line_pieces, step_pieces, task_rows, step_rows, SayTunable, SaySteps, front_rows, says, sayings, SpellScript, IsTextOf, Word}
use Rattle.mf_spelled.proofs.Lines.{nothing_left}
use Rattle.mf_spelled.proofs.Calls.{line_spelled}
use Rattle.mf_spelled.proofs.FileAndTaskLines.{AreSome, boot_spelled, tunable_spelled, tunable_judged, file_spelled, file_judged, task_spelled, task_judged, step_spelled}

-- what the lines so far spell, at each place, with these of the tunable
rows_at : List Pieces → Script → Place → List Pieces
rows_at tunable s place.Boots = front_rows tunable s
rows_at tunable s place.Tunable = front_rows tunable s
rows_at tunable s place.Files = front_rows tunable s
rows_at tunable s (place.Tasks lists) = front_rows tunable s
rows_at tunable s (place.Task t lists) = front_rows tunable s ++ task_pieces t ∷ map line_pieces t.lines
rows_at tunable s place.Steps = front_rows tunable s ++ (Word (codes "steps") ∷ []) ∷ map step_pieces s.steps
rows_at tunable s place.End = front_rows tunable s ++ step_rows s.steps

-- what isn't there yet
IsAt : List Pieces → Script → Place → Type 0
IsAt tunable s place.Boots = (tunable ≡ []) × (s.revocation ≡ false) × (s.files ≡ []) × (s.tasks ≡ []) × (s.steps ≡ [])
IsAt tunable s place.Tunable = (s.tasks ≡ []) × (s.steps ≡ [])
IsAt tunable s place.Files = (s.tasks ≡ []) × (s.steps ≡ [])
IsAt tunable s (place.Tasks lists) = s.steps ≡ []
IsAt tunable s (place.Task t lists) = s.steps ≡ []
IsAt tunable s place.Steps = Unit {0}
IsAt tunable s place.End = Unit {0}

-- the words add a row to those of a place
record Adds (tunable : List Pieces) (s : Script) (p : Place) (ws : Words) (next : Reading) : Type 0 where
  row : Pieces
  spelled : SpellLine ws row
  set : List Pieces
  rows : rows_at set next.0 next.1 ≡ rows_at tunable s p ++ row ∷ []
  say : SayTunable next.0 set
  at : IsAt set next.0 next.1

-- Rows that are one more

no_files_yet : (tunable : List Pieces) (boots : List Module) (files : List FileLine) (tasks : List Task) → files ≡ [] → tasks ≡ []
    → map boot_pieces boots ++ tunable ++ map file_pieces files ++ flat_map task_rows tasks ≡ map boot_pieces boots ++ tunable
no_files_yet tunable boots files tasks no_files no_tasks =
    ap (λ (ts : List Task). map boot_pieces boots ++ tunable ++ map file_pieces files ++ flat_map task_rows ts) no_tasks ∙ append-nil _
    ∙ ap (λ (fs : List FileLine). map boot_pieces boots ++ tunable ++ map file_pieces fs) no_files ∙ append-nil _

only_boots : (tunable : List Pieces) (boots : List Module) (files : List FileLine) (tasks : List Task) → tunable ≡ [] → files ≡ [] → tasks ≡ []
    → map boot_pieces boots ++ tunable ++ map file_pieces files ++ flat_map task_rows tasks ≡ map boot_pieces boots
only_boots tunable boots files tasks not_set no_files no_tasks =
    no_files_yet tunable boots files tasks no_files no_tasks ∙ ap (λ tunable. map boot_pieces boots ++ tunable) not_set ∙ append-nil _

boot_row : (tunable : List Pieces) (s : Script) (m : Module) → tunable ≡ [] → s.files ≡ [] → s.tasks ≡ []
    → front_rows tunable (record s { boots = s.boots ++ m ∷ [] }) ≡ front_rows tunable s ++ boot_pieces m ∷ []
boot_row tunable s m not_set no_files no_tasks =
    only_boots tunable (s.boots ++ m ∷ []) s.files s.tasks not_set no_files no_tasks ∙ map-append boot_pieces s.boots (m ∷ [])
    ∙ sym (ap (λ rows. rows ++ boot_pieces m ∷ []) (only_boots tunable s.boots s.files s.tasks not_set no_files no_tasks))

tunable_row : (tunable : List Pieces) (s : Script) (revocation : Bool) → tunable ≡ [] → s.files ≡ [] → s.tasks ≡ []
    → front_rows (tunable_pieces revocation ∷ []) (record s { revocation = revocation }) ≡ front_rows tunable s ++ tunable_pieces revocation ∷ []
tunable_row tunable s revocation not_set no_files no_tasks =
    no_files_yet (tunable_pieces revocation ∷ []) s.boots s.files s.tasks no_files no_tasks
    ∙ sym (ap (λ rows. rows ++ tunable_pieces revocation ∷ []) (only_boots tunable s.boots s.files s.tasks not_set no_files no_tasks))

no_task_rows : (rows : List Pieces) (tasks : List Task) → tasks ≡ [] → rows ++ flat_map task_rows tasks ≡ rows
no_task_rows rows tasks none = ap (λ (ts : List Task). rows ++ flat_map task_rows ts) none ∙ append-nil rows

file_row : (tunable : List Pieces) (s : Script) (f : FileLine) → s.tasks ≡ [] → front_rows tunable (record s { files = s.files ++ f ∷ [] }) ≡ front_rows tunable s ++ file_pieces f ∷ []
file_row tunable s f no_tasks =
    let before = map boot_pieces s.boots ++ tunable in
    no_task_rows _ s.tasks no_tasks ∙ ap (λ rows. before ++ rows) (map-append file_pieces s.files (f ∷ []))
    ∙ sym (append_assoc before (map file_pieces s.files) (file_pieces f ∷ []))
    ∙ sym (ap (λ rows. rows ++ file_pieces f ∷ []) (no_task_rows (before ++ map file_pieces s.files) s.tasks no_tasks))

-- one more of a list behind a row behind others
one_behind : {A : Type 0} (rows : List Pieces) (first : Pieces) (pieces : A → Pieces) (xs : List A) (x : A)
    → rows ++ first ∷ map pieces (xs ++ x ∷ []) ≡ (rows ++ first ∷ map pieces xs) ++ pieces x ∷ []
one_behind rows first pieces xs x = ap (λ more. rows ++ first ∷ more) (map-append pieces xs (x ∷ [])) ∙ sym (append_assoc rows (first ∷ map pieces xs) (pieces x ∷ []))

task_row : (tunable : List Pieces) (s : Script) (t : Task)
    → front_rows tunable (record s { tasks = s.tasks ++ t ∷ [] }) ≡ (front_rows tunable s ++ task_pieces t ∷ map line_pieces t.lines) ++ (Word (codes "end") ∷ []) ∷ []
task_row tunable s t =
    sym (flat_map_more task_rows (map boot_pieces s.boots ++ tunable ++ map file_pieces s.files) s.tasks t)
    ∙ sym (append_assoc (front_rows tunable s) (task_pieces t ∷ map line_pieces t.lines) ((Word (codes "end") ∷ []) ∷ []))

-- Lines at each place

by_word : {A : Type 0} {P : A → Type 0} (w text : List ℕ) (first second : Read A) → (w ≡ text → Yields P first) → Yields P second
    → Yields P (if bytes_eq w text then first else second)
by_word {P = P} w text first second one other = by_test (bytes_eq w text) (bytes_eq-Decides w text).0 where
  by_test : (same : Bool) → (same ≡ true → w ≡ text) → Yields P (if same then first else second)
  by_test true is = one (is refl)
  by_test false is = other

alone_spelled : (text w : List ℕ) (ws : Words) → w ≡ text → ws ≡ [] → SpellLine (w ∷ ws) (Word text ∷ [])
alone_spelled text w ws is none = subst (λ (ws : Words). SpellLine (w ∷ ws) (Word text ∷ [])) (sym none) (is, tt)

in_front : (text w : List ℕ) (ws : Words) (row : Pieces) → w ≡ text → SpellLine (text ∷ ws) row → SpellLine (w ∷ ws) row
in_front text w ws row is spelled = subst (λ (w : List ℕ). SpellLine (w ∷ ws) row) (sym is) spelled

boot_adds : (tunable : List Pieces) (s : Script) (w : List ℕ) (ws : Words) → IsAt tunable s place.Boots → w ≡ codes "boot" → Yields (Adds tunable s place.Boots (w ∷ ws)) (boot_in s ws)
unfolding boot_in rows_at IsAt
boot_adds tunable s w ws at is = chain _ _ (boot_spelled s.boots ws) (λ m spelled. done (record {
  row = boot_pieces m;
  spelled = in_front (codes "boot") w ws (boot_pieces m) is spelled;
  set = tunable;
  rows = boot_row tunable s m at.0 at.2 at.3;
  say = inr (at.0, at.1);
  at = at;
}))

tunable_adds : (tunable : List Pieces) (s : Script) (w : List ℕ) (ws : Words) → IsAt tunable s place.Boots → w ≡ codes "tunable" → Yields (Adds tunable s place.Boots (w ∷ ws)) (tunable_in s false ws)
unfolding tunable_in rows_at IsAt
tunable_adds tunable s w ws at is = chain _ _ (tunable_spelled ws) (λ sides spelled. chain _ _ (tunable_judged s.boots false ws sides spelled) (λ revocation set. done (record {
  row = tunable_pieces revocation;
  spelled = in_front (codes "tunable") w ws (tunable_pieces revocation) is set.spelled;
  set = tunable_pieces revocation ∷ [];
  rows = tunable_row tunable s revocation at.0 at.2 at.3;
  say = inl (refl, set.booted);
  at = (at.3, at.4);
})))

-- a second line of the tunable isn't taken
set_once : (tunable : List Pieces) (s : Script) (p : Place) (w : List ℕ) (ws : Words) → Yields (Adds tunable s p (w ∷ ws)) (tunable_in s true ws)
unfolding tunable_in
set_once tunable s p w ws = chain _ _ (tunable_spelled ws) (λ sides spelled. chain _ _ (tunable_judged s.boots true ws sides spelled) (λ revocation set. let once = set.once in cc))

file_adds : (tunable : List Pieces) (s : Script) (p : Place) (w : List ℕ) (ws : Words) → AreSome ws → rows_at tunable s p ≡ front_rows tunable s → SayTunable s tunable → s.tasks ≡ [] → s.steps ≡ []
    → w ≡ codes "file" → Yields (Adds tunable s p (w ∷ ws)) (file_in s ws)
unfolding file_in rows_at IsAt
file_adds tunable s p w ws some rows say no_tasks no_steps is =
    chain _ _ (file_spelled ws some) (λ f spells. chain _ _ (file_judged s.boots s.files ws f spells) (λ file spelled. done (record {
      row = file_pieces file;
      spelled = in_front (codes "file") w ws (file_pieces file) is spelled;
      set = tunable;
      rows = file_row tunable s file no_tasks ∙ sym (ap (λ rows. rows ++ file_pieces file ∷ []) rows);
      say = say;
      at = (no_tasks, no_steps);
    })))

task_adds : (tunable : List Pieces) (s : Script) (p : Place) (lists : ℕ) (w : List ℕ) (ws : Words) → rows_at tunable s p ≡ front_rows tunable s → SayTunable s tunable → s.steps ≡ []
    → w ≡ codes "task" → Yields (Adds tunable s p (w ∷ ws)) (task_in s lists ws)
unfolding task_in rows_at IsAt
task_adds tunable s p lists w ws rows say no_steps is =
    chain _ _ (task_spelled ws) (λ t spells. chain _ _ (task_judged s.boots s.tasks ws t spells) (λ task judged. done (record {
      row = task_pieces task;
      spelled = in_front (codes "task") w ws (task_pieces task) is judged.0;
      set = tunable;
      rows = ap (λ (lines : List Line). front_rows tunable s ++ task_pieces task ∷ map line_pieces lines) judged.1 ∙ sym (ap (λ rows. rows ++ task_pieces task ∷ []) rows);
      say = say;
      at = no_steps;
    })))

line_adds : (tunable : List Pieces) (s : Script) (t : Task) (lists : ℕ) (w : List ℕ) (ws : Words) → SayTunable s tunable → s.steps ≡ []
    → Yields (Adds tunable s (place.Task t lists) (w ∷ ws)) (line_in s t lists w ws)
unfolding line_in rows_at IsAt
line_adds tunable s t lists w ws say no_steps = chain _ _ (line_spelled w ws) (λ line spelled. checked _ _ _ (λ room. skip _ _ (λ n. done (record {
  row = line_pieces line;
  spelled = spelled;
  set = tunable;
  rows = one_behind (front_rows tunable s) (task_pieces t) line_pieces t.lines line;
  say = say;
  at = no_steps;
}))))

step_adds : (tunable : List Pieces) (s : Script) (w : List ℕ) (ws : Words) → SayTunable s tunable → Yields (Adds tunable s place.Steps (w ∷ ws)) (step_in s w ws)
unfolding step_in rows_at IsAt
step_adds tunable s w ws say = chain _ _ (step_spelled w ws) (λ step spelled. checked _ _ _ (λ room. done (record {
  row = step_pieces step;
  spelled = spelled;
  set = tunable;
  rows = one_behind (front_rows tunable s) (Word (codes "steps") ∷ []) step_pieces s.steps step;
  say = say;
  at = tt;
})))

alone_adds : (tunable : List Pieces) (s : Script) (p : Place) (next : Reading) (text w : List ℕ) (ws : Words) → w ≡ text → SayTunable next.0 tunable
    → rows_at tunable next.0 next.1 ≡ rows_at tunable s p ++ (Word text ∷ []) ∷ [] → IsAt tunable next.0 next.1 → Yields (Adds tunable s p (w ∷ ws)) (grammar.nothing_behind next ws)
unfolding grammar.nothing_behind
alone_adds tunable s p next text w ws is say rows at =
    chain _ _ (nothing_left ws) (λ u none. done (record { row = (Word text ∷ []); spelled = alone_spelled text w ws is none; set = tunable; rows = rows; say = say; at = at }))

tasks_add : (tunable : List Pieces) (s : Script) (p : Place) (lists : ℕ) (w : List ℕ) (ws : Words) → rows_at tunable s p ≡ front_rows tunable s → SayTunable s tunable → s.steps ≡ []
    → Yields (Adds tunable s p (w ∷ ws)) (behind_tasks s lists w ws)
unfolding behind_tasks rows_at IsAt
tasks_add tunable s p lists w ws rows say no_steps =
    by_word w (codes "task") _ _ (task_adds tunable s p lists w ws rows say no_steps) (by_word w (codes "steps") _ _ (λ is. alone_adds tunable s p (s, place.Steps) (codes "steps") w ws is say
    (ap (λ (steps : List Step). front_rows tunable s ++ (Word (codes "steps") ∷ []) ∷ map step_pieces steps) no_steps ∙ sym (ap (λ rows. rows ++ (Word (codes "steps") ∷ []) ∷ []) rows)) tt) refused)

files_add : (tunable : List Pieces) (s : Script) (p : Place) (w : List ℕ) (ws : Words) → AreSome ws → rows_at tunable s p ≡ front_rows tunable s → SayTunable s tunable → s.tasks ≡ [] → s.steps ≡ []
    → Yields (Adds tunable s p (w ∷ ws)) (behind_files s w ws)
unfolding behind_files
files_add tunable s p w ws some rows say no_tasks no_steps =
    by_word w (codes "file") _ _ (file_adds tunable s p w ws some rows say no_tasks no_steps) (tasks_add tunable s p 0 w ws rows say no_steps)

row_adds : (tunable : List Pieces) (s : Script) (p : Place) (w : List ℕ) (ws : Words) → AreSome ws → SayTunable s tunable → IsAt tunable s p → Yields (Adds tunable s p (w ∷ ws)) (row_in s p w ws)
unfolding row_in behind_boots behind_tunable in_task in_steps rows_at IsAt
row_adds tunable s place.Boots w ws some say at =
    by_word w (codes "boot") _ _ (boot_adds tunable s w ws at) (by_word w (codes "tunable") _ _ (tunable_adds tunable s w ws at) (files_add tunable s place.Boots w ws some refl say at.3 at.4))
row_adds tunable s place.Tunable w ws some say at =
    by_word w (codes "tunable") _ _ (λ is. set_once tunable s place.Tunable w ws) (files_add tunable s place.Tunable w ws some refl say at.0 at.1)
row_adds tunable s place.Files w ws some say at = files_add tunable s place.Files w ws some refl say at.0 at.1
row_adds tunable s (place.Tasks lists) w ws some say at = tasks_add tunable s (place.Tasks lists) lists w ws refl say at
row_adds tunable s (place.Task t lists) w ws some say at =
    by_word w (codes "end") _ _
    (λ is. alone_adds tunable s (place.Task t lists) (record s { tasks = s.tasks ++ t ∷ [] }, place.Tasks lists) (codes "end") w ws is say (task_row tunable s t) at)
    (line_adds tunable s t lists w ws say at)
row_adds tunable s place.Steps w ws some say at =
    by_word w (codes "end") _ _ (λ is. alone_adds tunable s place.Steps (s, place.End) (codes "end") w ws is say
    (sym (append_assoc (front_rows tunable s) ((Word (codes "steps") ∷ []) ∷ map step_pieces s.steps) ((Word (codes "end") ∷ []) ∷ []))) tt) (step_adds tunable s w ws say)
row_adds tunable s place.End w ws some say at = refused

-- Line by line

-- the words so far spell what was read, and nothing is there yet that comes later
record IsSoFar (lines : List Words) (s : Script) (p : Place) : Type 0 where
  tunable : List Pieces
  spelled : AllZip SpellLine lines (rows_at tunable s p)
  say : SayTunable s tunable
  at : IsAt tunable s p

one_more : (lines : List Words) (rows : List Pieces) (ws : Words) (row : Pieces) → AllZip SpellLine lines rows → SpellLine ws row → AllZip SpellLine (lines ++ ws ∷ []) (rows ++ row ∷ [])
one_more [] [] ws row so one = (one, tt)
one_more [] (r ∷ rows) ws row so one = absurd so
one_more (l ∷ lines) [] ws row so one = absurd so
one_more (l ∷ lines) (r ∷ rows) ws row so one = (so.0, one_more lines rows ws row so.1 one)

added : (lines : List Words) (s : Script) (p : Place) (ws : Words) (next : Reading) → (so : IsSoFar lines s p) → Adds so.tunable s p ws next → IsSoFar (lines ++ ws ∷ []) next.0 next.1
added lines s p ws next so adds = record {
  tunable = adds.set;
  spelled = subst (AllZip SpellLine (lines ++ ws ∷ [])) (sym adds.rows) (one_more lines (rows_at so.tunable s p) ws adds.row so.spelled adds.spelled);
  say = adds.say;
  at = adds.at;
}

-- the words of one more line, where it says something
with_line : List Words → Words → List Words
with_line lines ws = lines ++ filter says (ws ∷ [])

words_add : (lines : List Words) (s : Script) (p : Place) (ws : Words) → AreSome ws → IsSoFar lines s p → Yields (λ next. IsSoFar (with_line lines ws) next.0 next.1) (words_line s p ws)
unfolding words_line with_line
words_add lines s p [] some so = done (subst (λ (lines : List Words). IsSoFar lines s p) (sym (append-nil lines)) so)
words_add lines s p (w ∷ ws) some so = by_test (is_comment w) (widened (row_adds so.tunable s p w ws some.1 so.say so.at) (λ next adds. added lines s p (w ∷ ws) next so adds)) where
  by_test : (comment : Bool) → Yields (λ (next : Reading). IsSoFar (lines ++ (w ∷ ws) ∷ []) next.0 next.1) (row_in s p w ws)
      → Yields (λ (next : Reading). IsSoFar (lines ++ cond (not comment) ((w ∷ ws) ∷ []) []) next.0 next.1) (if comment then Ok (s, p) else row_in s p w ws)
  by_test true row = done (subst (λ (lines : List Words). IsSoFar lines s p) (sym (append-nil lines)) so)
  by_test false row = row

pub some_words : (most : ℕ) (ws : Words) → AllByRecursion (IsWordOf (λ b. Unit {0}) most) ws → AreSome ws
some_words most [] are = tt
some_words most (w ∷ ws) are = (λ none. let short : length w ≡ 0 = ap length none in omega (arith, are.0.some, short), some_words most ws are.1)

pub any_bytes : (line : List ℕ) → AllByRecursion (λ b. Unit {0}) line
any_bytes [] = tt
any_bytes (b ∷ line) = (tt, any_bytes line)

-- a line that is read
record IsLineOf (lines : List Words) (line : List ℕ) (next : Reading) : Type 0 where
  plain : list_all is_line_byte line ≡ true
  so : IsSoFar (with_line lines (words_in line)) next.0 next.1

line_adds_words : (lines : List Words) (s : Script) (p : Place) (line : List ℕ) → IsSoFar lines s p → Yields (IsLineOf lines line) (line_read s p line)
unfolding line_read
line_adds_words lines s p line so = checked _ _ _ (λ plain.
    widened (words_add lines s p (words_in line) (some_words (length line) (words_in line) (words_pieces (λ b. Unit {0}) line (any_bytes line))) so) (λ next more. record { plain = plain; so = more }))

-- the lines spell the script behind those that were read
record IsRest (before : List Words) (lines : List (List ℕ)) (s : Script) : Type 0 where
  tunable : List Pieces
  steps : List Pieces
  plain : list_all (λ line. list_all is_line_byte line) lines ≡ true
  say_tunable : SayTunable s tunable
  say_steps : SaySteps s.steps steps
  spelled : AllZip SpellLine (before ++ sayings lines) (front_rows tunable s ++ steps)

-- the lines of a script, and no more
all_spelled : (before : List Words) (s : Script) (tunable steps : List Pieces) → SayTunable s tunable → SaySteps s.steps steps → AllZip SpellLine before (front_rows tunable s ++ steps) → IsRest before [] s
all_spelled before s tunable steps say_tunable say_steps spelled = record {
  tunable = tunable;
  steps = steps;
  plain = refl;
  say_tunable = say_tunable;
  say_steps = say_steps;
  spelled = subst (λ (lines : List Words). AllZip SpellLine lines (front_rows tunable s ++ steps)) (sym (append-nil before)) spelled;
}

-- the same of a script that ends without the lines of steps
ends_early : (before : List Words) (s : Script) (tunable : List Pieces) → SayTunable s tunable → s.steps ≡ [] → AllZip SpellLine before (front_rows tunable s) → IsRest before [] s
ends_early before s tunable say no_steps spelled =
    all_spelled before s tunable [] say (inr (refl, no_steps)) (subst (AllZip SpellLine before) (sym (append-nil (front_rows tunable s))) spelled)

at_the_end : (before : List Words) (s found : Script) (p : Place) (n : ℕ) → IsSoFar before s p → ended s p n ≡ Ok found → IsRest before [] found
unfolding rows_at IsAt
at_the_end before s found p n so e = subst (IsRest before []) (same p e) (by_place p so e) where
  same : (p : Place) → ended s p n ≡ Ok found → s ≡ found
  same place.Boots e = cc
  same place.Tunable e = cc
  same place.Files e = cc
  same (place.Tasks lists) e = cc
  same (place.Task t lists) e = cc
  same place.Steps e = cc
  same place.End e = cc

  by_place : (p : Place) → IsSoFar before s p → ended s p n ≡ Ok found → IsRest before [] s
  by_place place.Boots so e = ends_early before s so.tunable so.say so.at.4 so.spelled
  by_place place.Tunable so e = ends_early before s so.tunable so.say so.at.1 so.spelled
  by_place place.Files so e = ends_early before s so.tunable so.say so.at.1 so.spelled
  by_place (place.Tasks lists) so e = ends_early before s so.tunable so.say so.at so.spelled
  by_place (place.Task t lists) so e = cc
  by_place place.Steps so e = cc
  by_place place.End so e = all_spelled before s so.tunable (step_rows s.steps) so.say (inl refl) so.spelled

-- a line in front of the rest
onto_rest : (before : List Words) (line : List ℕ) (lines : List (List ℕ)) (s : Script) → list_all is_line_byte line ≡ true → IsRest (with_line before (words_in line)) lines s → IsRest before (line ∷ lines) s
unfolding with_line
onto_rest before line lines s plain rest = record {
  tunable = rest.tunable;
  steps = rest.steps;
  plain = subst (λ (b : Bool). (b && list_all (λ line. list_all is_line_byte line) lines) ≡ true) (sym plain) rest.plain;
  say_tunable = rest.say_tunable;
  say_steps = rest.say_steps;
  spelled = subst (λ (ws : List Words). AllZip SpellLine ws (front_rows rest.tunable s ++ rest.steps))
      (append_assoc before (filter says (words_in line ∷ [])) (sayings lines) ∙ ap (λ ws. before ++ ws) (one_saying (says (words_in line)))) rest.spelled;
} where
  one_saying : (b : Bool) → cond b (words_in line ∷ []) [] ++ sayings lines ≡ cond b (words_in line ∷ sayings lines) (sayings lines)
  one_saying true = refl
  one_saying false = refl

from_spelled : (lines : List (List ℕ)) (before : List Words) (s : Script) (p : Place) (n : ℕ) (found : Script) → IsSoFar before s p → script_from s p n lines ≡ Ok found → IsRest before lines found
unfolding script_from
from_spelled [] before s p n found so e = at_the_end before s found p n so e
from_spelled (line ∷ lines) before s p n found so e =
    by_read (line_read s p line) (λ before s p. from_spelled lines before s p (n + 1) found) refl e where
      by_read : (read : Read Reading) → ((before : List Words) (s : Script) (p : Place) → IsSoFar before s p → script_from s p (n + 1) lines ≡ Ok found → IsRest before lines found)
          → line_read s p line ≡ read → or_at n read (λ next. script_from next.0 next.1 (n + 1) lines) ≡ Ok found → IsRest before (line ∷ lines) found
      by_read (Ok next) further is e = let got = (line_adds_words before s p line so).of next is in
          onto_rest before line lines found got.plain (further (with_line before (words_in line)) next.0 next.1 got.so e)
      by_read (Err fault) further is e = cc

nothing_yet : IsSoFar [] blank place.Boots
unfolding rows_at IsAt
nothing_yet = record { tunable = []; spelled = tt; say = inr (refl, refl); at = (refl, refl, refl, refl, refl) }

pub lines_spelled : (lines : List (List ℕ)) (s : Script) → script_from blank place.Boots 1 lines ≡ Ok s → SpellScript lines s
lines_spelled lines s e =
    let rest = from_spelled lines [] blank place.Boots 1 s nothing_yet e in
    record { tunable = rest.tunable; steps = rest.steps; plain = rest.plain; say_tunable = rest.say_tunable; say_steps = rest.say_steps; spelled = rest.spelled }

pub scripts_spelled : (bytes : List ℕ) (s : Script) → script_of bytes ≡ Ok s → IsTextOf bytes s
unfolding script_of
scripts_spelled bytes s e = lines_spelled (lines_in bytes) s e
