-- The canonical text of a script spells it.
use Rattle.std.proofs.Common.{◌≡◌, ◌≢◌, ℕ, ◌<◌, ◌≤◌, ◌==◌, Bool, true, false, List, [], ◌∷◌, ◌++◌, length, map, Option, Some, None, refl, sym, ap, ◌∙◌, subst, arith, inl, inr, append-nil, lit<, lit≤}
use Rattle.std.specs.Prelude.{All, codes, get_or, not, if◌then◌else◌}
use Rattle.std.proofs.lemmas.List.Elements.{All-nil, All-cons, All-head, All-tail}
use Rattle.std.proofs.lemmas.List.Concat.{flat_map-cons}
use Rattle.std.specs.List.{flat_map, list_all, AllZip}
use Rattle.std.specs.Option.{IfSome}
use Rattle.std.specs.Char.{is_ascii_graphic}
use Rattle.std.specs.Str.{byte}
use Rattle.mf_errno.specs.declared.module.Module.{Module}
use Rattle.mf_errno.specs.declared.module.Module.TheVariants as modules
use Rattle.mf_elem.specs.declared.label.Request.{Request}
use Rattle.mf_item.specs.declared.view.Kind.{Kind}
use Rattle.mf_item.specs.declared.view.Kind.TheVariants as kinds
use Rattle.mf_words.specs.Words.{lines_in}
use Rattle.mf_calls.specs.Boots.{names_booted}
use Rattle.mf_calls.specs.Names.{is_name, is_some_text}
use Rattle.mf_calls.specs.Tunable.{revocation_name}
use Rattle.mf_calls.specs.WellFormed.{IsPrintable, IsAsked, IsFormedCall, IsFormedFile, IsFormedLine, IsFormedTask, IsWellFormed, IsName}
use Rattle.mf_calls.specs.declared.script.Call.{Call}
use Rattle.mf_calls.specs.declared.script.FileLine.{FileLine}
use Rattle.mf_calls.specs.declared.script.Line.{Line}
use Rattle.mf_calls.specs.declared.script.Step.{Step}
use Rattle.mf_calls.specs.declared.script.StepKind.{StepKind}
use Rattle.mf_calls.specs.declared.script.StepKind.TheVariants as steps
use Rattle.mf_calls.specs.declared.script.Task.{Task}
use Rattle.mf_calls.specs.declared.script.Script.{Script}
use Rattle.mf_spelling.specs.Spelling.{Pieces, IsTextOf, sayings, is_line_byte, call_pieces, line_pieces, boot_pieces, tunable_pieces, file_pieces, text_pieces, task_pieces, step_pieces, task_rows, step_rows, SayTunable, SaySteps, front_rows, SpellLine, Word}
use Rattle.mf_spelling.specs.Canonical.{line_text, lines_text, tunable_text, task_text, steps_text, script_text, IsSpellableCall, IsSpellable}
use Rattle.mf_spelled.proofs.CallRows.{opening, row_of}
use Rattle.mf_spelled.proofs.WordTexts.{is_word, both}
use Rattle.mf_spelled.proofs.NameTexts.{name_word, path_word}
use Rattle.mf_spelled.proofs.PieceTexts.{AreOfWords}
use Rattle.mf_spelled.specs.Laws.{CanonicalTextsAreRead, CanonicalTextsSpell}
use Rattle.mf_spelled.proofs.ScriptsBack.{spelled_read}
use Rattle.mf_spelled.proofs.LineTexts.{IsRow, AreRows, no_rows, rows_append, one_row}

-- Calls

call_row : (c : Call) → IsFormedCall c → IsSpellableCall c → IsRow (call_pieces c)
call_row c formed spellable = subst IsRow (sym (row_of c).are) ((opening c).word, (opening c).no_comment, (row_of c).written formed spellable)

-- behind a child's name
row_behind : (pieces : Pieces) → IsRow pieces → AreOfWords pieces
row_behind (Word w ∷ pieces) is = (is.0, is.2)
row_behind other is = absurd is

child_word : (child : List ℕ) → is_name child ≡ true → is_word (codes "@" ++ child) ≡ true
child_word child named = (both (is_some_text child) _ (name_word child named)).1

line_row : (line : Line) → IsFormedLine line → IsSpellableCall line.call → IsRow (line_pieces line)
line_row line formed spellable = by_child line.child formed.child where
  own : IsRow (call_pieces line.call)
  own = call_row line.call formed.call spellable

  by_child : (child : Option (List ℕ)) → IfSome child IsName → IsRow (line_pieces (record { child = child; call = line.call }))
  by_child None named = own
  by_child (Some child) named = (child_word child named, refl, row_behind (call_pieces line.call) own)

-- Boots, the tunable, files, tasks and steps

boot_row : (m : Module) → IsRow (boot_pieces m)
boot_row modules.Biba = (refl, refl, (refl, tt))
boot_row other = (refl, refl, (refl, tt))

-- bytes that each pass a test
each_passes : (test : ℕ → Bool) (text : List ℕ) → list_all test text ≡ true → All (λ b. test b ≡ true) text
each_passes test [] e = All-nil _
each_passes test (b ∷ text) e = let tests = both (test b) (list_all test text) e in All-cons (λ b. test b ≡ true) b text tests.0 (each_passes test text tests.1)

name_printable : IsPrintable revocation_name
name_printable = record { each = each_passes is_ascii_graphic revocation_name refl; few = lit≤ tt }

no_equals_sign : All (λ b. b ≢ byte "=") revocation_name
no_equals_sign = λ k d within. differs (get_or revocation_name k d) (each_passes (λ b. not (b == byte "=")) revocation_name refl k d within) where
  differs : (b : ℕ) → not (b == byte "=") ≡ true → b ≢ byte "="
  differs b e same = let here : not (byte "=" == byte "=") ≡ true = ap (λ b. not (b == byte "=")) (sym same) ∙ e in cc

tunable_row : IsRow (tunable_pieces true)
tunable_row = (refl, refl, ((name_printable, record { each = each_passes is_ascii_graphic (codes "1") refl; few = lit≤ tt }, no_equals_sign), tt))

-- the rows of the tunable, which a canonical text has where it is on
tunable_rows : Bool → List Pieces
tunable_rows true = tunable_pieces true ∷ []
tunable_rows false = []

tunable_line : (revocation : Bool) → AreRows (tunable_text revocation) (tunable_rows revocation)
unfolding tunable_rows
tunable_line true = one_row (tunable_pieces true) tunable_row
tunable_line false = no_rows

tunable_said : (s : Script) → IsSpellable s → SayTunable s (tunable_rows s.revocation)
unfolding tunable_rows
tunable_said s spellable = by_test s.revocation refl where
  by_test : (on : Bool) → s.revocation ≡ on → SayTunable s (tunable_rows on)
  by_test true e = inl (ap (λ on. tunable_pieces on ∷ []) (sym e), spellable.tunable e)
  by_test false e = inr (refl, e)

kind_word : (dir : Bool) → is_word (if dir then codes "dir" else codes "reg") ≡ true
kind_word true = refl
kind_word false = refl

-- a request that a script may make names no other policy
names_no_other : (kind : Kind) (boots : List Module) (request : Request) → IsAsked kind boots request → request.other ≡ false
names_no_other kind boots request asked = by_test request.other (both _ (not request.other) (both (names_booted boots request) _ asked.allowed).0).1 where
  by_test : (other : Bool) → not other ≡ true → other ≡ false
  by_test true e = absurd cc
  by_test false e = refl

text_words : (text : List ℕ) → All (λ byte. byte < 256) text → AreOfWords (text_pieces text)
text_words [] each = tt
text_words (b ∷ text) each = (refl, (((λ e. cc), each), tt))

file_row : (boots : List Module) (f : FileLine) → IsFormedFile boots f → IsRow (file_pieces f)
file_row boots f formed = (
  refl,
  refl,
  (
    path_word f.path formed.path,
    (
      kind_word f.file.dir,
      (
        refl,
        (
          (lit< tt, formed.uid),
          (
            refl,
            (
              (lit< tt, formed.gid),
              (
                refl,
                (
                  formed.mode,
                  (refl, ((formed.label.spelled, names_no_other kinds.Vnode boots f.label formed.label), text_words f.text formed.text.each)),
                ),
              ),
            ),
          ),
        ),
      ),
    ),
  ),
)

some_groups : (groups : List ℕ) → 1 ≤ length groups → groups ≢ []
some_groups [] some e = omega (arith, some)
some_groups (group ∷ groups) some e = cc

task_row : (boots : List Module) (t : Task) → IsFormedTask boots t → IsRow (task_pieces t)
task_row boots t formed = (
  refl,
  refl,
  (
    name_word t.name formed.name,
    (
      refl,
      (
        (lit< tt, formed.cred.fits),
        (
          refl,
          (
            (some_groups t.cred.groups formed.cred.some, formed.cred.each),
            (refl, ((formed.label.spelled, names_no_other kinds.Process boots t.label formed.label), tt)),
          ),
        ),
      ),
    ),
  ),
)

step_row : (x : Step) → IsName x.task → IsRow (step_pieces x)
step_row x formed = by_kind x.kind where
  by_kind : (kind : StepKind) → IsRow (step_pieces (record { kind = kind; task = x.task }))
  by_kind steps.Enter = (refl, refl, (name_word x.task formed, tt))
  by_kind steps.Plan = (refl, refl, (name_word x.task formed, tt))
  by_kind steps.Done = (refl, refl, (name_word x.task formed, tt))
  by_kind steps.Leave = (refl, refl, (name_word x.task formed, tt))
  by_kind steps.Change = (refl, refl, (name_word x.task formed, tt))

-- Lists of them

rows_of : {A : Type 0} (pieces : A → Pieces) (P : A → Type 0) → ((x : A) → P x → IsRow (pieces x)) → (items : List A) → All P items → AreRows (lines_text pieces items) (map pieces items)
rows_of pieces P row [] each = no_rows
rows_of pieces P row (x ∷ items) each =
    subst (λ (text : List ℕ). AreRows text (pieces x ∷ map pieces items)) (sym (flat_map-cons (λ item. line_text (pieces item)) x items))
    (rows_append (line_text (pieces x)) (lines_text pieces items) (pieces x ∷ []) (map pieces items) (one_row (pieces x) (row x (All-head P x items each))) (rows_of pieces P row items (All-tail P x items each)))

end_rows : AreRows (codes "end\n") ((Word (codes "end") ∷ []) ∷ [])
end_rows = one_row (Word (codes "end") ∷ []) (refl, refl, tt)

-- a line that is formed and can be spelled
IsLineToSpell : Line → Type 0
IsLineToSpell line = IsFormedLine line × IsSpellableCall line.call

lines_to_spell : (lines : List Line) → All IsFormedLine lines → All (λ (line : Line). IsSpellableCall line.call) lines → All IsLineToSpell lines
unfolding IsLineToSpell
lines_to_spell lines formed spellable = λ k d within. (formed k d within, spellable k d within)

task_lines : (boots : List Module) (t : Task) → IsFormedTask boots t → All (λ (line : Line). IsSpellableCall line.call) t.lines → AreRows (task_text t) (task_rows t)
unfolding IsLineToSpell
task_lines boots t formed spellable =
    rows_append (line_text (task_pieces t) ++ lines_text line_pieces t.lines) (codes "end\n") (task_pieces t ∷ map line_pieces t.lines) ((Word (codes "end") ∷ []) ∷ [])
    (rows_append (line_text (task_pieces t)) (lines_text line_pieces t.lines) (task_pieces t ∷ []) (map line_pieces t.lines)
    (one_row (task_pieces t) (task_row boots t formed))
    (rows_of line_pieces IsLineToSpell (λ line both. line_row line both.0 both.1) t.lines (lines_to_spell t.lines formed.lines spellable))) end_rows

-- a task whose lines can be spelled
abbrev CanSpell : Task → Type 0
CanSpell task = All (λ (line : Line). IsSpellableCall line.call) task.lines

tasks_lines : (boots : List Module) (tasks : List Task) → All (IsFormedTask boots) tasks → All CanSpell tasks
    → AreRows (flat_map task_text tasks) (flat_map task_rows tasks)
tasks_lines boots [] formed spellable = no_rows
tasks_lines boots (t ∷ tasks) formed spellable =
    subst (λ (text : List ℕ). AreRows text (flat_map task_rows (t ∷ tasks))) (sym (flat_map-cons task_text t tasks))
    (subst (AreRows (task_text t ++ flat_map task_text tasks)) (sym (flat_map-cons task_rows t tasks))
    (rows_append (task_text t) (flat_map task_text tasks) (task_rows t) (flat_map task_rows tasks)
    (task_lines boots t (All-head (IsFormedTask boots) t tasks formed) (All-head CanSpell t tasks spellable))
    (tasks_lines boots tasks (All-tail (IsFormedTask boots) t tasks formed) (All-tail CanSpell t tasks spellable))))

front_text : Script → List ℕ
front_text s = lines_text boot_pieces s.boots ++ tunable_text s.revocation ++ lines_text file_pieces s.files ++ flat_map task_text s.tasks

front_lines : (s : Script) → IsWellFormed s → IsSpellable s → AreRows (front_text s) (front_rows (tunable_rows s.revocation) s)
unfolding front_text
front_lines s formed spellable =
    rows_append (lines_text boot_pieces s.boots ++ tunable_text s.revocation ++ lines_text file_pieces s.files) (flat_map task_text s.tasks)
    (map boot_pieces s.boots ++ tunable_rows s.revocation ++ map file_pieces s.files) (flat_map task_rows s.tasks)
    (rows_append (lines_text boot_pieces s.boots ++ tunable_text s.revocation) (lines_text file_pieces s.files) (map boot_pieces s.boots ++ tunable_rows s.revocation) (map file_pieces s.files)
    (rows_append (lines_text boot_pieces s.boots) (tunable_text s.revocation) (map boot_pieces s.boots) (tunable_rows s.revocation)
    (rows_of boot_pieces (λ m. Unit {0}) (λ m u. boot_row m) s.boots (λ k d within. tt)) (tunable_line s.revocation))
    (rows_of file_pieces (IsFormedFile s.boots) (file_row s.boots) s.files formed.each_file)) (tasks_lines s.boots s.tasks formed.each_task spellable.calls)

steps_lines : (first : Step) (more : List Step) → All (λ (step : Step). IsName step.task) (first ∷ more) → AreRows (steps_text (first ∷ more)) (step_rows (first ∷ more))
steps_lines first more formed =
    rows_append (codes "steps\n" ++ lines_text step_pieces (first ∷ more)) (codes "end\n") ((Word (codes "steps") ∷ []) ∷ map step_pieces (first ∷ more)) ((Word (codes "end") ∷ []) ∷ [])
    (rows_append (codes "steps\n") (lines_text step_pieces (first ∷ more)) ((Word (codes "steps") ∷ []) ∷ []) (map step_pieces (first ∷ more))
    (one_row (Word (codes "steps") ∷ []) (refl, refl, tt))
    (rows_of step_pieces (λ (step : Step). IsName step.task) step_row (first ∷ more) formed)) end_rows

-- The whole text

front_then : (s : Script) → script_text s ≡ front_text s ++ steps_text s.steps
unfolding front_text
front_then s = refl

whole : (text : List ℕ) (rows : List Pieces) → AreRows text rows → AllZip SpellLine (sayings (lines_in text)) rows
whole text rows are = subst (λ (text : List ℕ). AllZip SpellLine (sayings (lines_in text)) rows) (append-nil text) (subst (AllZip SpellLine (sayings (lines_in (text ++ [])))) (append-nil rows) (are.spelled [] [] tt))

whole_plain : (text : List ℕ) (rows : List Pieces) → AreRows text rows → list_all (λ line. list_all is_line_byte line) (lines_in text) ≡ true
whole_plain text rows are = subst (λ (text : List ℕ). list_all (λ line. list_all is_line_byte line) (lines_in text) ≡ true) (append-nil text) (are.plain [] refl)

-- the rows of the steps, where there are some
rows_of_steps : List Step → List Pieces
rows_of_steps [] = []
rows_of_steps (first ∷ more) = step_rows (first ∷ more)

steps_said : (steps : List Step) → SaySteps steps (rows_of_steps steps)
unfolding rows_of_steps
steps_said [] = inr (refl, refl)
steps_said (first ∷ more) = inl refl

all_steps_lines : (steps : List Step) → All (λ (step : Step). IsName step.task) steps → AreRows (steps_text steps) (rows_of_steps steps)
unfolding rows_of_steps
all_steps_lines [] each = no_rows
all_steps_lines (first ∷ more) each = steps_lines first more each

pub canonical_spells : CanonicalTextsSpell
canonical_spells s formed spellable =
    let front = front_lines s formed spellable in
    let rows = rows_append (front_text s) (steps_text s.steps) (front_rows (tunable_rows s.revocation) s) (rows_of_steps s.steps) front (all_steps_lines s.steps formed.each_step) in
    subst (λ text. IsTextOf text s) (sym (front_then s)) (record {
      tunable = tunable_rows s.revocation;
      steps = rows_of_steps s.steps;
      plain = whole_plain (front_text s ++ steps_text s.steps) (front_rows (tunable_rows s.revocation) s ++ rows_of_steps s.steps) rows;
      say_tunable = tunable_said s spellable;
      say_steps = steps_said s.steps;
      spelled = whole (front_text s ++ steps_text s.steps) (front_rows (tunable_rows s.revocation) s ++ rows_of_steps s.steps) rows;
    })

pub canonical_read : CanonicalTextsAreRead
canonical_read s formed spellable few = spelled_read (script_text s) s formed (canonical_spells s formed spellable)
