-- What is read of a text can be spelled.
use Rattle.std.proofs.Common.{◌≡◌, ◌≢◌, ℕ, Bool, true, false, cond, List, [], ◌∷◌, ◌++◌, length, map, Option, Some, None, Ok, ap, ◌∙◌, subst, inl, inr}
use Rattle.std.specs.Str.{byte}
use Rattle.std.specs.Prelude.{All}
use Rattle.std.proofs.lemmas.List.Concat.{flat_map-cons}
use Rattle.std.proofs.lemmas.List.Elements.{All-nil, All-cons}
use Rattle.std.specs.List.{AllByRecursion, flat_map, AllZip}
use Rattle.mf_labeltext.proofs.Cutting.{IsFree, cut_is}
use Rattle.mf_words.specs.Words.{Words, words_in}
use Rattle.mf_words.proofs.Pieces.{words_pieces}
use Rattle.mf_errno.specs.declared.module.Module.TheVariants.{Biba}
use Rattle.mf_calls.specs.Boots.{is_booted}
use Rattle.mf_calls.specs.declared.script.Call.{Call}
use Rattle.mf_calls.specs.declared.script.Call.TheVariants as call
use Rattle.mf_calls.specs.declared.script.Line.{Line}
use Rattle.mf_calls.specs.declared.script.Task.{Task}
use Rattle.mf_calls.specs.declared.script.Script.{Script}
use Rattle.mf_spelling.specs.Spelling.{Piece, Word, Decimal, Text, Setting, Pieces, SpellLine, SpellScript, call_pieces, line_pieces, boot_pieces, file_pieces, task_rows, SayTunable, front_rows, says, sayings}
use Rattle.mf_spelling.specs.Canonical.{IsSpellableCall, IsSpellable}
use Rattle.mf_spelled.proofs.Lines.{IsSingle, front}
use Rattle.mf_spelled.proofs.FileAndTaskLines.{AreSome, some_bytes}
use Rattle.mf_spelled.proofs.Scripts.{some_words, any_bytes, scripts_spelled}
use Rattle.mf_words.specs.Words.{lines_in}
use Rattle.mf_spelled.specs.Laws.{ReadScriptsAreSpellable}

-- words, each of some byte, spell the row
record IsSpoken (row : Pieces) : Type 0 where
  words : Words
  some : AreSome words
  spelled : SpellLine words row

spoken : (lines : List Words) (rows : List Pieces) → AllByRecursion AreSome lines → AllZip SpellLine lines rows → AllByRecursion IsSpoken rows
spoken [] [] some spelled = tt
spoken [] (row ∷ rows) some spelled = absurd spelled
spoken (ws ∷ lines) [] some spelled = absurd spelled
spoken (ws ∷ lines) (row ∷ rows) some spelled = (record { words = ws; some = some.0; spelled = spelled.0 }, spoken lines rows some.1 spelled.1)

line_some : (line : List ℕ) → AreSome (words_in line)
line_some line = some_words (length line) (words_in line) (words_pieces (λ b. Unit {0}) line (any_bytes line))

sayings_some : (lines : List (List ℕ)) → AllByRecursion AreSome (sayings lines)
sayings_some [] = tt
sayings_some (line ∷ lines) = by_test (says (words_in line)) (sayings_some lines) where
  by_test : (b : Bool) → AllByRecursion AreSome (sayings lines) → AllByRecursion AreSome (cond b (words_in line ∷ sayings lines) (sayings lines))
  by_test true rest = (line_some line, rest)
  by_test false rest = rest

-- Parts of lists

first_part : {A : Type 0} (P : A → Type 0) (a b : List A) → AllByRecursion P (a ++ b) → AllByRecursion P a
first_part P [] b all = tt
first_part P (x ∷ a) b all = (all.0, first_part P a b all.1)

second_part : {A : Type 0} (P : A → Type 0) (a b : List A) → AllByRecursion P (a ++ b) → AllByRecursion P b
second_part P [] b all = all
second_part P (x ∷ a) b all = second_part P a b all.1

-- Calls and lines

behind_piece : (piece : Piece) (row : Pieces) → IsSingle piece → IsSpoken (piece ∷ row) → IsSpoken row
behind_piece piece row single is =
    let f = front is.words piece row single is.spelled in
    let some : AreSome (f.word ∷ f.rest) = subst AreSome f.whole is.some in
    record { words = f.rest; some = some.1; spelled = f.spelled }

behind_word : (w : List ℕ) (row : Pieces) → IsSpoken (Word w ∷ row) → IsSpoken row
behind_word w row is = behind_piece (Word w) row tt is

text_some : (text : List ℕ) → IsSpoken (Text text ∷ []) → text ≢ []
text_some text is = by_words is.words is.some is.spelled where
  by_words : (words : Words) → AreSome words → SpellLine words (Text text ∷ []) → text ≢ []
  by_words [] some spelled = absurd spelled
  by_words (w ∷ words) some spelled = λ none. some.0 (some_bytes 0 w (spelled.0 ∙ ap Ok none))

free_all : (name : List ℕ) → IsFree (byte "=") name → All (λ b. b ≢ byte "=") name
free_all [] free = All-nil _
free_all (b ∷ name) free = All-cons (λ b. b ≢ byte "=") b name free.0 (free_all name free.1)

setting_free : (name value : List ℕ) → IsSpoken (Setting name value ∷ []) → All (λ b. b ≢ byte "=") name
setting_free name value is = by_words is.words is.spelled where
  by_words : (words : Words) → SpellLine words (Setting name value ∷ []) → All (λ b. b ≢ byte "=") name
  by_words [] spelled = absurd spelled
  by_words (w ∷ words) spelled = free_all name (cut_is (byte "=") w name value spelled.0).free

call_spellable : (c : Call) → IsSpoken (call_pieces c) → IsSpellableCall c
call_spellable (call.Write path text) is = text_some text (behind_word _ _ (behind_word _ _ is))
call_spellable (call.Fwrite n text) is = text_some text (behind_piece (Decimal 15 n) _ tt (behind_word _ _ is))
call_spellable (call.Pwrite name text) is = text_some text (behind_word _ _ (behind_word _ _ is))
call_spellable (call.Send from to text) is = text_some text (behind_word _ _ (behind_word _ _ (behind_word _ _ is)))
call_spellable (call.Sysctl name value) is = setting_free name value (behind_word _ _ is)
call_spellable other is = tt

line_spellable : (line : Line) → IsSpoken (line_pieces line) → IsSpellableCall line.call
line_spellable line = by_child line.child where
  by_child : (child : Option (List ℕ)) → IsSpoken (line_pieces (record { child = child; call = line.call })) → IsSpellableCall line.call
  by_child None is = call_spellable line.call is
  by_child (Some child) is = call_spellable line.call (behind_word _ (call_pieces line.call) is)

lines_spellable : (lines : List Line) → AllByRecursion IsSpoken (map line_pieces lines) → All (λ (line : Line). IsSpellableCall line.call) lines
lines_spellable [] all = All-nil _
lines_spellable (line ∷ lines) all = All-cons (λ (line : Line). IsSpellableCall line.call) line lines (line_spellable line all.0) (lines_spellable lines all.1)

-- Tasks and scripts

abbrev CanSpell : Task → Type 0
CanSpell task = All (λ (line : Line). IsSpellableCall line.call) task.lines

tasks_spellable : (tasks : List Task) → AllByRecursion IsSpoken (flat_map task_rows tasks) → All CanSpell tasks
tasks_spellable [] all = All-nil _
tasks_spellable (t ∷ tasks) all =
    let both : AllByRecursion IsSpoken (task_rows t ++ flat_map task_rows tasks) = subst (AllByRecursion IsSpoken) (flat_map-cons task_rows t tasks) all in
    let own = first_part IsSpoken (task_rows t) (flat_map task_rows tasks) both in
    All-cons CanSpell t tasks (lines_spellable t.lines (first_part IsSpoken (map line_pieces t.lines) _ own.1)) (tasks_spellable tasks (second_part IsSpoken (task_rows t) (flat_map task_rows tasks) both))

-- a script whose tunable is on has its line, and so boots mac_biba
tunable_spellable : (s : Script) (rows : List Pieces) → SayTunable s rows → s.revocation ≡ true → is_booted s.boots Biba ≡ true
tunable_spellable s rows (inl said) on = said.1
tunable_spellable s rows (inr unsaid) on = let off = unsaid.1 in cc

pub spelled_spellable : (lines : List (List ℕ)) (s : Script) → SpellScript lines s → IsSpellable s
spelled_spellable lines s script =
    let before = map boot_pieces s.boots ++ script.tunable ++ map file_pieces s.files in
    let all = spoken (sayings lines) (front_rows script.tunable s ++ script.steps) (sayings_some lines) script.spelled in
    let front = first_part IsSpoken (front_rows script.tunable s) script.steps all in
    record {
      tunable = tunable_spellable s script.tunable script.say_tunable;
      calls = tasks_spellable s.tasks (second_part IsSpoken before (flat_map task_rows s.tasks) front);
    }

pub read_spellable : ReadScriptsAreSpellable
read_spellable bytes s e = spelled_spellable (lines_in bytes) s (scripts_spelled bytes s e)
