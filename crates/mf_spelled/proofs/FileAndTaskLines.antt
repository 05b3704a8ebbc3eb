-- File lines, task lines, boot lines and steps that are read spell their pieces.
use Rattle.std.proofs.Common.{◌≡◌, ℕ, ◌+◌, ◌*◌, Bool, true, false, eqb, List, [], ◌∷◌, Some, None, Result, Ok, Err, refl, sym, subst, ap, ◌∙◌, codes}
use Rattle.std.specs.Prelude.{if◌then◌else◌, ◌&&◌}
use Rattle.std.specs.List.{AllByRecursion}
use Rattle.std.specs.Char.{is_digit, digit_value}
use Rattle.std.specs.Str.{bytes_eq}
use Rattle.std.proofs.lemmas.Bool.{not-true}
use Rattle.std.proofs.lemmas.Slice.Eq.{bytes_eq-Decides}
use Rattle.mf_text.specs.Escape.{bytes_from, with_first}
use Rattle.mf_errno.specs.Names.{module_named, module_text}
use Rattle.mf_errno.specs.declared.errno.Errno.TheVariants.{Enoent}
use Rattle.mf_errno.specs.declared.module.Module.{Module}
use Rattle.mf_errno.specs.declared.module.Module.TheVariants.{Biba}
use Rattle.mf_elem.specs.declared.label.Request.{Request}
use Rattle.mf_calls.specs.declared.limits.TheConstants.{UID_MAX}
use Rattle.mf_words.specs.Words.{Words}
use Rattle.mf_calls.specs.declared.script.FileLine.{FileLine}
use Rattle.mf_calls.specs.declared.script.Task.{Task}
use Rattle.mf_calls.specs.Boots.{is_booted}
use Rattle.mf_calls.specs.Tunable.{revocation_name}
use Rattle.mf_policy.specs.Sysctls.{switch}
use Rattle.mf_item.specs.declared.view.Kind.{Kind}
use Rattle.mf_item.specs.declared.view.Kind.TheVariants as kinds
use Rattle.mf_cred.specs.declared.cred.Cred.{Cred}
use Rattle.mf_cred.specs.declared.cred.FileView.{FileView}
use Rattle.mf_script.specs.declared.lines.FileWords.{FileWords}
use Rattle.mf_script.specs.declared.lines.TaskWords.{TaskWords}
use Rattle.mf_script.specs.declared.error.ScriptFault.TheVariants.{UnknownWord}
use Rattle.mf_script.specs.Readers.{by_option, fails, unless_refused}
use Rattle.mf_script.specs.Parts.{entry_named, any_word, number_of, mode_of, simple_name_of, path_of, groups_of, is_directory_of, text_of, sides_of}
use Rattle.mf_script.specs.Lines.{boot_words, tunable_words, file_view, file_words, file_content, cred_words, task_words, step_words, step_kind_of, step_kinds}
use Rattle.mf_script.specs.Grammar.{judged_tunable, judged_boot, judged_module, booted_after, file_label, judged_file, task_label, judged_task, judged_request}
use Rattle.mf_script.proofs.Yields.{Yields, done, refused, chain, checked, either, widened}
use Rattle.mf_spelling.specs.Spelling.{Piece, Word, Decimal, Octal, Groups, Text, Setting, Label, path, Spells, SpellLine, boot_pieces, switch_word, tunable_pieces, file_pieces, text_pieces, task_pieces, step_word, step_pieces, Pieces}
use Rattle.mf_spelled.proofs.Lines.{Reads, before, at_end, IsFirst, IsField, by_word, by_field, two_before, nothing_left, if_some}
use Rattle.mf_spelled.proofs.Words.{any_spells, name_spells, number_spells, mode_spells, text_spells, sides_spell, path_spells, groups_spell, request_read, module_spells, named_under}

-- Words have some byte

abbrev pub IsSome : List ℕ → Type 0
IsSome w = w ≡ [] → ⊥

abbrev pub AreSome : Words → Type 0
AreSome ws = AllByRecursion IsSome ws

behind_first : (piece : Piece) (ws rest : Words) → IsFirst piece ws rest → AreSome ws → AreSome rest
behind_first piece ws rest first some = let both : AreSome (first.word ∷ rest) = subst AreSome first.whole some in both.1

behind_field : (text : List ℕ) (piece : Piece) (ws rest : Words) → IsField text piece ws rest → AreSome ws → AreSome rest
behind_field text piece ws rest both some = behind_first piece both.between rest both.value (behind_first (Word text) ws both.between both.name some)

-- a text with some byte stands for some byte
some_first : (c : ℕ) (more : Result (List ℕ) ℕ) → with_first c more ≡ Ok [] → ⊥
some_first c (Ok bytes) e = cc
some_first c (Err place) e = cc

pub some_bytes : (place : ℕ) (w : List ℕ) → bytes_from place w ≡ Ok [] → w ≡ []
unfolding bytes_from
some_bytes place [] e = refl
some_bytes place (c ∷ []) e = by_test (eqb c 92) e where
  by_test : (slash : Bool) → (if slash then Err place else Ok (c ∷ [])) ≡ Ok [] → c ∷ [] ≡ []
  by_test true h = cc
  by_test false h = cc
some_bytes place (c ∷ d ∷ []) e = by_test (eqb c 92) e where
  by_test : (slash : Bool) → (if slash then Err place else with_first c (bytes_from (place + 1) (d ∷ []))) ≡ Ok [] → c ∷ d ∷ [] ≡ []
  by_test true h = cc
  by_test false h = absurd (some_first c _ h)
some_bytes place (c ∷ d ∷ e ∷ rest) h = by_test (eqb c 92) (is_digit d 16 && is_digit e 16) h where
  by_test : (slash digits : Bool) → (if slash then (if digits then with_first (digit_value d * 16 + digit_value e) (bytes_from (place + 3) rest) else Err place)
      else with_first c (bytes_from (place + 1) (d ∷ e ∷ rest))) ≡ Ok [] → c ∷ d ∷ e ∷ rest ≡ []
  by_test true true h = absurd (some_first _ _ h)
  by_test true false h = cc
  by_test false digits h = absurd (some_first c _ h)

-- Files

directory_spells : Reads (λ dir. Word (if dir then codes "dir" else codes "reg")) is_directory_of
unfolding is_directory_of
directory_spells w = by_kind (bytes_eq w (codes "reg")) (bytes_eq w (codes "dir")) (bytes_eq-Decides w (codes "reg")).0 (bytes_eq-Decides w (codes "dir")).0 where
  by_kind : (reg dir : Bool) → (reg ≡ true → w ≡ codes "reg") → (dir ≡ true → w ≡ codes "dir")
      → Yields (λ (dir : Bool). w ≡ (if dir then codes "dir" else codes "reg")) (by_option (if reg then Some false else (if dir then Some true else None)) (fails UnknownWord) Ok)
  by_kind true dir is_reg is_dir = done (is_reg refl)
  by_kind false true is_reg is_dir = done (is_dir refl)
  by_kind false false is_reg is_dir = refused

-- what spells the text of a file, where nothing is left behind it
text_line : (bytes : List ℕ) (ws rest : Words) → AreSome ws → IsField (codes "text") (Text bytes) ws rest → rest ≡ [] → SpellLine ws (text_pieces bytes)
text_line [] ws rest some both none =
    let here : AreSome (both.value.word ∷ rest) = subst AreSome both.value.whole (behind_first (Word (codes "text")) ws both.between both.name some) in
    absurd (here.0 (some_bytes 0 both.value.word both.value.spells))
text_line (b ∷ bytes) ws rest some both none = two_before (codes "text") (Text (b ∷ bytes)) ws rest [] both (at_end rest none)

text_spelled : (dir : Bool) (ws : Words) → AreSome ws → Yields (λ text. text.1 ≡ [] → SpellLine ws (text_pieces text.0)) (file_content dir ws)
unfolding file_content
text_spelled dir [] some = done (λ none. tt)
text_spelled true (w ∷ ws) some = refused
text_spelled false (w ∷ ws) some = widened (by_field (codes "text") Text text_of text_spells (w ∷ ws)) (λ text both none. text_line text.0 (w ∷ ws) text.1 some both none)

-- the file that these words are of, with what its label asks for
abbrev pub file_of : FileWords → Request → FileLine
file_of f request = record { path = f.path; file = f.file; label = request; text = f.text }

-- with what the label word asks for, the words spell the file
abbrev pub SpellFile : Words → FileWords → Type 0
SpellFile ws f = (request : Request) → Spells f.label (Label request) → SpellLine (codes "file" ∷ ws) (file_pieces (file_of f request))

relabelled : (text w : List ℕ) (request : Request) (ws rest : Words) → IsField text (Word w) ws rest → Spells w (Label request) → IsField text (Label request) ws rest
relabelled text w request ws rest both asks = record {
  between = both.between;
  name = both.name;
  value = record { word = both.value.word; whole = both.value.whole; spells = subst (λ (w : List ℕ). Spells w (Label request)) (sym both.value.spells) asks };
}

-- the words between a file's path and its label, in front of others
record IsView (f : FileView) (ws rest : Words) : Type 0 where
  some : AreSome rest
  spelled : (pieces : Pieces) → SpellLine rest pieces → SpellLine ws (
      Word (if f.dir then codes "dir" else codes "reg") ∷ Word (codes "uid") ∷ Decimal UID_MAX f.uid ∷ Word (codes "gid") ∷ Decimal UID_MAX f.gid ∷ Word (codes "mode") ∷ Octal f.mode ∷ pieces)

view_spelled : (ws : Words) → AreSome ws → Yields (λ f. IsView f.0 ws f.1) (file_view ws)
unfolding file_view
view_spelled ws some =
    chain _ _ (by_word (λ dir. Word (if dir then codes "dir" else codes "reg")) is_directory_of directory_spells ws) (λ dir at_dir. let some = behind_first _ ws dir.1 at_dir some in
    chain _ _ (by_field (codes "uid") (Decimal UID_MAX) number_of (number_spells UID_MAX) dir.1) (λ uid at_uid. let some = behind_field (codes "uid") _ dir.1 uid.1 at_uid some in
    chain _ _ (by_field (codes "gid") (Decimal UID_MAX) number_of (number_spells UID_MAX) uid.1) (λ gid at_gid. let some = behind_field (codes "gid") _ uid.1 gid.1 at_gid some in
    chain _ _ (by_field (codes "mode") Octal mode_of mode_spells gid.1) (λ mode at_mode. done (record {
      some = behind_field (codes "mode") _ gid.1 mode.1 at_mode some;
      spelled = λ pieces rest.
          before (Word (if dir.0 then codes "dir" else codes "reg")) ws dir.1 _ at_dir (
          two_before (codes "uid") (Decimal UID_MAX uid.0) dir.1 uid.1 _ at_uid (
          two_before (codes "gid") (Decimal UID_MAX gid.0) uid.1 gid.1 _ at_gid (
          two_before (codes "mode") (Octal mode.0) gid.1 mode.1 pieces at_mode rest)));
    })))))

pub file_spelled : (ws : Words) → AreSome ws → Yields (SpellFile ws) (file_words ws)
unfolding file_words
file_spelled ws some =
    chain _ _ (by_word path path_of path_spells ws) (λ name at_name.
    chain _ _ (view_spelled name.1 (behind_first (path name.0) ws name.1 at_name some)) (λ file at_file.
    chain _ _ (by_field (codes "label") Word any_word any_spells file.1) (λ label at_label.
    chain _ _ (text_spelled file.0.dir label.1 (behind_field (codes "label") _ file.1 label.1 at_label at_file.some)) (λ text spelled.
    chain _ _ (nothing_left text.1) (λ u none. done (λ request asks. (
      refl,
      before (path name.0) ws name.1 _ at_name (at_file.spelled _ (
          two_before (codes "label") (Label request) file.1 label.1 (text_pieces text.0) (relabelled (codes "label") label.0 request file.1 label.1 at_label asks) (spelled none))),
    )))))))

-- Tasks

abbrev pub task_of : TaskWords → Request → Task
task_of t request = record { name = t.name; cred = t.cred; label = request; lines = [] }

abbrev pub SpellTask : Words → TaskWords → Type 0
SpellTask ws t = (request : Request) → Spells t.label (Label request) → SpellLine (codes "task" ∷ ws) (task_pieces (task_of t request))

-- the words between a task's name and its label, in front of others
IsCred : Cred → Words → Words → Type 0
IsCred cred ws rest = (pieces : Pieces) → SpellLine rest pieces
    → SpellLine ws (Word (codes "uid") ∷ Decimal UID_MAX cred.uid ∷ Word (codes "gid") ∷ Groups cred.groups ∷ pieces)

cred_spelled : (ws : Words) → Yields (λ cred. IsCred cred.0 ws cred.1) (cred_words ws)
unfolding cred_words IsCred
cred_spelled ws =
    chain _ _ (by_field (codes "uid") (Decimal UID_MAX) number_of (number_spells UID_MAX) ws) (λ uid at_uid.
    chain _ _ (by_field (codes "gid") Groups groups_of groups_spell uid.1) (λ groups at_groups. done (λ pieces rest.
    two_before (codes "uid") (Decimal UID_MAX uid.0) ws uid.1 _ at_uid (two_before (codes "gid") (Groups groups.0) uid.1 groups.1 pieces at_groups rest))))

pub task_spelled : (ws : Words) → Yields (SpellTask ws) (task_words ws)
unfolding task_words IsCred
task_spelled ws =
    chain _ _ (by_word Word simple_name_of name_spells ws) (λ name at_name.
    chain _ _ (cred_spelled name.1) (λ cred at_cred.
    chain _ _ (by_field (codes "label") Word any_word any_spells cred.1) (λ label at_label.
    chain _ _ (nothing_left label.1) (λ u none. done (λ request asks. (
      refl,
      before (Word name.0) ws name.1 _ at_name (at_cred _ (
          two_before (codes "label") (Label request) cred.1 label.1 [] (relabelled (codes "label") label.0 request cred.1 label.1 at_label asks) (at_end label.1 none))),
    ))))))

-- Steps

kind_spells : Reads (λ kind. Word (step_word kind)) step_kind_of
unfolding step_kind_of
kind_spells w = if_some (entry_named w step_kinds) _ _ refused (λ kind e. done (named_under step_word w kind step_kinds (refl, (refl, (refl, (refl, (refl, tt))))) e))

pub step_spelled : (w : List ℕ) (ws : Words) → Yields (λ x. SpellLine (w ∷ ws) (step_pieces x)) (step_words w ws)
unfolding step_words
step_spelled w ws =
    chain _ _ (kind_spells w) (λ kind spells.
    chain _ _ (by_word Word simple_name_of name_spells ws) (λ task at_task.
    chain _ _ (nothing_left task.1) (λ u none. done (spells, before (Word task.0) ws task.1 [] at_task (at_end task.1 none)))))

-- Boots, and what is judged

module_judged : (boots : List Module) (m : Module) → Yields (λ booted. booted ≡ m) (judged_module boots m)
unfolding judged_module
module_judged boots m = either (is_booted boots m) _ _ refused (done refl)

boot_judged : (boots : List Module) (name : List ℕ) → Yields (λ m. SpellLine (codes "boot" ∷ name ∷ []) (boot_pieces m)) (judged_boot boots name)
unfolding judged_boot
boot_judged boots name = checked _ _ _ (λ room. if_some (module_named name) _ _ refused (λ m e. widened (module_judged boots m) (λ booted is.
    (refl, (subst (λ (m : Module). Spells name (Word (module_text m))) (sym is) (module_spells name m e), tt)))))

boot_name : (ws : Words) → Yields (λ name. ws ≡ name ∷ []) (boot_words ws)
unfolding boot_words
boot_name ws = chain _ _ (by_word Word any_word any_spells ws) (λ name at_name. chain _ _ (nothing_left name.1) (λ u none. done
    (at_name.whole ∙ ap (λ w. w ∷ name.1) at_name.spells ∙ ap (λ (rest : Words). name.0 ∷ rest) none)))

pub boot_spelled : (boots : List Module) (ws : Words) → Yields (λ m. SpellLine (codes "boot" ∷ ws) (boot_pieces m)) (booted_after boots ws)
unfolding booted_after
boot_spelled boots ws = chain _ _ (boot_name ws) (λ name whole. widened (boot_judged boots name)
    (λ m spelled. subst (λ (ws : Words). SpellLine (codes "boot" ∷ ws) (boot_pieces m)) (sym whole) spelled))

-- the tunable is set once, which a script does that boots mac_biba
pub record IsSet (boots : List Module) (again : Bool) (ws : Words) (revocation : Bool) : Type 0 where
  pub spelled : SpellLine (codes "tunable" ∷ ws) (tunable_pieces revocation)
  pub booted : is_booted boots Biba ≡ true
  pub once : again ≡ false

tunable_named : (boots : List Module) (name : List ℕ)
    → Yields (λ u. (name ≡ revocation_name) × (is_booted boots Biba ≡ true)) (unless_refused Enoent (bytes_eq name revocation_name && is_booted boots Biba))
tunable_named boots name = by_tests (bytes_eq name revocation_name) (is_booted boots Biba) (bytes_eq-Decides name revocation_name).0 where
  by_tests : (same booted : Bool) → (same ≡ true → name ≡ revocation_name)
      → Yields (λ (u : Unit {0}). (name ≡ revocation_name) × (booted ≡ true)) (unless_refused Enoent (same && booted))
  by_tests true true is = done (is refl, refl)
  by_tests true false is = refused
  by_tests false booted is = refused

switch_is : (value : List ℕ) (revocation : Bool) → switch value ≡ Some revocation → value ≡ switch_word revocation
unfolding switch
switch_is value revocation = by_tests (bytes_eq (codes "0") value) (bytes_eq (codes "1") value) (bytes_eq-Decides (codes "0") value).0 (bytes_eq-Decides (codes "1") value).0 where
  by_tests : (off on : Bool) → (off ≡ true → codes "0" ≡ value) → (on ≡ true → codes "1" ≡ value)
      → (if off then Some false else if on then Some true else None) ≡ Some revocation → value ≡ switch_word revocation
  by_tests true on is_off is_on e = let here : false ≡ revocation = cc in sym (is_off refl) ∙ ap switch_word here
  by_tests false true is_off is_on e = let here : true ≡ revocation = cc in sym (is_on refl) ∙ ap switch_word here
  by_tests false false is_off is_on e = cc

pub tunable_spelled : (ws : Words) → Yields (λ sides. SpellLine ws (Setting sides.0 sides.1 ∷ [])) (tunable_words ws)
unfolding tunable_words
tunable_spelled ws =
    chain _ _ (by_word (λ sides. Setting sides.0 sides.1) sides_of sides_spell ws) (λ sides at.
    chain _ _ (nothing_left sides.1) (λ u none. done (before (Setting sides.0.0 sides.0.1) ws sides.1 [] at (at_end sides.1 none))))

pub tunable_judged : (boots : List Module) (again : Bool) (ws : Words) (sides : List ℕ × List ℕ) → SpellLine ws (Setting sides.0 sides.1 ∷ [])
    → Yields (IsSet boots again ws) (judged_tunable boots again sides)
unfolding judged_tunable
tunable_judged boots again ws sides spelled =
    chain _ _ (tunable_named boots sides.0) (λ u named.
    chain _ _ (if_some (switch sides.1) _ _ refused (λ revocation e. done (switch_is sides.1 revocation e))) (λ revocation is.
    checked _ _ _ (λ first. done (record {
      spelled = (refl, subst (λ value. SpellLine ws (Setting revocation_name value ∷ [])) is (subst (λ name. SpellLine ws (Setting name sides.1 ∷ [])) named.0 spelled));
      booted = named.1;
      once = not-true again first;
    }))))

request_judged : (kind : Kind) (boots : List Module) (w : List ℕ) → Yields (λ request. Spells w (Label request)) (judged_request kind boots w)
unfolding judged_request
request_judged kind boots w = chain _ _ (request_read w) (λ request spells. checked _ _ _ (λ e. done spells))

file_labelled : (boots : List Module) (files : List FileLine) (f : FileWords) → Yields (λ label. Spells f.label (Label label)) (file_label boots files f)
unfolding file_label
file_labelled boots files f = checked _ _ _ (λ small. checked _ _ _ (λ new. checked _ _ _ (λ there. request_judged kinds.Vnode boots f.label)))

pub file_judged : (boots : List Module) (files : List FileLine) (ws : Words) (f : FileWords) → SpellFile ws f
    → Yields (λ file. SpellLine (codes "file" ∷ ws) (file_pieces file)) (judged_file boots files f)
unfolding judged_file
file_judged boots files ws f spells = chain _ _ (file_labelled boots files f) (λ label asks. done (spells label asks))

task_labelled : (boots : List Module) (tasks : List Task) (t : TaskWords) → Yields (λ label. Spells t.label (Label label)) (task_label boots tasks t)
unfolding task_label
task_labelled boots tasks t = checked _ _ _ (λ room. checked _ _ _ (λ new. request_judged kinds.Process boots t.label))

pub task_judged : (boots : List Module) (tasks : List Task) (ws : Words) (t : TaskWords) → SpellTask ws t
    → Yields (λ task. SpellLine (codes "task" ∷ ws) (task_pieces task) × (task.lines ≡ [])) (judged_task boots tasks t)
unfolding judged_task
task_judged boots tasks ws t spells = chain _ _ (task_labelled boots tasks t) (λ label asks. done (spells label asks, refl))
