-- Lines that spell well-formed boots, files, tasks and steps are read as them.
use Rattle.std.proofs.Common.{◌≡◌, ℕ, ◌==◌, ◌<◌, Bool, true, false, List, [], ◌∷◌, length, Ok, refl, sym, ap, ◌∙◌, codes}
use Rattle.std.specs.Prelude.{if◌then◌else◌}
use Rattle.std.specs.List.{list_any}
use Rattle.std.specs.Str.{bytes_eq}
use Rattle.std.proofs.lemmas.Bool.{lt-ltb, le-leb}
use Rattle.std.proofs.lemmas.Slice.Eq.{bytes_eq-Decides}
use Rattle.mf_errno.specs.Names.{module_text}
use Rattle.mf_errno.proofs.Modules.{own_name}
use Rattle.mf_errno.specs.declared.module.Module.{Module}
use Rattle.mf_errno.specs.declared.module.Module.TheVariants.{Biba}
use Rattle.mf_elem.specs.declared.label.Request.{Request}
use Rattle.mf_item.specs.declared.view.Kind.{Kind}
use Rattle.mf_item.specs.declared.view.Kind.TheVariants as kinds
use Rattle.mf_names.specs.declared.limits.TheConstants.{CONTENT_LIMIT}
use Rattle.mf_words.specs.Words.{Words}
use Rattle.mf_calls.specs.declared.limits.TheConstants.{UID_MAX, BOOT_LIMIT, FILE_LIMIT}
use Rattle.mf_calls.specs.declared.script.FileLine.{FileLine}
use Rattle.mf_calls.specs.declared.script.Task.{Task}
use Rattle.mf_calls.specs.declared.script.Script.{Script}
use Rattle.mf_calls.specs.declared.script.Step.{Step}
use Rattle.mf_calls.specs.declared.script.StepKind.{StepKind}
use Rattle.mf_calls.specs.declared.script.StepKind.TheVariants as step
use Rattle.mf_calls.specs.Boots.{is_booted, may_ask_for}
use Rattle.mf_calls.specs.Tunable.{revocation_name}
use Rattle.mf_policy.specs.Sysctls.{switch}
use Rattle.mf_calls.specs.Paths.{directory_of, has_directory}
use Rattle.mf_calls.specs.WellFormed.{IsAsked, IsFormedFile, IsFormedTask, IsName}
use Rattle.mf_script.specs.declared.error.ScriptFault.TheVariants as fault
use Rattle.mf_script.specs.declared.rows.Place.TheVariants as place
use Rattle.mf_script.specs.Readers.{Read, and_then}
use Rattle.mf_script.specs.Parts.{word_by, field, fixed, no_more, any_word, number_of, mode_of, simple_name_of, path_of, groups_of, is_directory_of, text_of, sides_of}
use Rattle.mf_script.specs.Lines.{boot_words, tunable_words, file_view, file_words, file_content, cred_words, task_words, step_words, step_kind_of}
use Rattle.mf_script.specs.Grammar.{tunable_in, judged_tunable, has_path, booted_after, judged_boot, judged_module, file_label, judged_file, judged_request}
use Rattle.mf_spelling.specs.Spelling.{Piece, Word, Decimal, Octal, Groups, Text, Setting, Label, Pieces, path, Spells, SpellLine, boot_pieces, switch_word, file_pieces, text_pieces, task_pieces, step_word, step_pieces}
use Rattle.mf_spelled.proofs.WordsBack.{IsRead, passes, any_back, name_back, number_back, mode_back, text_back, sides_back, path_back, groups_back, request_back}
use Rattle.mf_spelled.proofs.Lines.{IsSingle, IsFront, front, none, word_read}

-- the word that says what comes, and the word behind it
record IsFieldRead {A : Type 0} (text : List ℕ) (read : List ℕ → Read A) (ws : Words) (x : A) (pieces : Pieces) : Type 0 where
  rest : Words
  is : field text read ws ≡ Ok (x, rest)
  spelled : SpellLine rest pieces

fixed_back : (text : List ℕ) (rest : Words) → fixed text (text ∷ rest) ≡ Ok rest
fixed_back text rest = passes fault.UnknownWord (bytes_eq text text) (λ u. Ok rest) ((bytes_eq-Decides text text).1 refl)

field_front : (text : List ℕ) (ws : Words) (pieces : Pieces) → (f : IsFront ws (Word text) pieces) → fixed text ws ≡ Ok f.rest
field_front text ws pieces f = ap (fixed text) (f.whole ∙ ap (λ w. w ∷ f.rest) f.spells) ∙ fixed_back text f.rest

field_read : {A : Type 0} (text : List ℕ) (read : List ℕ → Read A) (piece : Piece) (x : A) → IsSingle piece → IsRead read piece x → (ws : Words) (pieces : Pieces)
    → SpellLine ws (Word text ∷ piece ∷ pieces) → IsFieldRead text read ws x pieces
unfolding field and_then
field_read text read piece x single back ws pieces spelled =
    let f = front ws (Word text) (piece ∷ pieces) tt spelled in
    let got = word_read read piece x single back f.rest pieces f.spelled in
    record { rest = got.rest; is = rw (field_front text ws (piece ∷ pieces) f) got.is; spelled = got.spelled }

-- a label isn't read yet
record IsLabelRead (request : Request) (ws : Words) (pieces : Pieces) : Type 0 where
  label : List ℕ
  asks : Spells label (Label request)
  field : IsFieldRead (codes "label") any_word ws label pieces

any_front : (request : Request) (ws : Words) (pieces : Pieces) → (g : IsFront ws (Label request) pieces) → word_by any_word ws ≡ Ok (g.word, g.rest)
unfolding and_then any_word
any_front request ws pieces g = ap (word_by any_word) g.whole

label_read : (request : Request) (ws : Words) (pieces : Pieces) → SpellLine ws (Word (codes "label") ∷ Label request ∷ pieces) → IsLabelRead request ws pieces
unfolding field and_then any_word
label_read request ws pieces spelled =
    let f = front ws (Word (codes "label")) (Label request ∷ pieces) tt spelled in
    let g = front f.rest (Label request) pieces tt f.spelled in
    record {
      label = g.word;
      asks = g.spells;
      field = record { rest = g.rest; is = rw (field_front (codes "label") ws (Label request ∷ pieces) f) (any_front request f.rest pieces g); spelled = g.spelled };
    }

no_more_left : (rest : Words) → SpellLine rest [] → no_more rest ≡ Ok tt
no_more_left rest spelled = ap no_more (none rest spelled)

-- The words of lines

directory_back : (dir : Bool) → IsRead is_directory_of (Word (if dir then codes "dir" else codes "reg")) dir
unfolding is_directory_of
directory_back true w e = ap is_directory_of e
directory_back false w e = ap is_directory_of e

record IsTextRead (dir : Bool) (text : List ℕ) (ws : Words) : Type 0 where
  rest : Words
  is : file_content dir ws ≡ Ok (text, rest)
  spelled : SpellLine rest []

text_read : (dir : Bool) (text : List ℕ) → (dir ≡ true → text ≡ []) → (ws : Words) → SpellLine ws (text_pieces text) → IsTextRead dir text ws
unfolding file_content
text_read dir [] held [] spelled = record { rest = []; is = refl; spelled = tt }
text_read dir [] held (w ∷ ws) spelled = absurd spelled
text_read true (b ∷ text) held ws spelled = let empty = held refl in cc
text_read false (b ∷ text) held [] spelled = absurd spelled
text_read false (b ∷ text) held (w ∷ ws) spelled =
    let got = field_read (codes "text") text_of (Text (b ∷ text)) (b ∷ text) tt (text_back (b ∷ text)) (w ∷ ws) [] spelled in
    record { rest = got.rest; is = got.is; spelled = got.spelled }

pub record IsFileRead (f : FileLine) (ws : Words) : Type 0 where
  pub label : List ℕ
  pub asks : Spells label (Label f.label)
  pub is : file_words ws ≡ Ok (record { path = f.path; file = f.file; label = label; text = f.text })

pub file_back : (boots : List Module) (f : FileLine) → IsFormedFile boots f → (w : List ℕ) (ws : Words) → SpellLine (w ∷ ws) (file_pieces f) → IsFileRead f ws
unfolding file_words file_view label_read and_then
file_back boots f formed w ws spelled =
    let name = word_read path_of (path f.path) f.path tt (path_back f.path formed.path) ws _ spelled.1 in
    let dir = word_read is_directory_of (Word (if f.file.dir then codes "dir" else codes "reg")) f.file.dir tt (directory_back f.file.dir) name.rest _ name.spelled in
    let uid = field_read (codes "uid") number_of (Decimal UID_MAX f.file.uid) f.file.uid tt (number_back UID_MAX f.file.uid) dir.rest _ dir.spelled in
    let gid = field_read (codes "gid") number_of (Decimal UID_MAX f.file.gid) f.file.gid tt (number_back UID_MAX f.file.gid) uid.rest _ uid.spelled in
    let mode = field_read (codes "mode") mode_of (Octal f.file.mode) f.file.mode tt (mode_back f.file.mode) gid.rest _ gid.spelled in
    let label = label_read f.label mode.rest (text_pieces f.text) mode.spelled in
    let text = text_read f.file.dir f.text formed.directory label.field.rest label.field.spelled in
    record {
      label = label.label;
      asks = label.asks;
      is = rw (name.is, dir.is, uid.is, gid.is, mode.is, label.field.is, text.is, no_more_left text.rest text.spelled) refl;
    }

pub record IsTaskRead (t : Task) (ws : Words) : Type 0 where
  pub label : List ℕ
  pub asks : Spells label (Label t.label)
  pub is : task_words ws ≡ Ok (record { name = t.name; cred = t.cred; label = label })

pub task_back : (boots : List Module) (t : Task) → IsFormedTask boots t → (w : List ℕ) (ws : Words) → SpellLine (w ∷ ws) (task_pieces t) → IsTaskRead t ws
unfolding task_words cred_words label_read and_then
task_back boots t formed w ws spelled =
    let name = word_read simple_name_of (Word t.name) t.name tt (name_back t.name formed.name) ws _ spelled.1 in
    let uid = field_read (codes "uid") number_of (Decimal UID_MAX t.cred.uid) t.cred.uid tt (number_back UID_MAX t.cred.uid) name.rest _ name.spelled in
    let groups = field_read (codes "gid") groups_of (Groups t.cred.groups) t.cred.groups tt (groups_back t.cred.groups formed.cred.few) uid.rest _ uid.spelled in
    let label = label_read t.label groups.rest [] groups.spelled in
    record {
      label = label.label;
      asks = label.asks;
      is = rw (name.is, uid.is, groups.is, label.field.is, no_more_left label.field.rest label.field.spelled)
          (ap (λ (ruid : ℕ). Ok (record { name = t.name; cred = record { uid = t.cred.uid; ruid = ruid; svuid = t.cred.uid; groups = t.cred.groups }; label = label.label })) (sym formed.cred.real)
          ∙ ap (λ (svuid : ℕ). Ok (record { name = t.name; cred = record { uid = t.cred.uid; ruid = t.cred.ruid; svuid = svuid; groups = t.cred.groups }; label = label.label })) (sym formed.cred.saved));
    }

kind_back : (kind : StepKind) → IsRead step_kind_of (Word (step_word kind)) kind
unfolding step_kind_of
kind_back step.Enter w e = ap step_kind_of e
kind_back step.Plan w e = ap step_kind_of e
kind_back step.Done w e = ap step_kind_of e
kind_back step.Leave w e = ap step_kind_of e
kind_back step.Change w e = ap step_kind_of e

pub step_back : (x : Step) → IsName x.task → (w : List ℕ) (ws : Words) → SpellLine (w ∷ ws) (step_pieces x) → step_words w ws ≡ Ok x
unfolding step_words and_then
step_back x formed w ws spelled =
    let task = word_read simple_name_of (Word x.task) x.task tt (name_back x.task formed) ws [] spelled.1 in
    rw (kind_back x.kind w spelled.0, task.is, no_more_left task.rest task.spelled) refl

-- What is judged

pub request_judged : (kind : Kind) (boots : List Module) (request : Request) (w : List ℕ) → IsAsked kind boots request → Spells w (Label request) → judged_request kind boots w ≡ Ok request
unfolding judged_request and_then
request_judged kind boots request w asked asks = rw (request_back request w asks) (passes fault.BadLabel (may_ask_for kind boots request) (λ u. Ok request) asked.allowed)

pub boot_back : (boots : List Module) (m : Module) → length boots < BOOT_LIMIT → is_booted boots m ≡ false → (w : List ℕ) (ws : Words) → SpellLine (w ∷ ws) (boot_pieces m) → booted_after boots ws ≡ Ok m
unfolding booted_after boot_words judged_boot judged_module and_then
boot_back boots m room new w ws spelled =
    let name = word_read any_word (Word (module_text m)) (module_text m) tt (any_back (module_text m)) ws [] spelled.1 in
    rw (name.is, no_more_left name.rest name.spelled, lt-ltb (length boots) BOOT_LIMIT room, own_name m, new) refl

pub tunable_back : (s : Script) (revocation : Bool) → is_booted s.boots Biba ≡ true → (ws : Words) → SpellLine ws (Setting revocation_name (switch_word revocation) ∷ [])
    → tunable_in s false ws ≡ Ok (record s { revocation = revocation }, place.Tunable)
unfolding tunable_in tunable_words judged_tunable switch and_then
tunable_back s revocation booted ws spelled =
    let sides = word_read sides_of (Setting revocation_name (switch_word revocation)) (revocation_name, switch_word revocation) tt (sides_back revocation_name (switch_word revocation)) ws [] spelled in
    by_value revocation sides.rest sides.spelled sides.is where
      by_value : (revocation : Bool) → (rest : Words) → SpellLine rest [] → word_by sides_of ws ≡ Ok ((revocation_name, switch_word revocation), rest)
          → tunable_in s false ws ≡ Ok (record s { revocation = revocation }, place.Tunable)
      by_value true rest end is = rw (is, no_more_left rest end, booted) refl
      by_value false rest end is = rw (is, no_more_left rest end, booted) refl

pub file_judged : (boots : List Module) (files : List FileLine) (f : FileLine) (w : List ℕ) → IsFormedFile boots f → Spells w (Label f.label) → length files < FILE_LIMIT
    → (length f.path == 0) ≡ false → list_any (has_path f.path) files ≡ false → has_directory files (directory_of f.path) ≡ true
    → judged_file boots files (record { path = f.path; file = f.file; label = w; text = f.text }) ≡ Ok f
unfolding judged_file file_label and_then
file_judged boots files f w formed asks room not_root new there =
    rw (lt-ltb (length files) FILE_LIMIT room, le-leb (length f.text) CONTENT_LIMIT formed.text.few, not_root, new, there, request_judged kinds.Vnode boots f.label w formed.label asks) refl
