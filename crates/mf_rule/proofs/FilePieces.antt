-- The tests that only an object has, the `not` of a part, and the words between the parts, read back.
use Rattle.std.proofs.Common.{◌≡◌, ℕ, ◌+◌, ◌≤◌, Bool, true, false, List, [], ◌∷◌, ◌++◌, Option, Some, None, IfSome, codes, refl, ap, ◌∙◌}
use Rattle.mf_rule.specs.declared.rule.TypeTest.{TypeTest}
use Rattle.mf_rule.specs.declared.rule.Rule.{Rule}
use Rattle.mf_rule.specs.declared.begun.Part.{Part}
use Rattle.mf_rule.specs.declared.begun.Part.TheVariants.{Subject, Object}
use Rattle.mf_rule.specs.declared.begun.Next.TheVariants as next
use Rattle.mf_rule.specs.declared.begun.Begun.{Begun}
use Rattle.mf_rule.specs.declared.fault.RuleFault.TheVariants.{BadType, BadMode}
use Rattle.mf_rule.specs.Words.{types_in, mode_in}
use Rattle.mf_rule.specs.Words.{type_letters}
use Rattle.mf_rule.specs.Canonical.{mark_text, not_text, flag_text, types_text, letters_text}
use Rattle.mf_text.specs.Results.{and_then}
use Rattle.mf_rule.specs.Reading.{reads_on, once, by_value, side_of, with_side, fitted, tested, test_named, file_test, flagged, read_from}
use Rattle.mf_labeltext.proofs.Cutting.{IsFree}
use Rattle.mf_rule.proofs.Pieces.{free_by, tail, Led, word_then, begun, open_at, On, on_trans, on_words, on_same, mark_step, value_piece}
use Rattle.mf_rule.proofs.Letters.{types_back}

-- the part goes on, its first word or a later one next
abbrev pub Ends : Begun → List (List ℕ) → Part → Rule → List (List ℕ) → Type 0
Ends before ws part rule rest = (c : Bool) × On before ws (begun (open_at part c) rule) rest

pub then_piece : (before : Begun) (ws xs ys : List (List ℕ)) (part : Part) (r s : Rule) → Ends before ws part r xs → ((c : Bool) → Ends (begun (open_at part c) r) xs part s ys) → Ends before ws part s ys
then_piece before ws xs ys part r s first more =
    let x = first in
    let y = more x.0 in
    (y.0, on_trans before (begun (open_at part x.0) r) (begun (open_at part y.0) s) ws xs ys x.1 y.1)

pub led_mark : (turned : Bool) (w : List ℕ) → Led w → Led (mark_text turned ++ w)
led_mark true w led = refl
led_mark false w led = led

pub led_append : (w x : List ℕ) → Led w → Led x → Led (w ++ x)
led_append [] x first second = second
led_append (c ∷ cs) x first second = first

-- ---- not
abbrev pub put_not : Part → Rule → Bool → Rule
put_not part rule turned = with_side part rule (record (side_of part rule) { not = turned })

pub not_same : (part : Part) (rule : Rule) → (side_of part rule).not ≡ false → begun (next.First part) rule ≡ begun (next.First part) (put_not part rule false)
not_same Subject rule is = ap (λ b. begun (next.First Subject) (put_not Subject rule b)) is
not_same Object rule is = ap (λ b. begun (next.First Object) (put_not Object rule b)) is

pub not_step : (part : Part) (rule : Rule) (ws : List (List ℕ)) → On (begun (next.First part) rule) (codes "not" ∷ ws) (begun (next.Test part) (put_not part rule true)) ws
unfolding read_from fitted
not_step part rule ws = λ place. (place + 1, refl)

pub not_piece : (part : Part) (rule : Rule) (turned : Bool) (x : List ℕ) → Led x → (side_of part rule).not ≡ false
    → Ends (begun (next.First part) rule) (tail (not_text turned ++ x)) part (put_not part rule turned) (tail x)
not_piece part rule true x led is = (
  false,
  on_words (begun (next.First part) rule) (begun (next.Test part) (put_not part rule true)) (tail (codes " not" ++ x)) (codes "not" ∷ tail x) (tail x)
      (word_then (codes "not") x (free_by (codes "not") refl) led) (not_step part rule (tail x)),
)
not_piece part rule false x led is = (true, on_same (begun (next.First part) rule) (begun (next.First part) (put_not part rule false)) (tail x) (not_same part rule is))

-- ---- the words behind a part
pub object_step : (b : Bool) (rule : Rule) (ws : List (List ℕ)) → On (begun (open_at Subject b) rule) (codes "object" ∷ ws) (begun (next.First Object) rule) ws
unfolding read_from fitted tested
object_step true rule ws = λ place. (place + 1, refl)
object_step false rule ws = λ place. (place + 1, refl)

pub mode_step : (b : Bool) (rule : Rule) (ws : List (List ℕ)) → On (begun (open_at Object b) rule) (codes "mode" ∷ ws) (begun next.Letters rule) ws
unfolding read_from fitted tested
mode_step true rule ws = λ place. (place + 1, refl)
mode_step false rule ws = λ place. (place + 1, refl)

pub letters_step : (rule : Rule) (w : List ℕ) (mode : ℕ) (ws : List (List ℕ)) → mode_in w ≡ Some mode → On (begun next.Letters rule) (w ∷ ws) (begun next.End (record rule { mode = mode })) ws
unfolding read_from fitted
letters_step rule w mode ws is = λ place.
    (place + 1, ap (λ v. and_then (by_value (BadMode place) v (λ mode. reads_on next.End (record rule { mode = mode }))) (λ more. read_from (place + 1) more ws)) is)

-- ---- a test without a value
-- from its text, by how its name is read, and how behind a mark
flag_piece : (w : List ℕ) → IsFree 32 w → (put : Rule → Option Bool → Rule) (b : Bool) (rule : Rule) (wanted : Option Bool) (x : List ℕ) → Led x → rule ≡ put rule None
    → ((ws : List (List ℕ)) → On (begun (open_at Object b) rule) (w ∷ ws) (begun (next.Test Object) (put rule (Some true))) ws)
    → ((ws : List (List ℕ)) → On (begun (next.Name Object) rule) (w ∷ ws) (begun (next.Test Object) (put rule (Some false))) ws)
    → Ends (begun (open_at Object b) rule) (tail (flag_text (32 ∷ w) wanted ++ x)) Object (put rule wanted) (tail x)
flag_piece w free put b rule None x led same name mark =
    (b, on_same (begun (open_at Object b) rule) (begun (open_at Object b) (put rule None)) (tail x) (ap (λ r. begun (open_at Object b) r) same))
flag_piece w free put b rule (Some true) x led same name mark = (
  false,
  on_words (begun (open_at Object b) rule) (begun (next.Test Object) (put rule (Some true))) (tail ((32 ∷ w) ++ x)) (w ∷ tail x) (tail x) (word_then w x free led) (name (tail x)),
)
flag_piece w free put b rule (Some false) x led same name mark =
    let start = begun (open_at Object b) rule in
    let after = begun (next.Test Object) (put rule (Some false)) in
    let ws = w ∷ tail x in (
      false,
      on_words start after (tail ((codes " !" ++ (32 ∷ w)) ++ x)) (codes "!" ∷ ws) (tail x)
          (word_then (codes "!") ((32 ∷ w) ++ x) (free_by (codes "!") refl) refl ∙ ap (λ ws. codes "!" ∷ ws) (word_then w x free led))
          (on_trans start (begun (next.Name Object) rule) after (codes "!" ∷ ws) ws (tail x) (mark_step Object b rule ws) (mark (tail x))),
    )

-- ---- suid
abbrev pub put_suid : Rule → Option Bool → Rule
put_suid rule wanted = record rule { object = record rule.object { suid = wanted } }

pub suid_name : (b : Bool) (rule : Rule) (ws : List (List ℕ)) → rule.object.suid ≡ None → On (begun (open_at Object b) rule) (codes "suid" ∷ ws) (begun (next.Test Object) (put_suid rule (Some true))) ws
unfolding read_from fitted tested test_named file_test
suid_name true rule ws none = λ place. (place + 1, ap (λ t. and_then (once place t (flagged (put_suid rule (Some true)))) (λ more. read_from (place + 1) more ws)) none)
suid_name false rule ws none = λ place. (place + 1, ap (λ t. and_then (once place t (flagged (put_suid rule (Some true)))) (λ more. read_from (place + 1) more ws)) none)

pub suid_marked : (rule : Rule) (ws : List (List ℕ)) → rule.object.suid ≡ None → On (begun (next.Name Object) rule) (codes "suid" ∷ ws) (begun (next.Test Object) (put_suid rule (Some false))) ws
unfolding read_from fitted test_named file_test
suid_marked rule ws none = λ place. (place + 1, ap (λ t. and_then (once place t (flagged (put_suid rule (Some false)))) (λ more. read_from (place + 1) more ws)) none)

pub suid_piece : (b : Bool) (rule : Rule) (wanted : Option Bool) (x : List ℕ) → Led x → rule.object.suid ≡ None
    → Ends (begun (open_at Object b) rule) (tail (flag_text (codes " suid") wanted ++ x)) Object (put_suid rule wanted) (tail x)
suid_piece b rule wanted x led none =
    flag_piece (codes "suid") (free_by (codes "suid") refl) put_suid b rule wanted x led (ap (put_suid rule) none) (λ ws. suid_name b rule ws none) (λ ws. suid_marked rule ws none)

-- ---- sgid
abbrev pub put_sgid : Rule → Option Bool → Rule
put_sgid rule wanted = record rule { object = record rule.object { sgid = wanted } }

pub sgid_name : (b : Bool) (rule : Rule) (ws : List (List ℕ)) → rule.object.sgid ≡ None → On (begun (open_at Object b) rule) (codes "sgid" ∷ ws) (begun (next.Test Object) (put_sgid rule (Some true))) ws
unfolding read_from fitted tested test_named file_test
sgid_name true rule ws none = λ place. (place + 1, ap (λ t. and_then (once place t (flagged (put_sgid rule (Some true)))) (λ more. read_from (place + 1) more ws)) none)
sgid_name false rule ws none = λ place. (place + 1, ap (λ t. and_then (once place t (flagged (put_sgid rule (Some true)))) (λ more. read_from (place + 1) more ws)) none)

pub sgid_marked : (rule : Rule) (ws : List (List ℕ)) → rule.object.sgid ≡ None → On (begun (next.Name Object) rule) (codes "sgid" ∷ ws) (begun (next.Test Object) (put_sgid rule (Some false))) ws
unfolding read_from fitted test_named file_test
sgid_marked rule ws none = λ place. (place + 1, ap (λ t. and_then (once place t (flagged (put_sgid rule (Some false)))) (λ more. read_from (place + 1) more ws)) none)

pub sgid_piece : (b : Bool) (rule : Rule) (wanted : Option Bool) (x : List ℕ) → Led x → rule.object.sgid ≡ None
    → Ends (begun (open_at Object b) rule) (tail (flag_text (codes " sgid") wanted ++ x)) Object (put_sgid rule wanted) (tail x)
sgid_piece b rule wanted x led none =
    flag_piece (codes "sgid") (free_by (codes "sgid") refl) put_sgid b rule wanted x led (ap (put_sgid rule) none) (λ ws. sgid_name b rule ws none) (λ ws. sgid_marked rule ws none)

-- ---- uid_of_subject
abbrev pub put_uid_of_subject : Rule → Option Bool → Rule
put_uid_of_subject rule wanted = record rule { object = record rule.object { uid_of_subject = wanted } }

pub uid_of_subject_name : (b : Bool) (rule : Rule) (ws : List (List ℕ)) → rule.object.uid_of_subject ≡ None → On (begun (open_at Object b) rule) (codes "uid_of_subject" ∷ ws) (begun (next.Test Object) (put_uid_of_subject rule (Some true))) ws
unfolding read_from fitted tested test_named file_test
uid_of_subject_name true rule ws none = λ place. (place + 1, ap (λ t. and_then (once place t (flagged (put_uid_of_subject rule (Some true)))) (λ more. read_from (place + 1) more ws)) none)
uid_of_subject_name false rule ws none = λ place. (place + 1, ap (λ t. and_then (once place t (flagged (put_uid_of_subject rule (Some true)))) (λ more. read_from (place + 1) more ws)) none)

pub uid_of_subject_marked : (rule : Rule) (ws : List (List ℕ)) → rule.object.uid_of_subject ≡ None → On (begun (next.Name Object) rule) (codes "uid_of_subject" ∷ ws) (begun (next.Test Object) (put_uid_of_subject rule (Some false))) ws
unfolding read_from fitted test_named file_test
uid_of_subject_marked rule ws none = λ place. (place + 1, ap (λ t. and_then (once place t (flagged (put_uid_of_subject rule (Some false)))) (λ more. read_from (place + 1) more ws)) none)

pub uid_of_subject_piece : (b : Bool) (rule : Rule) (wanted : Option Bool) (x : List ℕ) → Led x → rule.object.uid_of_subject ≡ None
    → Ends (begun (open_at Object b) rule) (tail (flag_text (codes " uid_of_subject") wanted ++ x)) Object (put_uid_of_subject rule wanted) (tail x)
uid_of_subject_piece b rule wanted x led none =
    flag_piece (codes "uid_of_subject") (free_by (codes "uid_of_subject") refl) put_uid_of_subject b rule wanted x led (ap (put_uid_of_subject rule) none) (λ ws. uid_of_subject_name b rule ws none) (λ ws. uid_of_subject_marked rule ws none)

-- ---- gid_of_subject
abbrev pub put_gid_of_subject : Rule → Option Bool → Rule
put_gid_of_subject rule wanted = record rule { object = record rule.object { gid_of_subject = wanted } }

pub gid_of_subject_name : (b : Bool) (rule : Rule) (ws : List (List ℕ)) → rule.object.gid_of_subject ≡ None → On (begun (open_at Object b) rule) (codes "gid_of_subject" ∷ ws) (begun (next.Test Object) (put_gid_of_subject rule (Some true))) ws
unfolding read_from fitted tested test_named file_test
gid_of_subject_name true rule ws none = λ place. (place + 1, ap (λ t. and_then (once place t (flagged (put_gid_of_subject rule (Some true)))) (λ more. read_from (place + 1) more ws)) none)
gid_of_subject_name false rule ws none = λ place. (place + 1, ap (λ t. and_then (once place t (flagged (put_gid_of_subject rule (Some true)))) (λ more. read_from (place + 1) more ws)) none)

pub gid_of_subject_marked : (rule : Rule) (ws : List (List ℕ)) → rule.object.gid_of_subject ≡ None → On (begun (next.Name Object) rule) (codes "gid_of_subject" ∷ ws) (begun (next.Test Object) (put_gid_of_subject rule (Some false))) ws
unfolding read_from fitted test_named file_test
gid_of_subject_marked rule ws none = λ place. (place + 1, ap (λ t. and_then (once place t (flagged (put_gid_of_subject rule (Some false)))) (λ more. read_from (place + 1) more ws)) none)

pub gid_of_subject_piece : (b : Bool) (rule : Rule) (wanted : Option Bool) (x : List ℕ) → Led x → rule.object.gid_of_subject ≡ None
    → Ends (begun (open_at Object b) rule) (tail (flag_text (codes " gid_of_subject") wanted ++ x)) Object (put_gid_of_subject rule wanted) (tail x)
gid_of_subject_piece b rule wanted x led none =
    flag_piece (codes "gid_of_subject") (free_by (codes "gid_of_subject") refl) put_gid_of_subject b rule wanted x led (ap (put_gid_of_subject rule) none) (λ ws. gid_of_subject_name b rule ws none) (λ ws. gid_of_subject_marked rule ws none)

-- ---- type
abbrev pub put_types : Rule → Option TypeTest → Rule
put_types rule test = record rule { object = record rule.object { types = test } }

abbrev pub type_test : Bool → ℕ → TypeTest
type_test turned types = record { not = turned; types = types }

pub type_name : (b : Bool) (rule : Rule) (ws : List (List ℕ)) → rule.object.types ≡ None → On (begun (open_at Object b) rule) (codes "type" ∷ ws) (begun (next.Types false) rule) ws
unfolding read_from fitted tested test_named file_test
type_name true rule ws none = λ place. (place + 1, ap (λ t. and_then (once place t (reads_on (next.Types false) rule)) (λ more. read_from (place + 1) more ws)) none)
type_name false rule ws none = λ place. (place + 1, ap (λ t. and_then (once place t (reads_on (next.Types false) rule)) (λ more. read_from (place + 1) more ws)) none)

pub type_marked : (rule : Rule) (ws : List (List ℕ)) → rule.object.types ≡ None → On (begun (next.Name Object) rule) (codes "type" ∷ ws) (begun (next.Types true) rule) ws
unfolding read_from fitted test_named file_test
type_marked rule ws none = λ place. (place + 1, ap (λ t. and_then (once place t (reads_on (next.Types true) rule)) (λ more. read_from (place + 1) more ws)) none)

pub type_value : (turned : Bool) (rule : Rule) (w : List ℕ) (types : ℕ) (ws : List (List ℕ)) → types_in w ≡ Some types
    → On (begun (next.Types turned) rule) (w ∷ ws) (begun (next.Test Object) (put_types rule (Some (type_test turned types)))) ws
unfolding read_from fitted
type_value turned rule w types ws is = λ place.
    (place + 1, ap (λ v. and_then (by_value (BadType place) v (λ types. reads_on (next.Test Object) (put_types rule (Some (type_test turned types))))) (λ more. read_from (place + 1) more ws)) is)

pub types_piece : (b : Bool) (rule : Rule) (test : Option TypeTest) (x : List ℕ) → Led x → rule.object.types ≡ None → IfSome test (λ test. (1 ≤ test.types) × (test.types ≤ 127))
    → Ends (begun (open_at Object b) rule) (tail (types_text test ++ x)) Object (put_types rule test) (tail x)
types_piece b rule None x led none ok = (b, on_same (begun (open_at Object b) rule) (begun (open_at Object b) (put_types rule None)) (tail x) (ap (λ t. begun (open_at Object b) (put_types rule t)) none))
types_piece b rule (Some test) x led none ok =
    let back = types_back test.types ok.0 ok.1 in (
      false,
      value_piece Object (codes "type") (letters_text type_letters test.types) (free_by (codes "type") refl) back.1 next.Types (λ turned. put_types rule (Some (type_test turned test.types))) b rule
          test.not x led (λ ws. type_name b rule ws none) (λ ws. type_marked rule ws none) (λ turned ws. type_value turned rule (letters_text type_letters test.types) test.types ws back.0),
    )
