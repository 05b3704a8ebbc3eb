-- The words of the canonical text of a rule are read back: piece by piece, whatever comes behind.
use Rattle.std.proofs.Common.{◌≡◌, ℕ, ◌+◌, Bool, true, false, cond, eqb, List, [], ◌∷◌, ◌++◌, Option, Some, None, IfSome, codes, refl, ap, ◌∙◌, append-nil, append_assoc}
use Rattle.mf_labeltext.specs.Reading.{parts}
use Rattle.mf_labeltext.proofs.Cutting.{IsFree, cut_free, cut_free_none, parts_none, parts_some}
use Rattle.std.proofs.lemmas.Bool.{eqb-false}
use Rattle.mf_rule.specs.declared.rule.IdTest.{IdTest}
use Rattle.mf_rule.specs.declared.rule.Rule.{Rule}
use Rattle.mf_rule.specs.declared.begun.Part.{Part}
use Rattle.mf_rule.specs.declared.begun.Part.TheVariants.{Subject, Object}
use Rattle.mf_rule.specs.declared.begun.Next.{Next}
use Rattle.mf_rule.specs.declared.begun.Next.TheVariants as next
use Rattle.mf_rule.specs.declared.begun.Begun.{Begun}
use Rattle.mf_rule.specs.declared.fault.RuleFault.TheVariants.{BadRange}
use Rattle.mf_rule.specs.Words.{id_range_in}
use Rattle.mf_rule.specs.Canonical.{mark_text, id_range_text, id_text}
use Rattle.mf_rule.specs.RoundTrip.{IsRange}
use Rattle.mf_text.specs.Results.{and_then}
use Rattle.mf_rule.specs.Reading.{reads_on, once, by_value, side_of, with_side, id_test, fitted, tested, test_named, read_from}
use Rattle.mf_rule.proofs.Ranges.{range_back}

abbrev pub all_free : List ℕ → Bool
all_free [] = true
all_free (c ∷ cs) = cond (eqb c 32) false (all_free cs)

pub free_by : (w : List ℕ) → all_free w ≡ true → IsFree 32 w
free_by [] is = tt
free_by (c ∷ cs) is =
    (elim (eqb c 32) as (λ b. eqb c 32 ≡ b → cond b false (all_free cs) ≡ true → IsFree 32 (c ∷ cs)) [
      | true ↦ λ hit is. absurd cc
      | false ↦ λ miss is. (eqb-false c 32 miss, free_by cs is)
    ]) refl is

-- the words of a text behind the blank that it begins with
abbrev pub tail : List ℕ → List (List ℕ)
tail [] = []
tail (c ∷ cs) = parts 32 cs

-- nothing, or a blank first
abbrev pub Led : List ℕ → Type 0
Led [] = Unit {0}
Led (c ∷ cs) = c ≡ 32

pub word_then : (w x : List ℕ) → IsFree 32 w → Led x → parts 32 (w ++ x) ≡ w ∷ tail x
word_then w [] free led = ap (parts 32) (append-nil w) ∙ parts_none 32 w (cut_free_none 32 w free)
word_then w (c ∷ cs) free led = ap (λ b. parts 32 (w ++ b ∷ cs)) led ∙ parts_some 32 (w ++ 32 ∷ cs) w cs (cut_free 32 w cs free)

abbrev pub begun : Next → Rule → Begun
begun what rule = record { next = what; rule = rule }

-- the first word of a part, or a later one
abbrev pub open_at : Part → Bool → Next
open_at part true = next.First part
open_at part false = next.Test part

-- reading goes on from the one to the other, wherever the words stand
abbrev pub On : Begun → List (List ℕ) → Begun → List (List ℕ) → Type 0
On before ws after rest = (place : ℕ) → (later : ℕ) × (read_from place before ws ≡ read_from later after rest)

pub on_trans : (b c d : Begun) (ws xs ys : List (List ℕ)) → On b ws c xs → On c xs d ys → On b ws d ys
on_trans b c d ws xs ys first second place =
    let x = first place in
    let y = second x.0 in
    (y.0, x.1 ∙ y.1)

pub on_words : (b c : Begun) (ws xs ys : List (List ℕ)) → ws ≡ xs → On b xs c ys → On b ws c ys
on_words b c ws xs ys is on place = let x = on place in (x.0, ap (read_from place b) is ∙ x.1)

pub on_same : (b c : Begun) (ws : List (List ℕ)) → b ≡ c → On b ws c ws
on_same b c ws is place = (place, ap (λ b. read_from place b ws) is)

pub mark_step : (part : Part) (b : Bool) (rule : Rule) (ws : List (List ℕ)) → On (begun (open_at part b) rule) (codes "!" ∷ ws) (begun (next.Name part) rule) ws
unfolding read_from fitted tested
mark_step part true rule ws = λ place. (place + 1, refl)
mark_step part false rule ws = λ place. (place + 1, refl)

-- ---- a test with a value
-- from its text, by how its name is read, how behind a mark, and how its value
pub value_piece : (part : Part) (name w : List ℕ) → IsFree 32 name → IsFree 32 w → (valued : Bool → Next) (after : Bool → Rule) (b : Bool) (rule : Rule) (turned : Bool) (x : List ℕ) → Led x
    → ((ws : List (List ℕ)) → On (begun (open_at part b) rule) (name ∷ ws) (begun (valued false) rule) ws)
    → ((ws : List (List ℕ)) → On (begun (next.Name part) rule) (name ∷ ws) (begun (valued true) rule) ws)
    → ((turned : Bool) (ws : List (List ℕ)) → On (begun (valued turned) rule) (w ∷ ws) (begun (next.Test part) (after turned)) ws)
    → On (begun (open_at part b) rule) (tail ((mark_text turned ++ ((32 ∷ name) ++ 32 ∷ w)) ++ x)) (begun (next.Test part) (after turned)) (tail x)
value_piece part name w free_name free valued after b rule turned x led plain mark value =
    let text = (32 ∷ name) ++ 32 ∷ w in
    let ws = w ∷ tail x in
    let start = begun (open_at part b) rule in
    let words : tail (text ++ x) ≡ name ∷ ws =
    ap tail (append_assoc (32 ∷ name) (32 ∷ w) x) ∙ word_then name ((32 ∷ w) ++ x) free_name refl ∙ ap (λ ws. name ∷ ws) (word_then w x free led) in
    elim turned as (λ turned. On start (tail ((mark_text turned ++ text) ++ x)) (begun (next.Test part) (after turned)) (tail x)) [
      | true ↦
          on_words start (begun (next.Test part) (after true)) (tail ((codes " !" ++ text) ++ x)) (codes "!" ∷ name ∷ ws) (tail x)
          (word_then (codes "!") (text ++ x) (free_by (codes "!") refl) refl ∙ ap (λ ws. codes "!" ∷ ws) words)
          (on_trans start (begun (next.Name part) rule) (begun (next.Test part) (after true)) (codes "!" ∷ name ∷ ws) (name ∷ ws) (tail x) (mark_step part b rule (name ∷ ws))
          (on_trans (begun (next.Name part) rule) (begun (valued true) rule) (begun (next.Test part) (after true)) (name ∷ ws) ws (tail x) (mark ws) (value true (tail x))))
      | false ↦
          on_words start (begun (next.Test part) (after false)) (tail (text ++ x)) (name ∷ ws) (tail x) words
          (on_trans start (begun (valued false) rule) (begun (next.Test part) (after false)) (name ∷ ws) ws (tail x) (plain ws) (value false (tail x)))
    ]

-- ---- uid
pub uid_name : (part : Part) (b : Bool) (rule : Rule) (ws : List (List ℕ)) → (side_of part rule).uid ≡ None → On (begun (open_at part b) rule) (codes "uid" ∷ ws) (begun (next.Uid part false) rule) ws
unfolding read_from fitted tested test_named
uid_name Subject true rule ws none = λ place. (place + 1, ap (λ t. and_then (once place t (reads_on (next.Uid Subject false) rule)) (λ more. read_from (place + 1) more ws)) none)
uid_name Subject false rule ws none = λ place. (place + 1, ap (λ t. and_then (once place t (reads_on (next.Uid Subject false) rule)) (λ more. read_from (place + 1) more ws)) none)
uid_name Object true rule ws none = λ place. (place + 1, ap (λ t. and_then (once place t (reads_on (next.Uid Object false) rule)) (λ more. read_from (place + 1) more ws)) none)
uid_name Object false rule ws none = λ place. (place + 1, ap (λ t. and_then (once place t (reads_on (next.Uid Object false) rule)) (λ more. read_from (place + 1) more ws)) none)

pub uid_marked : (part : Part) (rule : Rule) (ws : List (List ℕ)) → (side_of part rule).uid ≡ None → On (begun (next.Name part) rule) (codes "uid" ∷ ws) (begun (next.Uid part true) rule) ws
unfolding read_from fitted test_named
uid_marked part rule ws none = λ place. (place + 1, ap (λ t. and_then (once place t (reads_on (next.Uid part true) rule)) (λ more. read_from (place + 1) more ws)) none)

abbrev pub put_uid : Part → Rule → Option IdTest → Rule
put_uid part rule test = with_side part rule (record (side_of part rule) { uid = test })

pub uid_value : (part : Part) (turned : Bool) (rule : Rule) (w : List ℕ) (ends : ℕ × ℕ) (ws : List (List ℕ)) → id_range_in w ≡ Some ends
    → On (begun (next.Uid part turned) rule) (w ∷ ws) (begun (next.Test part) (put_uid part rule (Some (id_test turned ends)))) ws
unfolding read_from fitted
uid_value part turned rule w ends ws is = λ place.
    (place + 1, ap (λ v. and_then (by_value (BadRange place) v (λ ends. reads_on (next.Test part) (put_uid part rule (Some (id_test turned ends))))) (λ more. read_from (place + 1) more ws)) is)

pub uid_piece : (part : Part) (b : Bool) (rule : Rule) (test : Option IdTest) (x : List ℕ) → Led x → (side_of part rule).uid ≡ None → IfSome test IsRange
    → (c : Bool) × On (begun (open_at part b) rule) (tail (id_text (codes " uid ") test ++ x)) (begun (open_at part c) (put_uid part rule test)) (tail x)
uid_piece Subject b rule None x led none ok = (b, on_same (begun (open_at Subject b) rule) (begun (open_at Subject b) (put_uid Subject rule None)) (tail x) (ap (λ t. begun (open_at Subject b) (put_uid Subject rule t)) none))
uid_piece Object b rule None x led none ok = (b, on_same (begun (open_at Object b) rule) (begun (open_at Object b) (put_uid Object rule None)) (tail x) (ap (λ t. begun (open_at Object b) (put_uid Object rule t)) none))
uid_piece part b rule (Some test) x led none ok =
    let back = range_back test.least test.greatest ok.ordered ok.below in (
      false,
      value_piece part (codes "uid") (id_range_text test.least test.greatest) (free_by (codes "uid") refl) back.1 (next.Uid part)
          (λ turned. put_uid part rule (Some (id_test turned (test.least, test.greatest)))) b rule test.not x led (λ ws. uid_name part b rule ws none) (λ ws. uid_marked part rule ws none)
          (λ turned ws. uid_value part turned rule (id_range_text test.least test.greatest) (test.least, test.greatest) ws back.0),
    )

-- ---- gid
pub gid_name : (part : Part) (b : Bool) (rule : Rule) (ws : List (List ℕ)) → (side_of part rule).gid ≡ None → On (begun (open_at part b) rule) (codes "gid" ∷ ws) (begun (next.Gid part false) rule) ws
unfolding read_from fitted tested test_named
gid_name Subject true rule ws none = λ place. (place + 1, ap (λ t. and_then (once place t (reads_on (next.Gid Subject false) rule)) (λ more. read_from (place + 1) more ws)) none)
gid_name Subject false rule ws none = λ place. (place + 1, ap (λ t. and_then (once place t (reads_on (next.Gid Subject false) rule)) (λ more. read_from (place + 1) more ws)) none)
gid_name Object true rule ws none = λ place. (place + 1, ap (λ t. and_then (once place t (reads_on (next.Gid Object false) rule)) (λ more. read_from (place + 1) more ws)) none)
gid_name Object false rule ws none = λ place. (place + 1, ap (λ t. and_then (once place t (reads_on (next.Gid Object false) rule)) (λ more. read_from (place + 1) more ws)) none)

pub gid_marked : (part : Part) (rule : Rule) (ws : List (List ℕ)) → (side_of part rule).gid ≡ None → On (begun (next.Name part) rule) (codes "gid" ∷ ws) (begun (next.Gid part true) rule) ws
unfolding read_from fitted test_named
gid_marked part rule ws none = λ place. (place + 1, ap (λ t. and_then (once place t (reads_on (next.Gid part true) rule)) (λ more. read_from (place + 1) more ws)) none)

abbrev pub put_gid : Part → Rule → Option IdTest → Rule
put_gid part rule test = with_side part rule (record (side_of part rule) { gid = test })

pub gid_value : (part : Part) (turned : Bool) (rule : Rule) (w : List ℕ) (ends : ℕ × ℕ) (ws : List (List ℕ)) → id_range_in w ≡ Some ends
    → On (begun (next.Gid part turned) rule) (w ∷ ws) (begun (next.Test part) (put_gid part rule (Some (id_test turned ends)))) ws
unfolding read_from fitted
gid_value part turned rule w ends ws is = λ place.
    (place + 1, ap (λ v. and_then (by_value (BadRange place) v (λ ends. reads_on (next.Test part) (put_gid part rule (Some (id_test turned ends))))) (λ more. read_from (place + 1) more ws)) is)

pub gid_piece : (part : Part) (b : Bool) (rule : Rule) (test : Option IdTest) (x : List ℕ) → Led x → (side_of part rule).gid ≡ None → IfSome test IsRange
    → (c : Bool) × On (begun (open_at part b) rule) (tail (id_text (codes " gid ") test ++ x)) (begun (open_at part c) (put_gid part rule test)) (tail x)
gid_piece Subject b rule None x led none ok = (b, on_same (begun (open_at Subject b) rule) (begun (open_at Subject b) (put_gid Subject rule None)) (tail x) (ap (λ t. begun (open_at Subject b) (put_gid Subject rule t)) none))
gid_piece Object b rule None x led none ok = (b, on_same (begun (open_at Object b) rule) (begun (open_at Object b) (put_gid Object rule None)) (tail x) (ap (λ t. begun (open_at Object b) (put_gid Object rule t)) none))
gid_piece part b rule (Some test) x led none ok =
    let back = range_back test.least test.greatest ok.ordered ok.below in (
      false,
      value_piece part (codes "gid") (id_range_text test.least test.greatest) (free_by (codes "gid") refl) back.1 (next.Gid part)
          (λ turned. put_gid part rule (Some (id_test turned (test.least, test.greatest)))) b rule test.not x led (λ ws. gid_name part b rule ws none) (λ ws. gid_marked part rule ws none)
          (λ turned ws. gid_value part turned rule (id_range_text test.least test.greatest) (test.least, test.greatest) ws back.0),
    )
