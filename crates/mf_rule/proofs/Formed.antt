-- What is read is a rule: its ranges are of ids, and its letters are those of types and of modes.
use Rattle.std.proofs.Common.{◌≡◌, ℕ, ◌<◌, ◌≤◌, ◌^◌, true, false, cond, eqb, leb, List, [], ◌∷◌, Option, Some, None, Ok, Err, find, option_map, IfSome, IfOk, refl, sym, subst, arith, lit<, lit≤, inl, inr}
use Rattle.std.specs.Prelude.{◌==◌}
use Rattle.std.specs.Int.{IsInRange}
use Rattle.std.specs.Option.{option_zip}
use Rattle.std.specs.List.{AllByRecursion}
use Rattle.std.specs.Int.RustNames.{bit_or}
use Rattle.std.proofs.lemmas.Nat.{or_lt, le_or_l, le_or_r}
use Rattle.std.proofs.lemmas.Bool.{leb-true}
use Rattle.mf_labeltext.specs.Reading.{◌>>=◌, cut, parts}
use Rattle.mf_rule.specs.Canonical.{rule_text}
use Rattle.mf_labeltext.proofs.Numbers.{number_spells, bind_some, some_is}
use Rattle.mf_labeltext.proofs.Spelling.{zipped}
use Rattle.mf_rule.specs.declared.rule.Side.{Side}
use Rattle.mf_rule.specs.declared.rule.ObjectSide.{ObjectSide}
use Rattle.mf_rule.specs.declared.rule.Rule.{Rule}
use Rattle.mf_rule.specs.declared.rule.TheConstants.{ANY_TYPE}
use Rattle.mf_rule.specs.Words.{id, id_range_in, with_letters, letters_in, mode_in, types_in}
use Rattle.mf_rule.specs.Words.{mode_letters, type_letters}
use Rattle.mf_rule.specs.RuleGrammar.{SpellsIdTest, SpellsFileTest, SpellsObjectTest, SpellTests, IsRule}
use Rattle.mf_rule.specs.Parts.{Words, no_tests, no_object_tests}
use Rattle.mf_rule.specs.Reading.{OrFault, rule_in}
use Rattle.mf_rule.specs.RoundTrip.{AreRanges, IsInBounds, WhatIsReadIsARule}
use Rattle.mf_rule.proofs.Ranges.{ordered, ends_of}
use Rattle.mf_rule.proofs.ReadAsSpelled.{read_is_spelled}
use Rattle.mf_rule.proofs.RoundTrips.{text_reads}

-- ---- letters
-- what a letter adds, by a table
abbrev bit_of : List (ℕ × ℕ) → ℕ → Option ℕ
bit_of table letter = option_map (λ row. row.1) (find (λ row. row.0 == letter) table)

-- what holds of each bit of a table holds of what a letter adds
row_is : (P : ℕ → Type 0) (table : List (ℕ × ℕ)) (c bit : ℕ) → AllByRecursion (λ row. P row.1) table → bit_of table c ≡ Some bit → P bit
row_is P [] c bit all = λ is. absurd cc
row_is P (row ∷ rows) c bit all =
    elim (eqb row.0 c) as (λ b. option_map (λ row. row.1) (cond b (Some row) (find (λ row. row.0 == c) rows)) ≡ Some bit → P bit) [
      | true ↦ λ is. subst P (some_is row.1 bit is) all.0
      | false ↦ λ is. row_is P rows c bit all.1 is
    ]

mode_letter_fits : (c bit : ℕ) → bit_of mode_letters c ≡ Some bit → bit < 2 ^ 5
mode_letter_fits c bit is = row_is (λ n. n < 2 ^ 5) mode_letters c bit (lit< tt, (lit< tt, (lit< tt, (lit< tt, (lit< tt, (lit< tt, tt)))))) is

abbrev IsType : ℕ → Type 0
IsType n = (1 ≤ n) × (n < 2 ^ 7)

type_letter_fits : (c bit : ℕ) → bit_of type_letters c ≡ Some bit → IsType bit
type_letter_fits c bit is =
    row_is IsType type_letters c bit ((lit≤ tt, lit< tt), ((lit≤ tt, lit< tt), ((lit≤ tt, lit< tt), ((lit≤ tt, lit< tt), ((lit≤ tt, lit< tt), ((lit≤ tt, lit< tt), ((lit≤ tt, lit< tt), ((lit≤ tt, lit< tt), tt)))))))) is

-- letters of so many bits have so many bits together
letters_fit : (table : List (ℕ × ℕ)) (k : ℕ) → ((c bit : ℕ) → bit_of table c ≡ Some bit → bit < 2 ^ k) → (bits : ℕ) (cs : List ℕ) (n : ℕ) → bits < 2 ^ k → with_letters table bits cs ≡ Some n → n < 2 ^ k
unfolding with_letters
letters_fit table k each bits [] n fits is = let P : ℕ → Type 0 = λ n. n < 2 ^ k in subst P (some_is bits n is) fits
letters_fit table k each bits (c ∷ cs) n fits is =
    let found = bind_some (bit_of table c) (λ bit. with_letters table (bit_or bits bit) cs) n is in
    letters_fit table k each (bit_or bits found.0) cs n (or_lt k bits found.0 fits (each c found.0 found.1)) found.2

-- no letter takes a bit away
letters_keep : (table : List (ℕ × ℕ)) (bits : ℕ) (cs : List ℕ) (n : ℕ) → with_letters table bits cs ≡ Some n → bits ≤ n
unfolding with_letters
letters_keep table bits [] n is = let same = some_is bits n is in omega arith
letters_keep table bits (c ∷ cs) n is =
    let found = bind_some (bit_of table c) (λ bit. with_letters table (bit_or bits bit) cs) n is in
    let more = letters_keep table (bit_or bits found.0) cs n found.2 in
    let kept = le_or_l bits found.0 in
    omega arith

mode_fits : (w : List ℕ) (mode : ℕ) → mode_in w ≡ Some mode → mode < 32
unfolding mode_in letters_in
mode_fits [] mode is = absurd cc
mode_fits (c ∷ cs) mode is = letters_fit mode_letters 5 mode_letter_fits 0 (c ∷ cs) mode (lit< tt) is

types_fit : (w : List ℕ) (types : ℕ) → types_in w ≡ Some types → IsInRange 1 ANY_TYPE types
unfolding types_in letters_in with_letters
types_fit [] types is = absurd cc
types_fit (c ∷ cs) types is =
    let first = bind_some (bit_of type_letters c) (λ bit. with_letters type_letters (bit_or 0 bit) cs) types is in
    let one = type_letter_fits c first.0 first.1 in
    let fits = letters_fit type_letters 7 (λ c bit is. (type_letter_fits c bit is).1) 0 (c ∷ cs) types (lit< tt) is in
    let kept = letters_keep type_letters (bit_or 0 first.0) cs types first.2 in
    let put = le_or_r 0 first.0 in
    (omega arith, omega arith)

-- ---- ranges
id_fits : (w : List ℕ) (n : ℕ) → id w ≡ Some n → n ≤ 4294967295
id_fits w n is = let spells = number_spells 0 4294967295 w n is in spells.below

abbrev AreEnds : ℕ × ℕ → Type 0
AreEnds ends = (ends.0 ≤ ends.1) × (ends.1 ≤ 4294967295)

ends_are : (x y : ℕ × ℕ) → Some x ≡ Some y → AreEnds x → AreEnds y
ends_are x y is ok = let same : x ≡ y = cc in subst AreEnds same ok

ordered_are : (pair ends : ℕ × ℕ) → pair.1 ≤ 4294967295 → ordered pair ≡ Some ends → AreEnds ends
ordered_are pair ends fits =
    elim (leb pair.0 pair.1) as (λ b. leb pair.0 pair.1 ≡ b → cond b (Some pair) None ≡ Some ends → AreEnds ends) [
      | true ↦ λ below is. ends_are pair ends is (leb-true pair.0 pair.1 below, fits)
      | false ↦ λ above is. absurd cc
    ] refl

both_are : (v w : List ℕ) (ends : ℕ × ℕ) → (option_zip (id v) (id w) >>= ordered) ≡ Some ends → AreEnds ends
both_are v w ends is =
    let pair = bind_some (option_zip (id v) (id w)) ordered ends is in
    let both = zipped (id v) (id w) pair.0 pair.1 in
    ordered_are pair.0 ends (id_fits w pair.0.1 both.1) pair.2

halves_are : (w : List ℕ) (halves : Option (List ℕ × List ℕ)) (ends : ℕ × ℕ) → (ends_of w halves >>= ordered) ≡ Some ends → AreEnds ends
halves_are w None ends is = both_are w w ends is
halves_are w (Some halves) ends is = both_are halves.0 halves.1 ends is

range_fits : (w : List ℕ) (ends : ℕ × ℕ) → id_range_in w ≡ Some ends → AreEnds ends
unfolding id_range_in
range_fits w ends is = halves_are w (cut 58 w) ends is

-- ---- tests, one after another
tests_keep : {A : Type 0} (IsTest : Words → A → A → Type 0) (P : A → Type 0) → ((words : Words) (before after : A) → P before → IsTest words before after → P after)
    → (tests : List Words) (before after : A) → P before → SpellTests IsTest tests before after → P after
tests_keep IsTest P each [] before after holds same = subst P same holds
tests_keep IsTest P each (test ∷ tests) before after holds (next, first, others) = tests_keep IsTest P each tests next after (each test before next holds first) others

ids_formed : (words : Words) (before after : Side) → AreRanges before → SpellsIdTest words before after → AreRanges after
ids_formed words before after ok (turned, w, ends, range, inl uid) =
    let fits = range_fits w ends range in
    subst AreRanges (sym uid.2) (record { uid = record { ordered = fits.0; below = fits.1 }; gid = ok.gid })
ids_formed words before after ok (turned, w, ends, range, inr gid) =
    let fits = range_fits w ends range in
    subst AreRanges (sym gid.2) (record { uid = ok.uid; gid = record { ordered = fits.0; below = fits.1 } })

record IsObject (object : ObjectSide) : Type 0 where
  ids : AreRanges object.side
  types : IfSome object.types (λ test. IsInRange 1 ANY_TYPE test.types)

file_formed : (words : Words) (before after : ObjectSide) → IsObject before → SpellsFileTest words before after → IsObject after
file_formed words before after ok (turned, inl is) = subst IsObject (sym is.2) (record { ids = ok.ids; types = ok.types })
file_formed words before after ok (turned, inr (inl is)) = subst IsObject (sym is.2) (record { ids = ok.ids; types = ok.types })
file_formed words before after ok (turned, inr (inr (inl is))) = subst IsObject (sym is.2) (record { ids = ok.ids; types = ok.types })
file_formed words before after ok (turned, inr (inr (inr (inl is)))) = subst IsObject (sym is.2) (record { ids = ok.ids; types = ok.types })
file_formed words before after ok (turned, inr (inr (inr (inr (w, types, letters, same, none, is))))) = subst IsObject (sym is) (record { ids = ok.ids; types = types_fit w types letters })

object_formed : (words : Words) (before after : ObjectSide) → IsObject before → SpellsObjectTest words before after → IsObject after
object_formed words before after ok (inl (side, spells, is)) = subst IsObject (sym is) (record { ids = ids_formed words before.side side ok.ids spells; types = ok.types })
object_formed words before after ok (inr spells) = file_formed words before after ok spells

-- ---- whole rules
pub in_bounds : (rule : Rule) → IsRule rule → IsInBounds rule
in_bounds rule (words, spells) =
    let subject = spells.is_subject in
    let object = spells.is_object in
    let ids : AreRanges rule.subject = tests_keep SpellsIdTest AreRanges ids_formed subject.tests (record no_tests { not = rule.subject.not }) rule.subject (record { uid = tt; gid = tt }) subject.each in
    let files : IsObject rule.object =
    tests_keep SpellsObjectTest IsObject object_formed object.tests (record no_object_tests { side = record no_tests { not = rule.object.side.not } }) rule.object
    (record { ids = record { uid = tt; gid = tt }; types = tt }) object.each in
    record { subject = ids; object = files.ids; types = files.types; mode = mode_fits spells.letters rule.mode spells.is_mode }

pub canonical_text_reads : (rule : Rule) → IsRule rule → rule_in (parts 32 (rule_text rule)) ≡ Ok rule
canonical_text_reads rule ok = text_reads rule (in_bounds rule ok)

pub read_is_rule : (words : Words) (rule : Rule) → rule_in words ≡ Ok rule → IsRule rule
read_is_rule words rule is = (words, read_is_spelled words rule is)

pub read_is_in_bounds : WhatIsReadIsARule
read_is_in_bounds words rule is = let formed = read_is_rule words rule is in (formed, in_bounds rule formed)

pub if_read : (words : Words) (read : OrFault Rule) → read ≡ rule_in words → IfOk read (λ rule. IsRule rule × IsInBounds rule)
if_read words (Ok rule) is = read_is_in_bounds words rule (sym is)
if_read words (Err fault) is = tt
