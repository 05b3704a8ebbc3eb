-- The words of the canonical text of a rule: which bytes it has, and that none of its words is empty or a semicolon.
use Rattle.std.proofs.Common.{◌≡◌, ℕ, ◌+◌, ◌<◌, ◌≤◌, Bool, true, false, not, ◌&&◌, ◌||◌, cond, eqb, List, [], ◌∷◌, ◌++◌, Option, Some, None, Ok, Err, IfSome, refl, sym, ap, ◌∙◌, arith}
use Rattle.std.proofs.lemmas.Bool.Decides.{nat_tests}
use Rattle.std.proofs.lemmas.Bool.{eqb-true}
use Rattle.std.proofs.lemmas.Fmt.{decimal_is_IsNumeral}
use Rattle.std.specs.Prelude.{codes, nat_eq}
use Rattle.std.specs.Char.{digit_value, is_ascii_graphic}
use Rattle.std.specs.Fmt.{decimal}
use Rattle.std.specs.Int.RustNames.{bit_and}
use Rattle.std.specs.List.{AllByRecursion, flat_map, list_all, slice_split, onto_first}
use Rattle.std.specs.Str.Parse.{AllDigits}
use Rattle.mf_labeltext.specs.Reading.{parts, cut, number}
use Rattle.mf_text.specs.Number.{number_in}
use Rattle.mf_rule.specs.declared.begun.Begun.{Begun}
use Rattle.mf_rule.specs.declared.begun.Next.{Next}
use Rattle.mf_rule.specs.declared.begun.Next.TheVariants as next
use Rattle.mf_rule.specs.declared.begun.Part.{Part}
use Rattle.mf_rule.specs.declared.begun.Part.TheVariants.{Subject, Object}
use Rattle.mf_rule.specs.declared.rule.IdTest.{IdTest}
use Rattle.mf_rule.specs.declared.rule.Side.{Side}
use Rattle.mf_rule.specs.declared.rule.ObjectSide.{ObjectSide}
use Rattle.mf_rule.specs.declared.rule.TypeTest.{TypeTest}
use Rattle.mf_rule.specs.declared.rule.Rule.{Rule}
use Rattle.mf_rule.specs.Canonical.{not_text, mark_text, id_range_text, id_text, flag_text, letter_text, letters_text, types_text, side_text, flags_text, object_text, rule_text}
use Rattle.mf_text.specs.Results.{and_then}
use Rattle.mf_rule.specs.Reading.{OrFault, with_word, file_test, tested, test_named, fitted, read_from, rule_in, nothing_read}
use Rattle.mf_rule.specs.RuleGrammar.{IsRule}
use Rattle.mf_rule.specs.RoundTrip.{IsRange, AreRanges, IsInBounds}
use Rattle.mf_rule.specs.Words.{mode_letters, type_letters, id_range_in, letters_in, types_in, mode_in}
use Rattle.mf_rule.proofs.Formed.{canonical_text_reads, in_bounds}
use Rattle.mf_words.proofs.Behind.{behind, both, join, all_append}

-- a byte of a word, and no semicolon
abbrev pub is_word_byte : ℕ → Bool
is_word_byte b = is_ascii_graphic b && not (nat_eq b 59)

abbrev is_rule_byte : ℕ → Bool
is_rule_byte b = nat_eq b 32 || is_word_byte b

record Plain (text : List ℕ) : Type 0 where
  each : list_all is_rule_byte text ≡ true

put : (text : List ℕ) → list_all is_rule_byte text ≡ true → Plain text
put text is = record { each = is }

then : {a b : List ℕ} → Plain a → Plain b → Plain (a ++ b)
then {a} {b} first second = put (a ++ b) (all_append is_rule_byte a b first.each second.each)

either : {x y : List ℕ} (b : Bool) → Plain x → Plain y → Plain (cond b x y)
either true first second = first
either false first second = second

-- ---- its bytes
digit_plain : (c : ℕ) → digit_value c < 10 → is_rule_byte c ≡ true
digit_plain c d = grind (arith, nat_tests)

digits_plain : (text : List ℕ) → AllDigits 10 text → list_all is_rule_byte text ≡ true
digits_plain [] all = refl
digits_plain (c ∷ cs) all = join (is_rule_byte c) (list_all is_rule_byte cs) (digit_plain c all.0) (digits_plain cs all.1)

id_plain : (n : ℕ) → n ≤ 4294967295 → Plain (decimal n)
id_plain n fits = put (decimal n) (digits_plain (decimal n) (decimal_is_IsNumeral n (omega (arith, fits))).0.1)

not_plain : (turned : Bool) → Plain (not_text turned)
not_plain true = put (codes " not") refl
not_plain false = put [] refl

mark_plain : (turned : Bool) → Plain (mark_text turned)
mark_plain true = put (codes " !") refl
mark_plain false = put [] refl

range_plain : (least greatest : ℕ) → least ≤ 4294967295 → greatest ≤ 4294967295 → Plain (id_range_text least greatest)
range_plain least greatest low high = either (eqb least greatest) (id_plain least low) (then (id_plain least low) (then (put (codes ":") refl) (id_plain greatest high)))

ids_plain : {name : List ℕ} (test : Option IdTest) → Plain name → IfSome test IsRange → Plain (id_text name test)
ids_plain None name fits = put [] refl
ids_plain (Some test) name fits = then (mark_plain test.not) (then name (range_plain test.least test.greatest (omega (arith, fits.ordered, fits.below)) fits.below))

flag_plain : {name : List ℕ} (wanted : Option Bool) → Plain name → Plain (flag_text name wanted)
flag_plain None name = put [] refl
flag_plain (Some wanted) name = then (mark_plain (not wanted)) name

-- ---- letters
letter_plain : (bits : ℕ) (row : ℕ × ℕ) → Plain (row.0 ∷ []) → Plain (letter_text bits row)
letter_plain bits row letter = either (eqb (bit_and bits row.1) 0) (put [] refl) letter

each_plain : (bits : ℕ) (table : List (ℕ × ℕ)) → AllByRecursion (λ row. is_rule_byte row.0 ≡ true) table → Plain (flat_map (letter_text bits) table)
each_plain bits [] all = put [] refl
each_plain bits (row ∷ rows) all = then (letter_plain bits row (put (row.0 ∷ []) (join (is_rule_byte row.0) true all.0 refl))) (each_plain bits rows all.1)

letters_plain : (table : List (ℕ × ℕ)) (bits : ℕ) → AllByRecursion (λ row. is_rule_byte row.0 ≡ true) table → Plain (letters_text table bits)
letters_plain [] bits all = put [] refl
letters_plain (whole ∷ others) bits all = either (eqb bits whole.1) (put (whole.0 ∷ []) (join (is_rule_byte whole.0) true all.0 refl)) (each_plain bits others all.1)

types_plain : (types : ℕ) → Plain (letters_text type_letters types)
types_plain types = letters_plain type_letters types (refl, (refl, (refl, (refl, (refl, (refl, (refl, (refl, tt))))))))

mode_plain : (mode : ℕ) → Plain (letters_text mode_letters mode)
mode_plain mode = letters_plain mode_letters mode (refl, (refl, (refl, (refl, (refl, (refl, tt))))))

test_plain : (test : Option TypeTest) → Plain (types_text test)
test_plain None = put [] refl
test_plain (Some test) = then (mark_plain test.not) (then (put (codes " type ") refl) (types_plain test.types))

side_plain : (side : Side) → AreRanges side → Plain (side_text side)
side_plain side fits = then (not_plain side.not) (then (ids_plain side.uid (put (codes " uid ") refl) fits.uid) (ids_plain side.gid (put (codes " gid ") refl) fits.gid))

flags_plain : (object : ObjectSide) → Plain (flags_text object)
flags_plain object =
    then (flag_plain object.suid (put (codes " suid") refl))
    (then (flag_plain object.sgid (put (codes " sgid") refl))
    (then (flag_plain object.uid_of_subject (put (codes " uid_of_subject") refl)) (flag_plain object.gid_of_subject (put (codes " gid_of_subject") refl))))

object_plain : (object : ObjectSide) → AreRanges object.side → Plain (object_text object)
object_plain object fits = then (side_plain object.side fits) (then (flags_plain object) (test_plain object.types))

rule_plain : (rule : Rule) → IsInBounds rule → Plain (rule_text rule)
unfolding rule_text
rule_plain rule fits =
    then (then (put (codes "subject") refl) (side_plain rule.subject fits.subject))
    (then (then (put (codes " object") refl) (object_plain rule.object fits.object)) (then (put (codes " mode ") refl) (mode_plain rule.mode)))

-- ---- its words
abbrev pub IsPlainWord : List ℕ → Type 0
IsPlainWord w = list_all is_word_byte w ≡ true

each_onto : (c : ℕ) (pieces : List (List ℕ)) → is_word_byte c ≡ true → AllByRecursion IsPlainWord pieces → AllByRecursion IsPlainWord (onto_first c pieces)
each_onto c [] is all = (join (is_word_byte c) true is refl, tt)
each_onto c (piece ∷ pieces) is all = (join (is_word_byte c) (list_all is_word_byte piece) is all.0, all.1)

other_byte : (c : ℕ) → eqb c 32 ≡ false → is_rule_byte c ≡ true → is_word_byte c ≡ true
other_byte c other is = grind (arith, nat_tests)

words_plain : (text : List ℕ) → list_all is_rule_byte text ≡ true → AllByRecursion IsPlainWord (slice_split (λ c. eqb c 32) text)
words_plain [] plain = (refl, tt)
words_plain (c ∷ cs) plain =
    let each = both (is_rule_byte c) (list_all is_rule_byte cs) plain in
    let more = words_plain cs each.1 in
    (elim (eqb c 32) as (λ b. eqb c 32 ≡ b → AllByRecursion IsPlainWord (cond b ([] ∷ slice_split (λ c. eqb c 32) cs) (onto_first c (slice_split (λ c. eqb c 32) cs)))) [
      | true ↦ λ hit. (refl, more)
      | false ↦ λ miss. each_onto c (slice_split (λ c. eqb c 32) cs) (other_byte c miss each.0) more
    ]) refl

-- no word is empty: where one is, nothing is read
abbrev pub is_some : List ℕ → Bool
is_some [] = false
is_some (b ∷ w) = true

abbrev IsFault : {A : Type 0} → OrFault A → Type 0
IsFault (Ok x) = ⊥
IsFault (Err fault) = Unit {0}

empty_named : (place : ℕ) (part : Part) (turned : Bool) (rule : Rule) → IsFault (test_named place part turned rule [])
unfolding test_named file_test
empty_named place Subject turned rule = tt
empty_named place Object turned rule = tt

empty_tested : (place : ℕ) (part : Part) (rule : Rule) → IsFault (tested place part rule [])
unfolding tested
empty_tested place Subject rule = empty_named place Subject false rule
empty_tested place Object rule = empty_named place Object false rule

empty_fitted : (place : ℕ) (what : Next) (rule : Rule) → IsFault (fitted place what rule [])
unfolding fitted id_range_in cut number number_in types_in mode_in letters_in
empty_fitted place next.Start rule = tt
empty_fitted place (next.First part) rule = empty_tested place part rule
empty_fitted place (next.Test part) rule = empty_tested place part rule
empty_fitted place (next.Name part) rule = empty_named place part true rule
empty_fitted place (next.Uid part turned) rule = tt
empty_fitted place (next.Gid part turned) rule = tt
empty_fitted place (next.Types turned) rule = tt
empty_fitted place next.Letters rule = tt
empty_fitted place next.End rule = tt

fault_first : (first : OrFault Begun) (more : Begun → OrFault Rule) (rule : Rule) → IsFault first → and_then first more ≡ Ok rule → ⊥
fault_first (Ok begun) more rule fault is = fault
fault_first (Err e) more rule fault is = cc

-- more words are read behind the first
rest_read : (first : OrFault Begun) (more : Begun → OrFault Rule) (rule : Rule) → and_then first more ≡ Ok rule → (begun : Begun) × (more begun ≡ Ok rule)
rest_read (Ok begun) more rule is = (begun, is)
rest_read (Err e) more rule is = absurd cc

some_words : (place : ℕ) (begun : Begun) (ws : List (List ℕ)) (rule : Rule) → read_from place begun ws ≡ Ok rule → AllByRecursion (λ w. is_some w ≡ true) ws
unfolding read_from
some_words place begun [] rule is = tt
some_words place begun ([] ∷ ws) rule is =
    absurd (fault_first (with_word place begun []) (λ more. read_from (place + 1) more ws) rule (empty_fitted place begun.next begun.rule) is)
some_words place begun ((b ∷ w) ∷ ws) rule is =
    let rest = rest_read (with_word place begun (b ∷ w)) (λ more. read_from (place + 1) more ws) rule is in
    (refl, some_words (place + 1) rest.0 ws rule rest.1)

read_words : (ws : List (List ℕ)) (rule : Rule) → rule_in ws ≡ Ok rule → AllByRecursion (λ w. is_some w ≡ true) ws
unfolding rule_in
read_words ws rule is = some_words 0 nothing_read ws rule is

abbrev pub words_of : Rule → List (List ℕ)
words_of rule = parts 32 (rule_text rule)

pub words_are_plain : (rule : Rule) → IsRule rule → AllByRecursion IsPlainWord (words_of rule)
unfolding parts
words_are_plain rule fits = words_plain (rule_text rule) (rule_plain rule (in_bounds rule fits)).each

pub words_are_some : (rule : Rule) → IsRule rule → AllByRecursion (λ w. is_some w ≡ true) (words_of rule)
words_are_some rule fits = read_words (words_of rule) rule (canonical_text_reads rule fits)

-- they are the text again
behind_onto : (c : ℕ) (pieces : List (List ℕ)) (text : List ℕ) → behind pieces ≡ 32 ∷ text → behind (onto_first c pieces) ≡ 32 ∷ c ∷ text
behind_onto c [] text is = absurd cc
behind_onto c (piece ∷ pieces) text is = let same : piece ++ behind pieces ≡ text = cc in ap (λ t. 32 ∷ c ∷ t) same

split_behind : (text : List ℕ) → behind (slice_split (λ c. eqb c 32) text) ≡ 32 ∷ text
split_behind [] = refl
split_behind (c ∷ cs) =
    (elim (eqb c 32) as (λ b. eqb c 32 ≡ b → behind (cond b ([] ∷ slice_split (λ c. eqb c 32) cs) (onto_first c (slice_split (λ c. eqb c 32) cs))) ≡ 32 ∷ c ∷ cs) [
      | true ↦ λ hit. ap (λ t. 32 ∷ t) (split_behind cs) ∙ ap (λ b. 32 ∷ b ∷ cs) (sym (eqb-true c 32 hit))
      | false ↦ λ miss. behind_onto c (slice_split (λ c. eqb c 32) cs) cs (split_behind cs)
    ]) refl

pub words_behind_text : (rule : Rule) → behind (words_of rule) ≡ 32 ∷ rule_text rule
unfolding parts
words_behind_text rule = split_behind (rule_text rule)
