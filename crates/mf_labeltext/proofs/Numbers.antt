-- Numbers and compartments: what is read is spelled, and what is spelled is read.
use Rattle.std.proofs.Common.{◌≡◌, ◌≢◌, ℕ, ◌<◌, ◌≤◌, true, false, cond, not, ◌&&◌, leb, List, [], ◌∷◌, ◌++◌, length, Option, Some, None, Ok, Err, refl, sym, ap, ◌∙◌, arith, append-nil, append_assoc, lit≤}
use Rattle.std.proofs.lemmas.Bool.{lt-ltb, le-ltb, leb-true, le-leb}
use Rattle.std.specs.List.{position, position_or_len, AllByRecursion}
use Rattle.std.specs.Char.{is_digit, digit_value}
use Rattle.std.specs.Str.Parse.{AllDigits, digits_value}
use Rattle.std.specs.Result.{result_ok}
use Rattle.std.specs.FinSet as set
use Rattle.std.specs.FinSet.{from_list_push, nat_cmp-IsAntisymmetric}
use Rattle.std.specs.Cmp.{nat_cmp_total}
use Rattle.mf_text.specs.Number.{number_in}
use Rattle.mf_text.specs.declared.number.NumberFault.TheVariants.{OutOfRange}
use Rattle.mf_text.proofs.Numerals.{all_digits, within, unless_other}
use Rattle.mf_elem.specs.Comps.{with_compartment}
use Rattle.mf_elem.specs.OfSets.{comps_of}
use Rattle.mf_elem.proofs.CompsLaws.{none_is, with_of_set}
use Rattle.mf_elem.specs.declared.comps.Comps.{Comps}
use Rattle.mf_labeltext.specs.LabelGrammar.{SpellsNumber, SpellEach, SpellsComps}
use Rattle.mf_labeltext.specs.Reading.{number, comps_from, comps_in, parts, ◌>>=◌}
use Rattle.mf_labeltext.proofs.Cutting.{IsFree, parts_are_some, parts_join, join_parts}

pub bind_some : {A B : Type 0} (r : Option A) (f : A → Option B) (y : B) → (r >>= f) ≡ Some y → (x : A) × (r ≡ Some x) × (f x ≡ Some y)
bind_some None f y is = absurd cc
bind_some (Some x) f y is = (x, refl, is)

pub some_is : {A : Type 0} (x y : A) → Some x ≡ Some y → x ≡ y
some_is x y is = cc

-- ---- digits
all_pass : (text : List ℕ) → AllDigits 10 text → position_or_len (λ byte. not (is_digit byte 10)) text ≡ length text
all_pass [] all = refl
all_pass (c ∷ cs) all = rw (lt-ltb (digit_value c) 10 all.0) (rw (all_pass cs all.1) (omega arith))

no_other : (text : List ℕ) → AllDigits 10 text → position (λ byte. not (is_digit byte 10)) text ≡ None
no_other text all = rw (all_pass text all) (rw (le-ltb (length text) (length text) (omega arith)) refl)

-- ---- a number
within_is : (least greatest value n : ℕ) → result_ok (within least greatest value) ≡ Some n → (value ≡ n) × (least ≤ n) × (n ≤ greatest)
within_is least greatest value n =
    elim (leb least value) as (λ b. leb least value ≡ b → result_ok (cond (b && leb value greatest) (Ok value) (Err OutOfRange)) ≡ Some n → (value ≡ n) × (least ≤ n) × (n ≤ greatest)) [
      | true ↦ λ above. elim (leb value greatest) as (λ b. leb value greatest ≡ b → result_ok (cond b (Ok value) (Err OutOfRange)) ≡ Some n → (value ≡ n) × (least ≤ n) × (n ≤ greatest)) [
        | true ↦ λ below is.
            let same : value ≡ n = cc in
            let low : least ≤ value = leb-true least value above in
            let high : value ≤ greatest = leb-true value greatest below in
            (same, omega arith, omega arith)
        | false ↦ λ below is. absurd cc
      ] refl
      | false ↦ λ above is. absurd cc
    ] refl

unless_is : (other : Option ℕ) (least greatest value n : ℕ) → result_ok (unless_other other (within least greatest value)) ≡ Some n → (other ≡ None) × (value ≡ n) × (least ≤ n) × (n ≤ greatest)
unless_is None least greatest value n is = let found = within_is least greatest value n is in (refl, found.0, found.1, found.2)
unless_is (Some place) least greatest value n is = absurd cc

pub number_spells : (least greatest : ℕ) (text : List ℕ) (n : ℕ) → number least greatest text ≡ Some n → SpellsNumber least greatest text n
unfolding number number_in
number_spells least greatest [] n is = absurd cc
number_spells least greatest (c ∷ cs) n is =
    let found = unless_is (position (λ byte. not (is_digit byte 10)) (c ∷ cs)) least greatest (digits_value 10 (c ∷ cs)) n is in
    record { numeral = (omega arith, all_digits 10 (c ∷ cs) found.0); value = found.1; above = found.2; below = found.3 }

within_ok : (least greatest value n : ℕ) → value ≡ n → least ≤ n → n ≤ greatest → within least greatest value ≡ Ok n
within_ok least greatest value n same above below =
    rw (le-leb least value (omega arith)) (rw (le-leb value greatest (omega arith)) (ap Ok same))

pub spells_number : (least greatest : ℕ) (text : List ℕ) (n : ℕ) → SpellsNumber least greatest text n → number least greatest text ≡ Some n
unfolding number number_in
spells_number least greatest [] n spells = absurd (omega (arith, spells.numeral.0))
spells_number least greatest (c ∷ cs) n spells =
    ap (λ other. result_ok (unless_other other (within least greatest (digits_value 10 (c ∷ cs))))) (no_other (c ∷ cs) spells.numeral.1)
    ∙ ap result_ok (within_ok least greatest (digits_value 10 (c ∷ cs)) n spells.value spells.above spells.below)

-- ---- compartments, one after another
push : (numbers : List ℕ) (n : ℕ) → 1 ≤ n → n ≤ 256 → with_compartment (comps_of (set.from_list numbers)) n ≡ comps_of (set.from_list (numbers ++ n ∷ []))
push numbers n least most = with_of_set (set.from_list numbers) n least most ∙ ap comps_of (sym (from_list_push nat_cmp_total nat_cmp-IsAntisymmetric numbers n))

-- what the texts spell behind the numbers so far
pub record Reads (numbers : List ℕ) (texts : List (List ℕ)) (comps : Comps) : Type 0 where
  pub others : List ℕ
  pub each : SpellEach texts others
  pub set : comps ≡ comps_of (set.from_list (numbers ++ others))

comps_reads : (numbers : List ℕ) (texts : List (List ℕ)) (comps : Comps) → comps_from (comps_of (set.from_list numbers)) texts ≡ Some comps → Reads numbers texts comps
unfolding comps_from
comps_reads numbers [] comps is =
    record { others = []; each = tt; set = sym (some_is (comps_of (set.from_list numbers)) comps is) ∙ ap (λ all. comps_of (set.from_list all)) (sym (append-nil numbers)) }
comps_reads numbers (text ∷ texts) comps is =
    let first = bind_some (number 1 256 text) (λ n. comps_from (with_compartment (comps_of (set.from_list numbers)) n) texts) comps is in
    let n = first.0 in
    let spells = number_spells 1 256 text n first.1 in
    let reads = comps_reads (numbers ++ n ∷ []) texts comps (ap (λ s. comps_from s texts) (sym (push numbers n spells.above spells.below)) ∙ first.2) in
    record {
      others = n ∷ reads.others;
      each = (spells, reads.each);
      set = reads.set ∙ ap (λ all. comps_of (set.from_list all)) (append_assoc numbers (n ∷ []) reads.others);
    }

reads_comps : (numbers : List ℕ) (texts : List (List ℕ)) (others : List ℕ) → SpellEach texts others → comps_from (comps_of (set.from_list numbers)) texts ≡ Some (comps_of (set.from_list (numbers ++ others)))
unfolding comps_from
reads_comps numbers [] [] each = ap (λ all. Some (comps_of (set.from_list all))) (sym (append-nil numbers))
reads_comps numbers [] (n ∷ others) each = absurd each
reads_comps numbers (text ∷ texts) [] each = absurd each
reads_comps numbers (text ∷ texts) (n ∷ others) each =
    ap (λ read. read >>= λ n. comps_from (with_compartment (comps_of (set.from_list numbers)) n) texts) (spells_number 1 256 text n each.0)
    ∙ ap (λ s. comps_from s texts) (push numbers n each.0.above each.0.below)
    ∙ reads_comps (numbers ++ n ∷ []) texts others each.1
    ∙ ap (λ all. Some (comps_of (set.from_list all))) (append_assoc numbers (n ∷ []) others)

pub comps_spells : (text : List ℕ) (comps : Comps) → comps_in text ≡ Some comps → SpellsComps text comps
unfolding comps_in
comps_spells text comps is =
    let reads = comps_reads [] (parts 43 text) comps (ap (λ s. comps_from s (parts 43 text)) (sym none_is) ∙ is) in
    record { texts = parts 43 text; some = parts_are_some 43 text; parted = sym (join_parts 43 text); numbers = reads.others; each = reads.each; set = reads.set }

-- ---- which bytes a text of digits is free of
digit_other : (byte c : ℕ) → 10 ≤ digit_value byte → digit_value c < 10 → c ≢ byte
digit_other byte c other digit same = let e : digit_value c ≡ digit_value byte = ap digit_value same in omega (arith, e)

pub digits_free : (byte : ℕ) (text : List ℕ) → 10 ≤ digit_value byte → AllDigits 10 text → IsFree byte text
digits_free byte [] other all = tt
digits_free byte (c ∷ cs) other all = (digit_other byte c other all.0, digits_free byte cs other all.1)

each_free : (byte : ℕ) (texts : List (List ℕ)) (numbers : List ℕ) → 10 ≤ digit_value byte → SpellEach texts numbers → AllByRecursion (IsFree byte) texts
each_free byte [] numbers other each = tt
each_free byte (text ∷ texts) [] other each = absurd each
each_free byte (text ∷ texts) (n ∷ numbers) other each = (digits_free byte text other each.0.numeral.1, each_free byte texts numbers other each.1)

pub spells_comps : (text : List ℕ) (comps : Comps) → SpellsComps text comps → comps_in text ≡ Some comps
unfolding comps_in
spells_comps text comps spells =
    ap (λ s. comps_from s (parts 43 text)) none_is
    ∙ ap (λ t. comps_from (comps_of set.empty) (parts 43 t)) spells.parted
    ∙ ap (comps_from (comps_of set.empty)) (parts_join 43 spells.texts spells.some (each_free 43 spells.texts spells.numbers (lit≤ tt) spells.each))
    ∙ reads_comps [] spells.texts spells.numbers spells.each
    ∙ ap Some (sym spells.set)
