-- Elements and their values: what is read is spelled, and what is spelled is read.
use Rattle.std.proofs.Common.{◌≡◌, ◌≢◌, ℕ, ◌<◌, Bool, true, false, cond, not, ◌&&◌, ◌||◌, eqb, List, [], ◌∷◌, ◌++◌, length, Option, Some, None, refl, sym, ap, ◌∙◌, subst, arith, ◌⊎◌, inl, inr, append-nil, length-append, lit≤, codes}
use Rattle.std.proofs.lemmas.Bool.{eqb-true, ne_eqb}
use Rattle.std.proofs.lemmas.List.{nil_from_length}
use Rattle.std.proofs.lemmas.Slice.Eq.{bytes_eq-Decides}
use Rattle.std.proofs.lemmas.Str.Parse.{digit_from_value}
use Rattle.std.specs.List.{list_all, join_with_byte}
use Rattle.std.specs.Option.{option_zip}
use Rattle.std.specs.Char.{digit_value}
use Rattle.std.specs.Str.{bytes_eq}
use Rattle.std.specs.Str.Parse.{AllDigits}
use Rattle.mf_elem.specs.Comps.{no_comps}
use Rattle.mf_elem.specs.Elem.{is_plain}
use Rattle.mf_elem.proofs.CompsLaws.{none_is}
use Rattle.mf_elem.specs.declared.comps.Comps.{Comps}
use Rattle.mf_elem.specs.declared.elem.Elem.{Elem}
use Rattle.mf_elem.specs.declared.elem.Elem.TheVariants.{Low, High, Equal, Grade}
use Rattle.mf_elem.specs.declared.label.RangeLabel.{RangeLabel}
use Rattle.mf_labeltext.specs.LabelGrammar.{SpellEach, SpellsGrade, SpellsElem, SpellsRange, SpellsParts, SpellsLabel, SpellsPlain, SpellsPartition}
use Rattle.mf_labeltext.specs.Reading.{cut, number, comps_in, grade_from_halves, grade_in, elem_in, range_in, effective_in, label_from_halves, label_in, plain_in, partition_in, ◌>>=◌}
use Rattle.mf_labeltext.proofs.Cutting.{IsFree, cut_is, cut_free, cut_free_none}
use Rattle.mf_labeltext.proofs.Numbers.{bind_some, some_is, number_spells, spells_number, comps_spells, spells_comps, digits_free}

-- which of two values a test chose
pub chosen : {A : Type 0} (b : Bool) (x y z : A) → cond b x y ≡ z → ((b ≡ true) × (x ≡ z)) ⊎ ((b ≡ false) × (y ≡ z))
chosen true x y z is = inl (refl, is)
chosen false x y z is = inr (refl, is)

pub either : (a b : Bool) → (a || b) ≡ true → (a ≡ true) ⊎ (b ≡ true)
either true b is = inl refl
either false b is = inr is

pub same_text : (text word : List ℕ) → bytes_eq text word ≡ true → text ≡ word
same_text text word is = (bytes_eq-Decides text word).0 is

one_of_two : (text a b : List ℕ) → (bytes_eq text a || bytes_eq text b) ≡ true → (text ≡ a) ⊎ (text ≡ b)
one_of_two text a b is =
    elim (either (bytes_eq text a) (bytes_eq text b) is) [ inl one ↦ inl (same_text text a one) | inr other ↦ inr (same_text text b other) ]

-- ---- elements
grade_spells : (text : List ℕ) (halves : Option (List ℕ × List ℕ)) (element : Elem) → cut 58 text ≡ halves → grade_from_halves text halves ≡ Some element → SpellsElem text element
grade_spells text None element none is =
    let read = bind_some (number 0 65535 text) (λ grade. Some (Grade grade no_comps)) element is in
    subst (SpellsElem text) (some_is (Grade read.0 no_comps) element read.2) (inl (number_spells 0 65535 text read.0 read.1, none_is))
grade_spells text (Some halves) element some is =
    let read = bind_some (number 0 65535 halves.0) (λ grade. comps_in halves.1 >>= λ comps. Some (Grade grade comps)) element is in
    let comps = bind_some (comps_in halves.1) (λ comps. Some (Grade read.0 comps)) element read.2 in
    let cut = cut_is 58 text halves.0 halves.1 some in
    subst (SpellsElem text) (some_is (Grade read.0 comps.0) element comps.2)
    (inr (halves.0, halves.1, cut.whole, number_spells 0 65535 halves.0 read.0 read.1, comps_spells halves.1 comps.0 comps.1))

abbrev if_equal : List ℕ → Option Elem
if_equal text = cond (bytes_eq text (codes "equal") || bytes_eq text (codes "eq")) (Some Equal) (grade_in text)

abbrev if_high : List ℕ → Option Elem
if_high text = cond (bytes_eq text (codes "high") || bytes_eq text (codes "hi")) (Some High) (if_equal text)

equal_spells : (text : List ℕ) (element : Elem) → if_equal text ≡ Some element → SpellsElem text element
unfolding grade_in
equal_spells text element is =
    elim (chosen (bytes_eq text (codes "equal") || bytes_eq text (codes "eq")) (Some Equal) (grade_in text) (Some element) is) [
      | inl equal ↦ subst (SpellsElem text) (some_is Equal element equal.1) (one_of_two text (codes "equal") (codes "eq") equal.0)
      | inr others ↦ grade_spells text (cut 58 text) element refl others.1
    ]

high_spells : (text : List ℕ) (element : Elem) → if_high text ≡ Some element → SpellsElem text element
high_spells text element is =
    elim (chosen (bytes_eq text (codes "high") || bytes_eq text (codes "hi")) (Some High) (if_equal text) (Some element) is) [
      | inl high ↦ subst (SpellsElem text) (some_is High element high.1) (one_of_two text (codes "high") (codes "hi") high.0)
      | inr others ↦ equal_spells text element others.1
    ]

pub elem_spells : (text : List ℕ) (element : Elem) → elem_in text ≡ Some element → SpellsElem text element
unfolding elem_in
elem_spells text element is =
    elim (chosen (bytes_eq text (codes "low") || bytes_eq text (codes "lo")) (Some Low) (if_high text) (Some element) is) [
      | inl low ↦ subst (SpellsElem text) (some_is Low element low.1) (one_of_two text (codes "low") (codes "lo") low.0)
      | inr others ↦ high_spells text element others.1
    ]

-- a text that begins with a digit is no word
not_word : (c : ℕ) (cs : List ℕ) → digit_value c < 10 → elem_in (c ∷ cs) ≡ grade_in (c ∷ cs)
unfolding elem_in
not_word c cs digit =
    let range = digit_from_value c digit in
    let low : eqb c 108 ≡ false = ne_eqb c 108 (λ e. omega (arith, range)) in
    let high : eqb c 104 ≡ false = ne_eqb c 104 (λ e. omega (arith, range)) in
    let equal : eqb c 101 ≡ false = ne_eqb c 101 (λ e. omega (arith, range)) in
    rw low (rw high (rw equal refl))

starts_with_digit : (text : List ℕ) (rest : List ℕ) → AllDigits 10 text → 0 < length text → elem_in (text ++ rest) ≡ grade_in (text ++ rest)
starts_with_digit [] rest all some = absurd (omega arith)
starts_with_digit (c ∷ cs) rest all some = not_word c (cs ++ rest) all.0

spells_grade : (text : List ℕ) (grade : ℕ) (comps : Comps) → SpellsGrade text grade comps → elem_in text ≡ Some (Grade grade comps)
unfolding grade_in
spells_grade text grade comps (inl alone) =
    let spells = alone.0 in
    ap elem_in (sym (append-nil text))
    ∙ starts_with_digit text [] spells.numeral.1 spells.numeral.0
    ∙ ap grade_in (append-nil text)
    ∙ ap (grade_from_halves text) (cut_free_none 58 text (digits_free 58 text (lit≤ tt) spells.numeral.1))
    ∙ ap (λ read. read >>= λ grade. Some (Grade grade no_comps)) (spells_number 0 65535 text grade spells)
    ∙ ap (λ comps. Some (Grade grade comps)) (none_is ∙ sym alone.1)
spells_grade text grade comps (inr both) =
    let digits = both.0 in
    let others = both.1 in
    let spells = both.3 in
    ap elem_in both.2
    ∙ starts_with_digit digits (58 ∷ others) spells.numeral.1 spells.numeral.0
    ∙ ap (grade_from_halves (digits ++ 58 ∷ others)) (cut_free 58 digits others (digits_free 58 digits (lit≤ tt) spells.numeral.1))
    ∙ ap (λ read. read >>= λ grade. comps_in others >>= λ comps. Some (Grade grade comps)) (spells_number 0 65535 digits grade spells)
    ∙ ap (λ read. read >>= λ comps. Some (Grade grade comps)) (spells_comps others comps both.4)

pub spells_elem : (text : List ℕ) (element : Elem) → SpellsElem text element → elem_in text ≡ Some element
unfolding elem_in
spells_elem text Low (inl is) = ap elem_in is
spells_elem text Low (inr is) = ap elem_in is
spells_elem text High (inl is) = ap elem_in is
spells_elem text High (inr is) = ap elem_in is
spells_elem text Equal (inl is) = ap elem_in is
spells_elem text Equal (inr is) = ap elem_in is
spells_elem text (Grade grade comps) spells = spells_grade text grade comps spells

-- ---- the bytes that part a label's value and a text's elements stand in no element
abbrev pub is_inner : ℕ → Bool
is_inner byte = not (eqb byte 40) && not (eqb byte 41) && not (eqb byte 44) && not (eqb byte 45)

abbrev pub IsInner : List ℕ → Type 0
IsInner text = list_all is_inner text ≡ true

pub both_true : (a b : Bool) → a ≡ true → b ≡ true → (a && b) ≡ true
both_true true b one other = other
both_true false b one other = one

pub each_true : (a b : Bool) → (a && b) ≡ true → (a ≡ true) × (b ≡ true)
each_true true b both = (refl, both)
each_true false b both = (both, absurd cc)

pub inner_append : (front back : List ℕ) → IsInner front → IsInner back → IsInner (front ++ back)
inner_append [] back one other = other
inner_append (c ∷ front) back one other =
    let parts = each_true (is_inner c) (list_all is_inner front) one in
    both_true (is_inner c) (list_all is_inner (front ++ back)) parts.0 (inner_append front back parts.1 other)

digit_inner : (c : ℕ) → digit_value c < 10 → is_inner c ≡ true
digit_inner c digit =
    let range = digit_from_value c digit in
    rw (ne_eqb c 40 (λ e. omega (arith, range))) (rw (ne_eqb c 41 (λ e. omega (arith, range))) (rw (ne_eqb c 44 (λ e. omega (arith, range))) (rw (ne_eqb c 45 (λ e. omega (arith, range))) refl)))

pub digits_inner : (text : List ℕ) → AllDigits 10 text → IsInner text
digits_inner [] all = refl
digits_inner (c ∷ cs) all = both_true (is_inner c) (list_all is_inner cs) (digit_inner c all.0) (digits_inner cs all.1)

comps_inner : (texts : List (List ℕ)) (numbers : List ℕ) → SpellEach texts numbers → IsInner (join_with_byte 43 texts)
comps_inner [] numbers each = refl
comps_inner (text ∷ []) [] each = absurd each
comps_inner (text ∷ []) (n ∷ numbers) each = digits_inner text each.0.numeral.1
comps_inner (text ∷ next ∷ texts) [] each = absurd each
comps_inner (text ∷ next ∷ texts) (n ∷ numbers) each =
    inner_append text (43 ∷ join_with_byte 43 (next ∷ texts)) (digits_inner text each.0.numeral.1) (comps_inner (next ∷ texts) numbers each.1)

pub elem_inner : (text : List ℕ) (element : Elem) → SpellsElem text element → IsInner text
elem_inner text Low (inl is) = ap (list_all is_inner) is
elem_inner text Low (inr is) = ap (list_all is_inner) is
elem_inner text High (inl is) = ap (list_all is_inner) is
elem_inner text High (inr is) = ap (list_all is_inner) is
elem_inner text Equal (inl is) = ap (list_all is_inner) is
elem_inner text Equal (inr is) = ap (list_all is_inner) is
elem_inner text (Grade grade comps) (inl alone) = digits_inner text alone.0.numeral.1
elem_inner text (Grade grade comps) (inr both) =
    ap (list_all is_inner) both.2
    ∙ inner_append both.0 (58 ∷ both.1) (digits_inner both.0 both.3.numeral.1) (ap (list_all is_inner) both.4.parted ∙ comps_inner both.4.texts both.4.numbers both.4.each)

inner_other : (byte c : ℕ) → is_inner byte ≡ false → is_inner c ≡ true → c ≢ byte
inner_other byte c outer inner same = let e : is_inner c ≡ is_inner byte = ap is_inner same in cc

pub inner_free : (byte : ℕ) (text : List ℕ) → is_inner byte ≡ false → IsInner text → IsFree byte text
inner_free byte [] outer inner = tt
inner_free byte (c ∷ cs) outer inner =
    let parts = each_true (is_inner c) (list_all is_inner cs) inner in
    (inner_other byte c outer parts.0, inner_free byte cs outer parts.1)

-- ---- ranges
pub zipped : {A B : Type 0} (x : Option A) (y : Option B) (pair : A × B) → option_zip x y ≡ Some pair → (x ≡ Some pair.0) × (y ≡ Some pair.1)
zipped None y pair is = absurd cc
zipped (Some a) None pair is = absurd cc
zipped (Some a) (Some b) pair is = let same = some_is (a, b) pair is in (ap (λ p. Some p.0) same, ap (λ p. Some p.1) same)

pub range_spells : (text : List ℕ) (ends : Elem × Elem) → range_in text ≡ Some ends → SpellsRange (40 ∷ text) ends
unfolding range_in
range_spells text ends is =
    let halves = bind_some (cut 45 text) _ ends is in
    let low = halves.0.0 in
    let high = bind_some (cut 41 halves.0.1) _ ends halves.2 in
    let read : Option (Elem × Elem) = option_zip (elem_in low) (elem_in high.0.0) in
    elim (chosen (eqb (length high.0.1) 0) read None (Some ends) high.2) [
      | inl end ↦
          let both = zipped (elem_in low) (elem_in high.0.0) ends end.1 in
          let ended : high.0.1 ≡ [] = nil_from_length high.0.1 (eqb-true (length high.0.1) 0 end.0) in
          let close = (cut_is 41 halves.0.1 high.0.0 high.0.1 high.1).whole ∙ ap (λ back. high.0.0 ++ 41 ∷ back) ended in
          let parted = cut_is 45 text low halves.0.1 halves.1 in (
            low,
            high.0.0,
            ap (λ t. 40 ∷ t) (parted.whole ∙ ap (λ back. low ++ 45 ∷ back) close),
            elem_spells low ends.0 both.0,
            elem_spells high.0.0 ends.1 both.1,
          )
      | inr more ↦ absurd (let e = more.1 in cc)
    ]

-- a range is its "(" and a text that is read as one
pub spells_range : (text : List ℕ) (ends : Elem × Elem) → SpellsRange text ends → (rest : List ℕ) × (text ≡ 40 ∷ rest) × (range_in rest ≡ Some ends)
unfolding range_in
spells_range text ends spells =
    let low = spells.0 in
    let high = spells.1 in
    let ended : List ℕ × List ℕ → Option (Elem × Elem) = λ close. cond (eqb (length close.1) 0) (option_zip (elem_in low) (elem_in close.0)) None in (
      low ++ (45 ∷ high ++ 41 ∷ []),
      spells.2,
      ap (λ ends. ends >>= λ ends. cut 41 ends.1 >>= λ high. cond (eqb (length high.1) 0) (option_zip (elem_in ends.0) (elem_in high.0)) None)
          (cut_free 45 low (high ++ 41 ∷ []) (inner_free 45 low refl (elem_inner low ends.0 spells.3)))
          ∙ ap (λ close. close >>= ended) (cut_free 41 high [] (inner_free 41 high refl (elem_inner high ends.1 spells.4)))
          ∙ ap (λ low_end. option_zip low_end (elem_in high)) (spells_elem low ends.0 spells.3)
          ∙ ap (option_zip (Some ends.0)) (spells_elem high ends.1 spells.4),
    )

-- ---- the value of biba and mls
some_elem : (element : Elem) → SpellsElem [] element → ⊥
some_elem Low (inl is) = cc
some_elem Low (inr is) = cc
some_elem High (inl is) = cc
some_elem High (inr is) = cc
some_elem Equal (inl is) = cc
some_elem Equal (inr is) = cc
some_elem (Grade grade comps) (inl alone) = omega (arith, alone.0.numeral.0)
some_elem (Grade grade comps) (inr both) = let some = both.3.numeral.0 in let e = ap length both.2 in omega (arith, e, length-append both.0 (58 ∷ both.1))

effective_spells : (front range : List ℕ) (effective : Option Elem) (ends : Elem × Elem) → effective_in front ≡ Some effective → SpellsRange range ends → SpellsParts (front ++ range) effective (Some ends)
effective_spells [] range effective ends is spells = subst (λ e. SpellsParts range e (Some ends)) (some_is None effective is) spells
effective_spells (c ∷ cs) range effective ends is spells =
    let read = bind_some (elem_in (c ∷ cs)) (λ element. Some (Some element)) effective is in
    subst (λ e. SpellsParts ((c ∷ cs) ++ range) e (Some ends)) (some_is (Some read.0) effective read.2)
    (c ∷ cs, range, refl, elem_spells (c ∷ cs) read.0 read.1, spells)

label_of_spells : (text : List ℕ) (halves : Option (List ℕ × List ℕ)) (label : RangeLabel) → cut 40 text ≡ halves → label_from_halves text halves ≡ Some label → SpellsLabel text label
label_of_spells text None label none is =
    let read = bind_some (elem_in text) (λ element. Some (record { effective = Some element; range = None })) label is in
    subst (SpellsLabel text) (some_is (record { effective = Some read.0; range = None }) label read.2) (elem_spells text read.0 read.1)
label_of_spells text (Some halves) label some is =
    let effective = bind_some (effective_in halves.0) (λ effective. range_in halves.1 >>= λ ends. Some (record { effective = effective; range = Some ends })) label is in
    let ends = bind_some (range_in halves.1) (λ ends. Some (record { effective = effective.0; range = Some ends })) label effective.2 in
    let cut = cut_is 40 text halves.0 halves.1 some in
    subst (SpellsLabel text) (some_is (record { effective = effective.0; range = Some ends.0 }) label ends.2)
    (subst (λ t. SpellsParts t effective.0 (Some ends.0)) (sym cut.whole) (effective_spells halves.0 (40 ∷ halves.1) effective.0 ends.0 effective.1 (range_spells halves.1 ends.0 ends.1)))

pub label_spells : (text : List ℕ) (label : RangeLabel) → label_in text ≡ Some label → SpellsLabel text label
unfolding label_in
label_spells text label is = label_of_spells text (cut 40 text) label refl is

spells_effective : (front : List ℕ) (element : Elem) → SpellsElem front element → effective_in front ≡ Some (Some element)
spells_effective [] element spells = absurd (some_elem element spells)
spells_effective (c ∷ cs) element spells = ap (λ read. read >>= λ element. Some (Some element)) (spells_elem (c ∷ cs) element spells)

spells_parts : (text : List ℕ) (effective : Option Elem) (range : Option (Elem × Elem)) → SpellsParts text effective range → label_in text ≡ Some (record { effective = effective; range = range })
unfolding label_in
spells_parts text None None spells = absurd spells
spells_parts text (Some element) None spells =
    ap (label_from_halves text) (cut_free_none 40 text (inner_free 40 text refl (elem_inner text element spells)))
    ∙ ap (λ read. read >>= λ element. Some (record { effective = Some element; range = None })) (spells_elem text element spells)
spells_parts text None (Some ends) spells =
    let read = spells_range text ends spells in
    ap (λ t. label_from_halves t (cut 40 t)) read.1
    ∙ ap (label_from_halves (40 ∷ read.0)) (cut_free 40 [] read.0 tt)
    ∙ ap (λ ends. ends >>= λ ends. Some (record { effective = None; range = Some ends })) read.2
spells_parts text (Some element) (Some ends) spells =
    let front = spells.0 in
    let read = spells_range spells.1 ends spells.4 in
    ap (λ t. label_from_halves t (cut 40 t)) (spells.2 ∙ ap (λ range. front ++ range) read.1)
    ∙ ap (label_from_halves (front ++ 40 ∷ read.0)) (cut_free 40 front read.0 (inner_free 40 front refl (elem_inner front element spells.3)))
    ∙ ap (λ effective. effective >>= λ effective. range_in read.0 >>= λ ends. Some (record { effective = effective; range = Some ends })) (spells_effective front element spells.3)
    ∙ ap (λ ends. ends >>= λ ends. Some (record { effective = Some element; range = Some ends })) read.2

pub spells_label : (text : List ℕ) (label : RangeLabel) → SpellsLabel text label → label_in text ≡ Some label
spells_label text label spells = spells_parts text label.effective label.range spells

-- ---- the value of lomac
pub plain_spells : (text : List ℕ) (element : Elem) → plain_in text ≡ Some element → SpellsPlain text element
unfolding plain_in
plain_spells text element is =
    let read = bind_some (elem_in text) (λ element. cond (is_plain element) (Some element) None) element is in
    elim (chosen (is_plain read.0) (Some read.0) None (Some element) read.2) [
      | inl plain ↦ subst (SpellsPlain text) (some_is read.0 element plain.1) (elem_spells text read.0 read.1, plain.0)
      | inr other ↦ absurd (let e = other.1 in cc)
    ]

pub spells_plain : (text : List ℕ) (element : Elem) → SpellsPlain text element → plain_in text ≡ Some element
unfolding plain_in
spells_plain text element spells =
    ap (λ read. read >>= λ element. cond (is_plain element) (Some element) None) (spells_elem text element spells.0)
    ∙ ap (λ b. cond b (Some element) None) spells.1

-- ---- the value of partition
pub partition_spells : (text : List ℕ) (n : ℕ) → partition_in text ≡ Some n → SpellsPartition text n
unfolding partition_in
partition_spells text n is =
    elim (chosen (bytes_eq text (codes "none")) (Some 0) (number 0 2147483647 text) (Some n) is) [
      | inl none ↦ inl (same_text text (codes "none") none.0, sym (some_is 0 n none.1))
      | inr other ↦ inr (number_spells 0 2147483647 text n other.1)
    ]

no_none : (text : List ℕ) → AllDigits 10 text → 0 < length text → partition_in text ≡ number 0 2147483647 text
unfolding partition_in
no_none [] all some = absurd (omega arith)
no_none (c ∷ cs) all some =
    let range = digit_from_value c all.0 in
    rw (ne_eqb c 110 (λ e. omega (arith, range))) refl

pub spells_partition : (text : List ℕ) (n : ℕ) → SpellsPartition text n → partition_in text ≡ Some n
unfolding partition_in
spells_partition text n (inl none) = ap partition_in none.0 ∙ ap Some (sym none.1)
spells_partition text n (inr spells) = no_none text spells.numeral.1 spells.numeral.0 ∙ spells_number 0 2147483647 text n spells

pub partition_inner : (text : List ℕ) (n : ℕ) → SpellsPartition text n → IsInner text
partition_inner text n (inl none) = ap (list_all is_inner) none.0
partition_inner text n (inr spells) = digits_inner text spells.numeral.1
