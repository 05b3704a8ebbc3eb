-- The canonical text of parts spells them.
use Rattle.std.proofs.Common.{◌≡◌, ℕ, ◌^◌, ◌<◌, ◌≤◌, true, false, cond, eqb, List, [], ◌∷◌, ◌++◌, map, Option, Some, None, refl, sym, ap, subst, arith, inl, inr, append-nil, lit<, codes, is_some, ◌||◌, IfSome}
use Rattle.std.proofs.lemmas.Bool.{eqb-true}
use Rattle.std.proofs.lemmas.Fmt.{decimal_is_IsNumeral}
use Rattle.std.specs.List.{list_all, AllByRecursion, join_with_byte}
use Rattle.std.specs.Fmt.{decimal}
use Rattle.std.specs.FinSet as set
use Rattle.mf_errno.specs.declared.module.Module.{Module}
use Rattle.mf_errno.specs.declared.module.Module.TheVariants.{Biba, Mls, Lomac, Partition}
use Rattle.mf_elem.specs.Comps.{rising}
use Rattle.mf_elem.specs.OfSets.{comps_of}
use Rattle.mf_elem.specs.Bounds.{IsElement, IsAskedLabel}
use Rattle.mf_elem.specs.Elem.{is_plain}
use Rattle.mf_elem.specs.Label.{is_plain_label}
use Rattle.mf_elem.specs.declared.comps.Comps.{Comps}
use Rattle.mf_elem.specs.declared.elem.Elem.{Elem}
use Rattle.mf_elem.specs.declared.elem.Elem.TheVariants.{Low, High, Equal, Grade}
use Rattle.mf_elem.specs.declared.label.RangeLabel.{RangeLabel}
use Rattle.mf_elem.specs.declared.label.LabelValue.{LabelValue}
use Rattle.mf_elem.specs.declared.label.LabelValue.TheVariants.{Unset, Range, Number}
use Rattle.mf_elem.specs.declared.label.Request.{Request}
use Rattle.std.specs.Option.{option_map_or}
use Rattle.mf_labeltext.specs.LabelGrammar.{SpellsNumber, SpellEach, SpellsGrade, SpellsElem, SpellsParts, SpellsLabel, SpellsPlain, SpellsPartition, IsPolicyName, SpellsElement}
use Rattle.mf_labeltext.specs.Canonical.{comps_text, elem_text, range_text, label_text, value_text, element_text}
use Rattle.mf_labeltext.specs.RoundTrip.{range_from, element_from, number_from, IsValueOf}
use Rattle.mf_labeltext.proofs.Cutting.{IsFree}
use Rattle.mf_labeltext.proofs.Spelling.{each_true, elem_inner, inner_free}
use Rattle.mf_labeltext.proofs.Requests.{name_bytes_are, is_policy_name_byte}
use Rattle.mf_labeltext.proofs.Rising.{IsCompartment, rising_again, rising_are}

-- ---- numbers
decimal_spells : (least greatest n : ℕ) → greatest < 2 ^ 64 → least ≤ n → n ≤ greatest → SpellsNumber least greatest (decimal n) n
decimal_spells least greatest n small above below =
    let numeral = decimal_is_IsNumeral n (omega arith) in
    record { numeral = numeral.0; value = numeral.1; above = above; below = below }

each_decimal : (ns : List ℕ) → AllByRecursion IsCompartment ns → SpellEach (map decimal ns) ns
each_decimal [] all = tt
each_decimal (n ∷ ns) all = (decimal_spells 1 256 n (lit< tt) all.0.0 all.0.1, each_decimal ns all.1)

-- ---- elements
abbrev pub effective_text : Option Elem → List ℕ
effective_text element = option_map_or elem_text element []

grade_text_spells : (grade : ℕ) (comps : Comps) (ns : List ℕ) → grade ≤ 65535 → comps ≡ comps_of (set.from_list ns) → AllByRecursion IsCompartment ns → SpellsGrade (decimal grade ++ comps_text ns) grade comps
grade_text_spells grade comps [] fits is all =
    subst (λ text. SpellsGrade text grade comps) (sym (append-nil (decimal grade))) (inl (decimal_spells 0 65535 grade (lit< tt) (omega arith) fits, is))
grade_text_spells grade comps (n ∷ ns) fits is all =
    inr (
      decimal grade,
      join_with_byte 43 (map decimal (n ∷ ns)),
      refl,
      decimal_spells 0 65535 grade (lit< tt) (omega arith) fits,
      record { texts = map decimal (n ∷ ns); some = λ e. cc; parted = refl; numbers = n ∷ ns; each = each_decimal (n ∷ ns) all; set = is },
    )

elem_text_spells : (element : Elem) → IsElement element → SpellsElem (elem_text element) element
elem_text_spells Low is = inl refl
elem_text_spells High is = inl refl
elem_text_spells Equal is = inl refl
elem_text_spells (Grade grade comps) is = grade_text_spells grade comps (rising comps) is.0 (rising_again comps is.1) (rising_are comps)

-- ---- the value of biba and mls
abbrev AreEnds : Elem × Elem → Type 0
AreEnds ends = IsElement ends.0 × IsElement ends.1

parts_spell : (effective : Option Elem) (range : Option (Elem × Elem)) → IfSome effective IsElement → IfSome range AreEnds → (is_some effective || is_some range) ≡ true
    → SpellsParts (effective_text effective ++ range_text range) effective range
parts_spell None None one ends some = absurd cc
parts_spell (Some element) None one ends some = subst (λ text. SpellsElem text element) (sym (append-nil (elem_text element))) (elem_text_spells element one)
parts_spell None (Some range) one ends some = (elem_text range.0, elem_text range.1, refl, elem_text_spells range.0 ends.0, elem_text_spells range.1 ends.1)
parts_spell (Some element) (Some range) one ends some =
    (elem_text element, range_text (Some range), refl, elem_text_spells element one, (elem_text range.0, elem_text range.1, refl, elem_text_spells range.0 ends.0, elem_text_spells range.1 ends.1))

label_text_spells : (label : RangeLabel) → IsAskedLabel label → SpellsLabel (label_text label) label
label_text_spells label is = parts_spell label.effective label.range is.effective is.range is.not_empty

-- ---- the value of lomac
plain_spells : (effective : Option Elem) (range : Option (Elem × Elem)) → IfSome effective IsElement → is_plain_label (record { effective = effective; range = range }) ≡ true
    → (element : Elem) × SpellsPlain (effective_text effective ++ range_text range) element × (effective ≡ Some element)
plain_spells None range one plain = absurd cc
plain_spells (Some element) None one plain =
    (element, (subst (λ text. SpellsElem text element) (sym (append-nil (elem_text element))) (elem_text_spells element one), (each_true (is_plain element) true plain).0), refl)
plain_spells (Some element) (Some ends) one plain = absurd (let ranged = (each_true (is_plain element) false plain).1 in cc)

-- ---- the value of partition
abbrev pub partition_text : ℕ → List ℕ
partition_text n = value_text (Number n)

pub partition_spells : (n : ℕ) → n ≤ 2147483647 → SpellsPartition (partition_text n) n
partition_spells n fits =
    elim (eqb n 0) as (λ b. eqb n 0 ≡ b → SpellsPartition (cond b (codes "none") (decimal n)) n) [
      | true ↦ λ none. inl (refl, eqb-true n 0 none)
      | false ↦ λ some. inr (decimal_spells 0 2147483647 n (lit< tt) (omega arith) fits)
    ] refl

-- ---- an element
unfoldable pub with_value : Request → Module → LabelValue → Request
with_value before Biba value = record before { biba = range_from (Some value) }
with_value before Mls value = record before { mls = range_from (Some value) }
with_value before Lomac value = record before { lomac = element_from (Some value) }
with_value before Partition value = record before { partition = number_from (Some value) }
with_value before policy value = before

name_is : (c : ℕ) (cs : List ℕ) → list_all is_policy_name_byte (c ∷ cs) ≡ true → IsPolicyName (c ∷ cs)
name_is c cs all = (λ e. cc, name_bytes_are (c ∷ cs) all)

pub element_spells : (policy : Module) (value : LabelValue) (before : Request) → IsValueOf policy value → SpellsElement (element_text (policy, value)) before (with_value before policy value)
unfolding with_value
element_spells Biba Unset before is = absurd is
element_spells Biba (Range label) before is =
    (codes "biba", label_text label, refl, name_is 98 (105 ∷ 98 ∷ 97 ∷ []) refl, inl (refl, label, label_text_spells label is, refl))
element_spells Biba (Number n) before is = absurd is
element_spells Mls Unset before is = absurd is
element_spells Mls (Range label) before is =
    (codes "mls", label_text label, refl, name_is 109 (108 ∷ 115 ∷ []) refl, inr (inl (refl, label, label_text_spells label is, refl)))
element_spells Mls (Number n) before is = absurd is
element_spells Lomac Unset before is = absurd is
element_spells Lomac (Range label) before is =
    let plain = plain_spells label.effective label.range is.0.effective is.1 in (
      codes "lomac",
      label_text label,
      refl,
      name_is 108 (111 ∷ 109 ∷ 97 ∷ 99 ∷ []) refl,
      inr (inr (inl (refl, plain.0, plain.1, ap (λ effective. record before { lomac = effective }) plain.2))),
    )
element_spells Lomac (Number n) before is = absurd is
element_spells Partition Unset before is =
    (codes "partition", codes "none", refl, name_is 112 (97 ∷ 114 ∷ 116 ∷ 105 ∷ 116 ∷ 105 ∷ 111 ∷ 110 ∷ []) refl, inr (inr (inr (inl (refl, 0, inl (refl, refl), refl)))))
element_spells Partition (Range label) before is = absurd is
element_spells Partition (Number n) before is =
    (codes "partition", partition_text n, refl, name_is 112 (97 ∷ 114 ∷ 116 ∷ 105 ∷ 116 ∷ 105 ∷ 111 ∷ 110 ∷ []) refl, inr (inr (inr (inl (refl, n, partition_spells n is, refl)))))
element_spells other value before is = absurd is

-- ---- no comma stands in an element
pub free_both : (front back : List ℕ) → IsFree 44 front → IsFree 44 back → IsFree 44 (front ++ back)
free_both [] back one other = other
free_both (c ∷ front) back one other = (one.0, free_both front back one.1 other)

elem_free : (element : Elem) → IsElement element → IsFree 44 (elem_text element)
elem_free element is = inner_free 44 (elem_text element) refl (elem_inner (elem_text element) element (elem_text_spells element is))

range_free : (ends : Elem × Elem) → IsElement ends.0 → IsElement ends.1 → IsFree 44 (range_text (Some ends))
range_free ends low high = (
  λ e. omega arith,
  free_both (elem_text ends.0) (45 ∷ elem_text ends.1 ++ 41 ∷ []) (elem_free ends.0 low)
      (λ e. omega arith, free_both (elem_text ends.1) (41 ∷ []) (elem_free ends.1 high) (λ e. omega arith, tt)),
)

parts_free : (effective : Option Elem) (range : Option (Elem × Elem)) → IfSome effective IsElement → IfSome range AreEnds → IsFree 44 (effective_text effective ++ range_text range)
parts_free None None one ends = tt
parts_free (Some element) None one ends = free_both (elem_text element) [] (elem_free element one) tt
parts_free None (Some range) one ends = range_free range ends.0 ends.1
parts_free (Some element) (Some range) one ends = free_both (elem_text element) (range_text (Some range)) (elem_free element one) (range_free range ends.0 ends.1)

pub label_free : (label : RangeLabel) → IsAskedLabel label → IsFree 44 (label_text label)
label_free label is = parts_free label.effective label.range is.effective is.range
