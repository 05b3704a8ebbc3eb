-- The elements of parts in order spell what the parts ask for.
use Rattle.std.proofs.Common.{◌≡◌, ◌≢◌, ℕ, ◌≤◌, true, false, cond, List, [], ◌∷◌, ◌++◌, length, map, Option, Some, None, refl, ap, ◌∙◌, subst, arith, codes}
use Rattle.std.specs.List.{AllByRecursion, join_with_byte}
use Rattle.mf_errno.specs.Same.{same_module}
use Rattle.mf_errno.specs.declared.module.Module.{Module}
use Rattle.mf_errno.specs.declared.module.Module.TheVariants.{Biba, Mls, Lomac, Partition}
use Rattle.mf_elem.specs.declared.elem.Elem.{Elem}
use Rattle.mf_elem.specs.declared.label.RangeLabel.{RangeLabel}
use Rattle.mf_elem.specs.declared.label.LabelValue.{LabelValue}
use Rattle.mf_elem.specs.declared.label.LabelValue.TheVariants.{Unset, Range, Number}
use Rattle.mf_elem.specs.declared.label.Request.{Request}
use Rattle.mf_labeltext.specs.LabelGrammar.{SpellElements, HasNoComma, SpellsRequest}
use Rattle.mf_elem.specs.Label.{no_request}
use Rattle.mf_labeltext.specs.Canonical.{label_text, element_text, parts_of, in_order, elements_text, canonical_label}
use Rattle.mf_labeltext.specs.RoundTrip.{value_among, range_from, element_from, number_from, request_from, IsValueOf, IsPart, AreParts}
use Rattle.mf_labeltext.proofs.Cutting.{IsFree}
use Rattle.mf_labeltext.proofs.Spelling.{inner_free, partition_inner}
use Rattle.mf_labeltext.proofs.CanonicalSpelling.{with_value, element_spells, free_both, label_free, partition_spells, partition_text}

abbrev Part : Type 0
Part = Module × LabelValue

abbrev Parts : Type 0
Parts = List (Module × LabelValue)

-- ---- no comma stands in an element
partition_free : (n : ℕ) → n ≤ 2147483647 → IsFree 44 (partition_text n)
partition_free n fits = inner_free 44 (partition_text n) refl (partition_inner (partition_text n) n (partition_spells n fits))

element_free : (policy : Module) (value : LabelValue) → IsValueOf policy value → HasNoComma (element_text (policy, value))
element_free Biba Unset is = absurd is
element_free Biba (Range label) is = free_both (codes "biba/") (label_text label) (inner_free 44 (codes "biba/") refl refl) (label_free label is)
element_free Biba (Number n) is = absurd is
element_free Mls Unset is = absurd is
element_free Mls (Range label) is = free_both (codes "mls/") (label_text label) (inner_free 44 (codes "mls/") refl refl) (label_free label is)
element_free Mls (Number n) is = absurd is
element_free Lomac Unset is = absurd is
element_free Lomac (Range label) is = free_both (codes "lomac/") (label_text label) (inner_free 44 (codes "lomac/") refl refl) (label_free label is.0)
element_free Lomac (Number n) is = absurd is
element_free Partition Unset is = inner_free 44 (codes "partition/none") refl refl
element_free Partition (Range label) is = absurd is
element_free Partition (Number n) is = free_both (codes "partition/") (partition_text n) (inner_free 44 (codes "partition/") refl refl) (partition_free n is)
element_free other value is = absurd is

-- ---- one part after another
asked_after : Request → Parts → Request
asked_after before [] = before
asked_after before (part ∷ parts) = asked_after (with_value before part.0 part.1) parts

all_spell : (before : Request) (parts : Parts) → AllByRecursion IsPart parts → SpellElements (map element_text parts) before (asked_after before parts)
unfolding asked_after
all_spell before [] all = refl
all_spell before (part ∷ parts) all =
    (with_value before part.0 part.1, element_spells part.0 part.1 before all.0, all_spell (with_value before part.0 part.1) parts all.1)

all_free : (parts : Parts) → AllByRecursion IsPart parts → AllByRecursion HasNoComma (map element_text parts)
all_free [] all = tt
all_free (part ∷ parts) all = (element_free part.0 part.1 all.0, all_free parts all.1)

after_append : (before : Request) (front back : Parts) → asked_after before (front ++ back) ≡ asked_after (asked_after before front) back
unfolding asked_after
after_append before [] back = refl
after_append before (part ∷ front) back = after_append (with_value before part.0 part.1) front back

-- ---- the parts of one policy
-- parts of the policy, as a label may have them
abbrev AreOf : Module → Parts → Type 0
AreOf policy parts = AllByRecursion (λ part. (same_module policy part.0 ≡ true) × IsPart part) parts

are_of : (policy : Module) (parts : Parts) → AllByRecursion IsPart parts → AreOf policy (parts_of policy parts)
are_of policy [] all = tt
are_of policy (part ∷ parts) all =
    elim (same_module policy part.0) as (λ b. same_module policy part.0 ≡ b → AreOf policy (cond b (part ∷ parts_of policy parts) (parts_of policy parts))) [
      | true ↦ λ same. ((same, all.0), are_of policy parts all.1)
      | false ↦ λ other. are_of policy parts all.1
    ] refl

forget : (policy : Module) (parts : Parts) → AreOf policy parts → AllByRecursion IsPart parts
forget policy [] all = tt
forget policy (part ∷ parts) all = (all.0.1, forget policy parts all.1)

abbrev first_value : Parts → Option LabelValue
first_value [] = None
first_value (part ∷ parts) = Some part.1

first_of : (policy : Module) (parts : Parts) → first_value (parts_of policy parts) ≡ value_among policy parts
first_of policy [] = refl
first_of policy (part ∷ parts) =
    elim (same_module policy part.0) as (λ b. first_value (cond b (part ∷ parts_of policy parts) (parts_of policy parts)) ≡ cond b (Some part.1) (value_among policy parts)) [
      | true ↦ refl
      | false ↦ first_of policy parts
    ]

-- what was asked for of the four policies
abbrev asking : Option RangeLabel → Option RangeLabel → Option Elem → Option ℕ → Request
asking biba mls lomac partition = record { biba = biba; mls = mls; lomac = lomac; partition = partition; other = false }

with_biba : (policy : Module) (value : LabelValue) → same_module Biba policy ≡ true → with_value no_request policy value ≡ asking (range_from (Some value)) None None None
unfolding with_value
with_biba Biba value same = refl
with_biba other value same = absurd cc

with_mls : (biba : Option RangeLabel) (policy : Module) (value : LabelValue) → same_module Mls policy ≡ true → with_value (asking biba None None None) policy value ≡ asking biba (range_from (Some value)) None None
unfolding with_value
with_mls biba Mls value same = refl
with_mls biba other value same = absurd cc

with_lomac : (biba mls : Option RangeLabel) (policy : Module) (value : LabelValue) → same_module Lomac policy ≡ true
    → with_value (asking biba mls None None) policy value ≡ asking biba mls (element_from (Some value)) None
unfolding with_value
with_lomac biba mls Lomac value same = refl
with_lomac biba mls other value same = absurd cc

with_partition : (biba mls : Option RangeLabel) (lomac : Option Elem) (policy : Module) (value : LabelValue) → same_module Partition policy ≡ true
    → with_value (asking biba mls lomac None) policy value ≡ asking biba mls lomac (number_from (Some value))
unfolding with_value
with_partition biba mls lomac Partition value same = refl
with_partition biba mls lomac other value same = absurd cc

after_biba : (parts : Parts) → AreOf Biba parts → length parts ≤ 1 → asked_after no_request parts ≡ asking (range_from (first_value parts)) None None None
unfolding asked_after
after_biba [] are once = refl
after_biba (part ∷ []) are once = with_biba part.0 part.1 are.0.0
after_biba (part ∷ next ∷ parts) are once = absurd (omega arith)

after_mls : (biba : Option RangeLabel) (parts : Parts) → AreOf Mls parts → length parts ≤ 1 → asked_after (asking biba None None None) parts ≡ asking biba (range_from (first_value parts)) None None
unfolding asked_after
after_mls biba [] are once = refl
after_mls biba (part ∷ []) are once = with_mls biba part.0 part.1 are.0.0
after_mls biba (part ∷ next ∷ parts) are once = absurd (omega arith)

after_lomac : (biba mls : Option RangeLabel) (parts : Parts) → AreOf Lomac parts → length parts ≤ 1 → asked_after (asking biba mls None None) parts ≡ asking biba mls (element_from (first_value parts)) None
unfolding asked_after
after_lomac biba mls [] are once = refl
after_lomac biba mls (part ∷ []) are once = with_lomac biba mls part.0 part.1 are.0.0
after_lomac biba mls (part ∷ next ∷ parts) are once = absurd (omega arith)

after_partition : (biba mls : Option RangeLabel) (lomac : Option Elem) (parts : Parts) → AreOf Partition parts → length parts ≤ 1
    → asked_after (asking biba mls lomac None) parts ≡ asking biba mls lomac (number_from (first_value parts))
unfolding asked_after
after_partition biba mls lomac [] are once = refl
after_partition biba mls lomac (part ∷ []) are once = with_partition biba mls lomac part.0 part.1 are.0.0
after_partition biba mls lomac (part ∷ next ∷ parts) are once = absurd (omega arith)

firsts_are : {biba mls lomac partition biba_value mls_value lomac_value partition_value : Option LabelValue} → biba ≡ biba_value → mls ≡ mls_value → lomac ≡ lomac_value → partition ≡ partition_value
    → asking (range_from biba) (range_from mls) (element_from lomac) (number_from partition) ≡ asking (range_from biba_value) (range_from mls_value) (element_from lomac_value) (number_from partition_value)
firsts_are biba mls lomac partition = rw (biba, mls, lomac, partition) refl

asked_in_order : (parts : Parts) → AreParts parts → asked_after no_request (in_order parts) ≡ request_from parts
unfolding in_order
asked_in_order parts are =
    let biba = parts_of Biba parts in
    let mls = parts_of Mls parts in
    let lomac = parts_of Lomac parts in
    let partition = parts_of Partition parts in
    let asked_biba = range_from (first_value biba) in
    let asked_mls = range_from (first_value mls) in
    after_append no_request (biba ++ mls ++ lomac) partition
    ∙ ap (λ before. asked_after before partition) (after_append no_request (biba ++ mls) lomac)
    ∙ ap (λ before. asked_after (asked_after before lomac) partition) (after_append no_request biba mls)
    ∙ ap (λ before. asked_after (asked_after (asked_after before mls) lomac) partition) (after_biba biba (are_of Biba parts are.each) (are.once Biba))
    ∙ ap (λ before. asked_after (asked_after before lomac) partition) (after_mls asked_biba mls (are_of Mls parts are.each) (are.once Mls))
    ∙ ap (λ before. asked_after before partition) (after_lomac asked_biba asked_mls lomac (are_of Lomac parts are.each) (are.once Lomac))
    ∙ after_partition asked_biba asked_mls (element_from (first_value lomac)) partition (are_of Partition parts are.each) (are.once Partition)
    ∙ firsts_are (first_of Biba parts) (first_of Mls parts) (first_of Lomac parts) (first_of Partition parts)

-- ---- all parts stand in order
append_parts : (front back : Parts) → AllByRecursion IsPart front → AllByRecursion IsPart back → AllByRecursion IsPart (front ++ back)
append_parts [] back one other = other
append_parts (part ∷ front) back one other = (one.0, append_parts front back one.1 other)

only : (policy : Module) (parts : Parts) → AllByRecursion IsPart parts → AllByRecursion IsPart (parts_of policy parts)
only policy parts all = forget policy (parts_of policy parts) (are_of policy parts all)

ordered_parts : (parts : Parts) → AllByRecursion IsPart parts → AllByRecursion IsPart (in_order parts)
unfolding in_order
ordered_parts parts all =
    append_parts (parts_of Biba parts ++ parts_of Mls parts ++ parts_of Lomac parts) (parts_of Partition parts)
    (append_parts (parts_of Biba parts ++ parts_of Mls parts) (parts_of Lomac parts)
    (append_parts (parts_of Biba parts) (parts_of Mls parts) (only Biba parts all) (only Mls parts all))
    (only Lomac parts all))
    (only Partition parts all)

some_behind : (front : Parts) (part : Part) (back : Parts) → front ++ part ∷ back ≢ []
some_behind [] part back none = cc
some_behind (first ∷ front) part back none = cc

some_front : (front back : Parts) → front ≢ [] → front ++ back ≢ []
some_front [] back some none = some refl
some_front (first ∷ front) back some none = cc

some_with : (policy : Module) (value : LabelValue) (parts : Parts) → IsValueOf policy value → in_order ((policy, value) ∷ parts) ≢ []
unfolding in_order
some_with Biba value parts is = λ none. cc
some_with Mls value parts is =
    some_front (parts_of Biba parts ++ (Mls, value) ∷ parts_of Mls parts ++ parts_of Lomac parts) (parts_of Partition parts)
    (some_front (parts_of Biba parts ++ (Mls, value) ∷ parts_of Mls parts) (parts_of Lomac parts) (some_behind (parts_of Biba parts) (Mls, value) (parts_of Mls parts)))
some_with Lomac value parts is =
    some_front (parts_of Biba parts ++ parts_of Mls parts ++ (Lomac, value) ∷ parts_of Lomac parts) (parts_of Partition parts)
    (some_behind (parts_of Biba parts ++ parts_of Mls parts) (Lomac, value) (parts_of Lomac parts))
some_with Partition value parts is = some_behind (parts_of Biba parts ++ parts_of Mls parts ++ parts_of Lomac parts) (Partition, value) (parts_of Partition parts)
some_with other value parts is = absurd is

some_in_order : (parts : Parts) → AllByRecursion IsPart parts → parts ≢ [] → in_order parts ≢ []
some_in_order [] all some = absurd (some refl)
some_in_order (part ∷ parts) all some = some_with part.0 part.1 parts all.0

-- ---- the whole text
text_is : (ordered : Parts) → ordered ≢ [] → elements_text (map element_text ordered) ≡ join_with_byte 44 (map element_text ordered)
text_is [] some = absurd (some refl)
text_is (part ∷ ordered) some = refl

some_elements : (ordered : Parts) → ordered ≢ [] → map element_text ordered ≢ []
some_elements [] some none = some refl
some_elements (part ∷ ordered) some none = cc

pub canonical_spells : (parts : Parts) → AreParts parts → parts ≢ [] → SpellsRequest (canonical_label parts) (request_from parts)
unfolding canonical_label
canonical_spells parts are some =
    let ordered = in_order parts in
    let here = some_in_order parts are.each some in
    let all = ordered_parts parts are.each in
    record {
      elements = map element_text ordered;
      some = some_elements ordered here;
      parted = text_is ordered here;
      whole = all_free ordered all;
      each = subst (SpellElements (map element_text ordered) no_request) (asked_in_order parts are) (all_spell no_request ordered all);
    }
