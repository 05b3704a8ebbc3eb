-- Whole texts: what is read is spelled, and what is spelled is read.
use Rattle.std.proofs.Common.{◌≡◌, ◌≢◌, ℕ, ◌+◌, Bool, true, false, cond, ◌&&◌, ◌||◌, eqb, leb, List, [], ◌∷◌, ◌++◌, length, Option, Some, None, Result, Ok, Err, refl, sym, ap, ◌∙◌, arith, inl, inr, codes}
use Rattle.std.proofs.lemmas.Bool.{eqb-true, eq-eqb, leb-true, le-leb, false_from_ne_true}
use Rattle.std.proofs.lemmas.Slice.Eq.{bytes_eq-Decides}
use Rattle.std.specs.List.{list_all, AllByRecursion}
use Rattle.std.specs.Option.{ok_or}
use Rattle.std.specs.Str.{bytes_eq}
use Rattle.mf_elem.specs.declared.label.Request.{Request}
use Rattle.mf_labeltext.specs.LabelGrammar.{IsNameByte, IsPolicyName, Asks, SpellsElement, SpellElements, SpellsRequest}
use Rattle.mf_elem.specs.Label.{no_request}
use Rattle.mf_text.specs.Results.{and_then}
use Rattle.std.specs.Char.{is_ascii_digit, is_ascii_lowercase}
use Rattle.mf_labeltext.specs.Reading.{cut, parts, label_in, plain_in, partition_in, with_part, is_policy_name, element_from_halves, element_in, elements_in, request_in, ◌>>=◌}
use Rattle.mf_labeltext.specs.declared.fault.LabelFault.{LabelFault}
use Rattle.mf_labeltext.specs.declared.fault.LabelFault.TheVariants.{NoSlash, BadValue}
use Rattle.mf_labeltext.proofs.Cutting.{IsFree, cut_is, cut_free, parts_free, parts_are_some, parts_join, join_parts}
use Rattle.mf_labeltext.proofs.Numbers.{bind_some, some_is}
use Rattle.mf_labeltext.proofs.Spelling.{chosen, either, each_true, both_true, same_text, label_spells, spells_label, plain_spells, spells_plain, partition_spells, spells_partition}

-- ---- names
abbrev pub is_policy_name_byte : ℕ → Bool
is_policy_name_byte byte = is_ascii_lowercase byte || (is_ascii_digit byte || eqb byte 95)

name_byte_is : (byte : ℕ) → is_policy_name_byte byte ≡ true → IsNameByte byte
name_byte_is byte is =
    elim (either (leb 97 byte && leb byte 122) ((leb 48 byte && leb byte 57) || eqb byte 95) is) [
      | inl letter ↦ let range = each_true (leb 97 byte) (leb byte 122) letter in inl (leb-true 97 byte range.0, leb-true byte 122 range.1)
      | inr others ↦ elim (either (leb 48 byte && leb byte 57) (eqb byte 95) others) [
        | inl digit ↦ let range = each_true (leb 48 byte) (leb byte 57) digit in inr (inl (leb-true 48 byte range.0, leb-true byte 57 range.1))
        | inr underscore ↦ inr (inr (eqb-true byte 95 underscore))
      ]
    ]

or_left : (a b : Bool) → a ≡ true → (a || b) ≡ true
or_left true b is = refl
or_left false b is = absurd cc

or_right : (a b : Bool) → b ≡ true → (a || b) ≡ true
or_right true b is = refl
or_right false b is = is

pub is_policy_name_byte_for : (byte : ℕ) → IsNameByte byte → is_policy_name_byte byte ≡ true
is_policy_name_byte_for byte (inl letter) =
    or_left (leb 97 byte && leb byte 122) ((leb 48 byte && leb byte 57) || eqb byte 95) (both_true (leb 97 byte) (leb byte 122) (le-leb 97 byte letter.0) (le-leb byte 122 letter.1))
is_policy_name_byte_for byte (inr (inl digit)) =
    or_right (leb 97 byte && leb byte 122) ((leb 48 byte && leb byte 57) || eqb byte 95)
    (or_left (leb 48 byte && leb byte 57) (eqb byte 95) (both_true (leb 48 byte) (leb byte 57) (le-leb 48 byte digit.0) (le-leb byte 57 digit.1)))
is_policy_name_byte_for byte (inr (inr underscore)) =
    or_right (leb 97 byte && leb byte 122) ((leb 48 byte && leb byte 57) || eqb byte 95)
    (or_right (leb 48 byte && leb byte 57) (eqb byte 95) (eq-eqb byte 95 underscore))

pub name_bytes_are : (text : List ℕ) → list_all is_policy_name_byte text ≡ true → AllByRecursion IsNameByte text
name_bytes_are [] all = tt
name_bytes_are (c ∷ cs) all = let parts = each_true (is_policy_name_byte c) (list_all is_policy_name_byte cs) all in (name_byte_is c parts.0, name_bytes_are cs parts.1)

are_name_bytes : (text : List ℕ) → AllByRecursion IsNameByte text → list_all is_policy_name_byte text ≡ true
are_name_bytes [] all = refl
are_name_bytes (c ∷ cs) all = both_true (is_policy_name_byte c) (list_all is_policy_name_byte cs) (is_policy_name_byte_for c all.0) (are_name_bytes cs all.1)

pub name_is : (text : List ℕ) → is_policy_name text ≡ true → IsPolicyName text
name_is [] is = absurd cc
name_is (c ∷ cs) is = (λ e. cc, name_bytes_are (c ∷ cs) is)

pub is_policy_name_for : (text : List ℕ) → IsPolicyName text → is_policy_name text ≡ true
is_policy_name_for [] name = absurd (name.0 refl)
is_policy_name_for (c ∷ cs) name = are_name_bytes (c ∷ cs) name.1

no_slash_byte : (byte : ℕ) → IsNameByte byte → byte ≢ 47
no_slash_byte byte (inl letter) same = omega arith
no_slash_byte byte (inr (inl digit)) same = omega arith
no_slash_byte byte (inr (inr underscore)) same = omega arith

pub no_slash : (text : List ℕ) → AllByRecursion IsNameByte text → IsFree 47 text
no_slash [] all = tt
no_slash (c ∷ cs) all = (no_slash_byte c all.0, no_slash cs all.1)

-- ---- the element of a name and a value
differ : (text word : List ℕ) → bytes_eq text word ≡ false → text ≢ word
differ text word is same = let e : bytes_eq text word ≡ true = (bytes_eq-Decides text word).1 same in cc

pub differs : (text word : List ℕ) → text ≢ word → bytes_eq text word ≡ false
differs text word other = false_from_ne_true (bytes_eq text word) (λ is. other (same_text text word is))

abbrev if_partition : List ℕ → List ℕ → Request → Option Request
if_partition name value request = cond (bytes_eq name (codes "partition")) (partition_in value >>= λ n. Some (record request { partition = Some n })) (Some (record request { other = true }))

abbrev if_lomac : List ℕ → List ℕ → Request → Option Request
if_lomac name value request = cond (bytes_eq name (codes "lomac")) (plain_in value >>= λ element. Some (record request { lomac = Some element })) (if_partition name value request)

abbrev if_mls : List ℕ → List ℕ → Request → Option Request
if_mls name value request = cond (bytes_eq name (codes "mls")) (label_in value >>= λ label. Some (record request { mls = Some label })) (if_lomac name value request)

partition_asks : (name value : List ℕ) (before after : Request) → name ≢ codes "biba" → name ≢ codes "mls" → name ≢ codes "lomac" → if_partition name value before ≡ Some after → Asks name value before after
partition_asks name value before after no_biba no_mls no_lomac is =
    elim (chosen (bytes_eq name (codes "partition")) (partition_in value >>= λ n. Some (record before { partition = Some n })) (Some (record before { other = true })) (Some after) is) [
      | inl partition ↦
          let read = bind_some (partition_in value) (λ n. Some (record before { partition = Some n })) after partition.1 in
          inr (inr (inr (inl (same_text name (codes "partition") partition.0, read.0, partition_spells value read.0 read.1, sym (some_is (record before { partition = Some read.0 }) after read.2)))))
      | inr others ↦ inr (inr (inr (inr ((no_biba, no_mls, no_lomac, differ name (codes "partition") others.0), sym (some_is (record before { other = true }) after others.1)))))
    ]

lomac_asks : (name value : List ℕ) (before after : Request) → name ≢ codes "biba" → name ≢ codes "mls" → if_lomac name value before ≡ Some after → Asks name value before after
lomac_asks name value before after no_biba no_mls is =
    elim (chosen (bytes_eq name (codes "lomac")) (plain_in value >>= λ element. Some (record before { lomac = Some element })) (if_partition name value before) (Some after) is) [
      | inl lomac ↦
          let read = bind_some (plain_in value) (λ element. Some (record before { lomac = Some element })) after lomac.1 in
          inr (inr (inl (same_text name (codes "lomac") lomac.0, read.0, plain_spells value read.0 read.1, sym (some_is (record before { lomac = Some read.0 }) after read.2))))
      | inr others ↦ partition_asks name value before after no_biba no_mls (differ name (codes "lomac") others.0) others.1
    ]

mls_asks : (name value : List ℕ) (before after : Request) → name ≢ codes "biba" → if_mls name value before ≡ Some after → Asks name value before after
mls_asks name value before after no_biba is =
    elim (chosen (bytes_eq name (codes "mls")) (label_in value >>= λ label. Some (record before { mls = Some label })) (if_lomac name value before) (Some after) is) [
      | inl mls ↦
          let read = bind_some (label_in value) (λ label. Some (record before { mls = Some label })) after mls.1 in
          inr (inl (same_text name (codes "mls") mls.0, read.0, label_spells value read.0 read.1, sym (some_is (record before { mls = Some read.0 }) after read.2)))
      | inr others ↦ lomac_asks name value before after no_biba (differ name (codes "mls") others.0) others.1
    ]

pub part_asks : (name value : List ℕ) (before after : Request) → with_part name value before ≡ Some after → Asks name value before after
unfolding with_part
part_asks name value before after is =
    elim (chosen (bytes_eq name (codes "biba")) (label_in value >>= λ label. Some (record before { biba = Some label })) (if_mls name value before) (Some after) is) [
      | inl biba ↦
          let read = bind_some (label_in value) (λ label. Some (record before { biba = Some label })) after biba.1 in
          inl (same_text name (codes "biba") biba.0, read.0, label_spells value read.0 read.1, sym (some_is (record before { biba = Some read.0 }) after read.2))
      | inr others ↦ mls_asks name value before after (differ name (codes "biba") others.0) others.1
    ]

pub asks_part : (name value : List ℕ) (before after : Request) → Asks name value before after → with_part name value before ≡ Some after
unfolding with_part
asks_part name value before after (inl biba) =
    ap (λ n. with_part n value before) biba.0
    ∙ ap (λ read. read >>= λ label. Some (record before { biba = Some label })) (spells_label value biba.1 biba.2)
    ∙ ap Some (sym biba.3)
asks_part name value before after (inr (inl mls)) =
    ap (λ n. with_part n value before) mls.0
    ∙ ap (λ read. read >>= λ label. Some (record before { mls = Some label })) (spells_label value mls.1 mls.2)
    ∙ ap Some (sym mls.3)
asks_part name value before after (inr (inr (inl lomac))) =
    ap (λ n. with_part n value before) lomac.0
    ∙ ap (λ read. read >>= λ element. Some (record before { lomac = Some element })) (spells_plain value lomac.1 lomac.2)
    ∙ ap Some (sym lomac.3)
asks_part name value before after (inr (inr (inr (inl partition)))) =
    ap (λ n. with_part n value before) partition.0
    ∙ ap (λ read. read >>= λ n. Some (record before { partition = Some n })) (spells_partition value partition.1 partition.2)
    ∙ ap Some (sym partition.3)
asks_part name value before after (inr (inr (inr (inr other)))) =
    rw (differs name (codes "biba") other.0.0) (rw (differs name (codes "mls") other.0.1) (rw (differs name (codes "lomac") other.0.2) (rw (differs name (codes "partition") other.0.3) (ap Some (sym other.1)))))

-- ---- elements
ok_or_is : (read : Option Request) (fault : LabelFault) (after : Request) → ok_or read fault ≡ Ok after → read ≡ Some after
ok_or_is None fault after is = absurd cc
ok_or_is (Some next) fault after is = cc

halves_spell : (place : ℕ) (element : List ℕ) (before after : Request) (halves : Option (List ℕ × List ℕ)) → cut 47 element ≡ halves → element_from_halves place before halves ≡ Ok after → SpellsElement element before after
halves_spell place element before after None none is = absurd cc
halves_spell place element before after (Some halves) some is =
    elim (is_policy_name halves.0) as (λ b. is_policy_name halves.0 ≡ b → cond b (ok_or (with_part halves.0 halves.1 before) (BadValue (place + length halves.0 + 1))) (Err (NoSlash place)) ≡ Ok after → SpellsElement element before after) [
      | true ↦ λ name is.
          let parted = cut_is 47 element halves.0 halves.1 some in (
            halves.0,
            halves.1,
            parted.whole,
            name_is halves.0 name,
            part_asks halves.0 halves.1 before after (ok_or_is (with_part halves.0 halves.1 before) (BadValue (place + length halves.0 + 1)) after is),
          )
      | false ↦ λ name is. absurd cc
    ] refl is

pub element_spells : (place : ℕ) (element : List ℕ) (before after : Request) → element_in place before element ≡ Ok after → SpellsElement element before after
unfolding element_in
element_spells place [] before after is = absurd cc
element_spells place (c ∷ cs) before after is = halves_spell place (c ∷ cs) before after (cut 47 (c ∷ cs)) refl is

spells_named : (place : ℕ) (c : ℕ) (cs value : List ℕ) (before after : Request) → IsPolicyName (c ∷ cs) → Asks (c ∷ cs) value before after → element_in place before ((c ∷ cs) ++ 47 ∷ value) ≡ Ok after
unfolding element_in
spells_named place c cs value before after name asks =
    ap (element_from_halves place before) (cut_free 47 (c ∷ cs) value (no_slash (c ∷ cs) name.1))
    ∙ ap (λ b. cond b (ok_or (with_part (c ∷ cs) value before) (BadValue (place + length (c ∷ cs) + 1))) (Err (NoSlash place))) (is_policy_name_for (c ∷ cs) name)
    ∙ ap (λ read. ok_or read (BadValue (place + length (c ∷ cs) + 1))) (asks_part (c ∷ cs) value before after asks)

spells_halves : (place : ℕ) (name value : List ℕ) (before after : Request) → IsPolicyName name → Asks name value before after → element_in place before (name ++ 47 ∷ value) ≡ Ok after
spells_halves place [] value before after name asks = absurd (name.0 refl)
spells_halves place (c ∷ cs) value before after name asks = spells_named place c cs value before after name asks

pub spells_element : (place : ℕ) (element : List ℕ) (before after : Request) → SpellsElement element before after → element_in place before element ≡ Ok after
spells_element place element before after spells =
    ap (element_in place before) spells.2 ∙ spells_halves place spells.0 spells.1 before after spells.3 spells.4

-- ---- one after another
and_then_ok : (read : Result Request LabelFault) (f : Request → Result Request LabelFault) (after : Request) → and_then read f ≡ Ok after → (next : Request) × (read ≡ Ok next) × (f next ≡ Ok after)
and_then_ok (Ok next) f after is = (next, refl, is)
and_then_ok (Err fault) f after is = absurd cc

abbrev ok : Request → Result Request LabelFault
ok request = Ok request

ok_is : (x y : Request) → ok x ≡ ok y → x ≡ y
ok_is x y is = cc

elements_spell : (place : ℕ) (elements : List (List ℕ)) (before after : Request) → elements_in place before elements ≡ Ok after → SpellElements elements before after
unfolding elements_in
elements_spell place [] before after is = ok_is before after is
elements_spell place (element ∷ elements) before after is =
    let first = and_then_ok (element_in place before element) (λ next. elements_in (place + length element + 1) next elements) after is in
    (first.0, element_spells place element before first.0 first.1, elements_spell (place + length element + 1) elements first.0 after first.2)

spell_elements : (place : ℕ) (elements : List (List ℕ)) (before after : Request) → SpellElements elements before after → elements_in place before elements ≡ Ok after
unfolding elements_in
spell_elements place [] before after spells = ap Ok spells
spell_elements place (element ∷ elements) before after spells =
    ap (λ read. and_then read (λ next. elements_in (place + length element + 1) next elements)) (spells_element place element before spells.0 spells.1)
    ∙ spell_elements (place + length element + 1) elements spells.0 after spells.2

-- ---- whole texts
pub request_spells : (text : List ℕ) (request : Request) → request_in text ≡ Ok request → SpellsRequest text request
unfolding request_in
request_spells text request is =
    record { elements = parts 44 text; some = parts_are_some 44 text; parted = sym (join_parts 44 text); whole = parts_free 44 text; each = elements_spell 0 (parts 44 text) no_request request is }

pub spells_request : (text : List ℕ) (request : Request) → SpellsRequest text request → request_in text ≡ Ok request
unfolding request_in
spells_request text request spells =
    ap (λ t. elements_in 0 no_request (parts 44 t)) spells.parted
    ∙ ap (elements_in 0 no_request) (parts_join 44 spells.elements spells.some spells.whole)
    ∙ spell_elements 0 spells.elements no_request request spells.each
