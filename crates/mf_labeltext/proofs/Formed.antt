-- What a label text asks for is of the ranges that there are.
use Rattle.std.proofs.Common.{◌≡◌, ℕ, ◌≤◌, true, List, [], ◌∷◌, Option, Some, None, Result, Ok, Err, IfOk, refl, sym, subst, arith, inl, inr}
use Rattle.std.specs.FinSet as set
use Rattle.std.specs.FinSet.{FinSet}
use Rattle.std.specs.Ordering.{nat_cmp}
use Rattle.mf_elem.specs.OfSets.{comps_of}
use Rattle.mf_elem.specs.Bounds.{AreWords, IsElement, IsAskedLabel, IsRequest}
use Rattle.mf_elem.specs.Elem.{is_plain}
use Rattle.mf_elem.specs.Label.{no_request}
use Rattle.mf_elem.specs.declared.comps.Comps.{Comps}
use Rattle.mf_elem.specs.declared.elem.Elem.{Elem}
use Rattle.mf_elem.specs.declared.elem.Elem.TheVariants.{Low, High, Equal, Grade}
use Rattle.mf_elem.specs.declared.label.RangeLabel.{RangeLabel}
use Rattle.mf_elem.specs.declared.label.Request.{Request}
use Rattle.mf_elem.proofs.CompsLaws.{set_are_words}
use Rattle.mf_labeltext.specs.LabelGrammar.{SpellsElem, SpellsParts, SpellsLabel, SpellsPlain, SpellsPartition, Asks, SpellElements, SpellsRequest}
use Rattle.mf_labeltext.specs.declared.fault.LabelFault.{LabelFault}

-- ---- compartments
comps_are_words : (comps : Comps) (s : FinSet nat_cmp) → comps ≡ comps_of s → AreWords comps.words
comps_are_words comps s is = subst (λ comps. AreWords comps.words) (sym is) (set_are_words s)

-- ---- elements
elem_formed : (text : List ℕ) (element : Elem) → SpellsElem text element → IsElement element
elem_formed text Low spells = tt
elem_formed text High spells = tt
elem_formed text Equal spells = tt
elem_formed text (Grade grade comps) (inl alone) = (alone.0.below, comps_are_words comps set.empty alone.1)
elem_formed text (Grade grade comps) (inr both) = (both.3.below, comps_are_words comps (set.from_list both.4.numbers) both.4.set)

parts_formed : (text : List ℕ) (effective : Option Elem) (range : Option (Elem × Elem)) → SpellsParts text effective range → IsAskedLabel (record { effective = effective; range = range })
parts_formed text None None spells = absurd spells
parts_formed text (Some element) None spells = record { effective = elem_formed text element spells; range = tt; not_empty = refl }
parts_formed text None (Some ends) spells = record { effective = tt; range = (elem_formed spells.0 ends.0 spells.3, elem_formed spells.1 ends.1 spells.4); not_empty = refl }
parts_formed text (Some element) (Some ends) spells =
    let range = spells.4 in
    record { effective = elem_formed spells.0 element spells.3; range = (elem_formed range.0 ends.0 range.3, elem_formed range.1 ends.1 range.4); not_empty = refl }

label_formed : (text : List ℕ) (label : RangeLabel) → SpellsLabel text label → IsAskedLabel label
label_formed text label spells = parts_formed text label.effective label.range spells

plain_formed : (text : List ℕ) (element : Elem) → SpellsPlain text element → IsElement element × (is_plain element ≡ true)
plain_formed text element spells = (elem_formed text element spells.0, spells.1)

partition_formed : (text : List ℕ) (n : ℕ) → SpellsPartition text n → n ≤ 2147483647
partition_formed text n (inl none) = let zero : n ≡ 0 = none.1 in omega (arith, zero)
partition_formed text n (inr spells) = spells.below

-- ---- one element after another
asked_formed : (name value : List ℕ) (before after : Request) → IsRequest before → Asks name value before after → IsRequest after
asked_formed name value before after is (inl biba) = subst IsRequest (sym biba.3) (record { biba = label_formed value biba.1 biba.2; mls = is.mls; lomac = is.lomac; partition = is.partition })
asked_formed name value before after is (inr (inl mls)) = subst IsRequest (sym mls.3) (record { biba = is.biba; mls = label_formed value mls.1 mls.2; lomac = is.lomac; partition = is.partition })
asked_formed name value before after is (inr (inr (inl lomac))) = subst IsRequest (sym lomac.3) (record { biba = is.biba; mls = is.mls; lomac = plain_formed value lomac.1 lomac.2; partition = is.partition })
asked_formed name value before after is (inr (inr (inr (inl partition)))) =
    subst IsRequest (sym partition.3) (record { biba = is.biba; mls = is.mls; lomac = is.lomac; partition = partition_formed value partition.1 partition.2 })
asked_formed name value before after is (inr (inr (inr (inr other)))) = subst IsRequest (sym other.1) (record { biba = is.biba; mls = is.mls; lomac = is.lomac; partition = is.partition })

elements_formed : (elements : List (List ℕ)) (before after : Request) → IsRequest before → SpellElements elements before after → IsRequest after
elements_formed [] before after is spell = subst IsRequest spell is
elements_formed (element ∷ elements) before after is spell =
    let first = spell.1 in
    elements_formed elements spell.0 after (asked_formed first.0 first.1 before spell.0 is first.4) spell.2

-- ---- whole texts
pub spelled_is_request : (text : List ℕ) (request : Request) → SpellsRequest text request → IsRequest request
spelled_is_request text request spells = elements_formed spells.elements no_request request (record { biba = tt; mls = tt; lomac = tt; partition = tt }) spells.each

pub read_is_request : (read : Result Request LabelFault) (text : List ℕ) → ((request : Request) → read ≡ Ok request → SpellsRequest text request) → IfOk read IsRequest
read_is_request (Ok request) text spells = spelled_is_request text request (spells request refl)
read_is_request (Err fault) text spells = tt
