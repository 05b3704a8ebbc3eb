-- What is shown of a label fits its fields: the values of the listed policies that label its entity, each in the slot of its policy.
use Rattle.std.proofs.Common.{◌≡◌, ℕ, ◌≤◌, true, false, List, [], ◌∷◌, ◌++◌, append_assoc, map, Option, Some, None, option_map, slice_index_or, refl, ap, sym, ◌∙◌, subst, arith}
use Rattle.std.proofs.lemmas.Bool.{and_parts}
use Rattle.std.specs.Prelude.{find, unwrap_or, IfSome}
use Rattle.std.specs.List.{AllByRecursion, cons_option}
use Rattle.mf_errno.specs.declared.module.Module.{Module}
use Rattle.mf_errno.specs.declared.module.Module.TheVariants.{Biba, Mls, Lomac, Partition}
use Rattle.mf_errno.proofs.Modules.{same_module-is}
use Rattle.mf_elem.specs.Bounds.{IsAskedLabel, IsElement}
use Rattle.mf_elem.specs.declared.elem.Elem.{Elem}
use Rattle.mf_elem.specs.Elem.{is_plain}
use Rattle.mf_elem.specs.Label.{element_alone, is_plain_label}
use Rattle.mf_elem.specs.declared.label.LabelValue.{LabelValue}
use Rattle.mf_elem.specs.declared.label.LabelValue.TheVariants.{Unset, Range, Number}
use Rattle.mf_elem.specs.declared.label.RangeLabel.{RangeLabel}
use Rattle.mf_elem.specs.declared.label.TheConstants.{LAST_PARTITION}
use Rattle.mf_item.specs.declared.view.Kind.{Kind}
use Rattle.mf_item.specs.declared.view.Kind.TheVariants as kinds
use Rattle.mf_policy.specs.declared.modules.Labelling.{Labelling}
use Rattle.mf_policy.specs.declared.modules.Labelling.TheVariants.{Ranges, Partitions}
use Rattle.mf_policy.specs.Modules.{facts_of, wants_slot}
use Rattle.mf_policy.specs.Registration.{Entry, is_of}
use Rattle.mf_list.specs.Asked.{slot_of}
use Rattle.mf_plan.specs.declared.reply.LabelPart.{LabelPart}
use Rattle.mf_plan.specs.Payloads.{label_part, label_parts, shown}
use Rattle.mf_spelling.specs.Canonical.{number_part, range_part}
use Rattle.mf_hist.specs.Lines.{IsLabel}
use Rattle.mf_reading.proofs.Bounded.{AllFit, Fits, FitsLabelling, FitsSlot, IsSlotted, IsWhole}
use Rattle.mf_lifetimes.proofs.Files.{all_both}
use Rattle.mf_reading.proofs.Lists.{all_found}

-- the parts that are shown

abbrev part_with : Module → LabelValue → LabelPart
part_with m value = record { «module» = m; value = value }

abbrev shown_part : Module × LabelValue → LabelPart
shown_part part = part_with part.0 part.1

abbrev ranged : Module → Option RangeLabel → Option LabelPart
ranged m asked = option_map (λ (label : RangeLabel). part_with m (Range label)) asked

abbrev counted : Option ℕ → Option LabelPart
counted asked = option_map (λ (n : ℕ). part_with Partition (Number n)) asked

-- they are those that a request asks for, one after another

cons_ranged : (m : Module) (asked : Option RangeLabel) (parts : List LabelPart) (pairs : List (Module × LabelValue)) → parts ≡ map shown_part pairs
    → cons_option (ranged m asked) parts ≡ map shown_part (range_part m asked ++ pairs)
cons_ranged m None parts pairs is = is
cons_ranged m (Some label) parts pairs is = ap (λ (more : List LabelPart). part_with m (Range label) ∷ more) is

counted_alone : (asked : Option ℕ) → cons_option (counted asked) [] ≡ map shown_part (number_part asked)
counted_alone None = refl
counted_alone (Some n) = refl

all_parts : (biba mls lomac : Option RangeLabel) (partition : Option ℕ)
    → cons_option (ranged Biba biba) (cons_option (ranged Mls mls) (cons_option (ranged Lomac lomac) (cons_option (counted partition) [])))
    ≡ map shown_part (range_part Biba biba ++ range_part Mls mls ++ range_part Lomac lomac ++ number_part partition)
all_parts biba mls lomac partition =
    let ranges = range_part Biba biba ++ range_part Mls mls in
    let others = range_part Lomac lomac ++ number_part partition in
    cons_ranged Biba biba _ _ (cons_ranged Mls mls _ _ (cons_ranged Lomac lomac _ _ (counted_alone partition)))
    ∙ ap (map shown_part) (sym (append_assoc ranges (range_part Lomac lomac) (number_part partition) ∙ append_assoc (range_part Biba biba) (range_part Mls mls) others))

-- The value of one policy

slot_fits : (m : Module) (label : List LabelValue) (slot : Option ℕ) (k : ℕ) → slot ≡ Some k → FitsSlot m slot label
    → FitsLabelling (facts_of m).labels (slice_index_or label (unwrap_or slot 0) Unset)
slot_fits m label None k is fits = cc
slot_fits m label (Some slot) k is fits = fits

module _ (listed : List Entry) (label : List LabelValue) (fits : AllFit listed label) (slotted : AllByRecursion (λ entry. IsSlotted entry.0) listed) where
  -- the value in the slot of a listed policy that labels entities
  own_fits : (m : Module) (entry : Entry) → wants_slot m ≡ true → find (is_of m) listed ≡ Some entry
      → FitsLabelling (facts_of m).labels (slice_index_or label (slot_of entry.0) Unset)
  own_fits m entry wants found =
      let here = all_found (λ (x : Entry). Fits label x.0 × IsSlotted x.0) (is_of m) listed entry
      (all_both (λ (x : Entry). Fits label x.0) (λ (x : Entry). IsSlotted x.0) listed fits slotted) found in
      let is : m ≡ entry.0.module = same_module-is m entry.0.module here.1 in
      let slot = here.0.1 (sym (ap wants_slot is) ∙ wants) in
      subst (λ (n : Module). FitsLabelling (facts_of n).labels (slice_index_or label (slot_of entry.0) Unset)) (sym is)
      (slot_fits entry.0.module label entry.0.slot slot.0 slot.1 here.0.0)

  -- what is shown of a module's policy, by its value
  shows : (m : Module) (entry : Entry) (value : LabelValue) → find (is_of m) listed ≡ Some entry → slice_index_or label (slot_of entry.0) Unset ≡ value
      → label_part listed label m ≡ Some (part_with m (shown value))
  shows m entry value found is =
      ap (option_map (λ (x : Entry). part_with m (shown (slice_index_or label (slot_of x.0) Unset)))) found ∙ ap (λ (v : LabelValue). Some (part_with m (shown v))) is

  shows_nothing : (m : Module) → find (is_of m) listed ≡ None → label_part listed label m ≡ None
  shows_nothing m found = ap (option_map (λ (x : Entry). part_with m (shown (slice_index_or label (slot_of x.0) Unset)))) found

  -- what a policy with ranges shows
  record ShowsRange (m : Module) : Type 0 where
    asked : Option RangeLabel
    is : label_part listed label m ≡ ranged m asked
    bounds : IfSome asked IsAskedLabel

  shows_range : (m : Module) (process other : RangeLabel) → wants_slot m ≡ true → (facts_of m).labels ≡ Ranges process other → ShowsRange m
  shows_range m process other wants labels = one (find (is_of m) listed) refl
    where
      asked_label : (own : RangeLabel) → IsWhole own → IsAskedLabel own
      asked_label own whole = record { effective = whole.effective; range = whole.range; not_empty = rw whole.there refl }

      by_value : (entry : Entry) (value : LabelValue) → find (is_of m) listed ≡ Some entry → slice_index_or label (slot_of entry.0) Unset ≡ value
          → FitsLabelling (Ranges process other) value → ShowsRange m
      by_value entry Unset found is fit = absurd fit
      by_value entry (Range own) found is fit = record { asked = Some own; is = shows m entry (Range own) found is; bounds = asked_label own fit }
      by_value entry (Number n) found is fit = absurd fit

      one : (found : Option Entry) → find (is_of m) listed ≡ found → ShowsRange m
      one None found = record { asked = None; is = shows_nothing m found; bounds = tt }
      one (Some entry) found =
          by_value entry (slice_index_or label (slot_of entry.0) Unset) found refl
          (subst (λ (by : Labelling). FitsLabelling by (slice_index_or label (slot_of entry.0) Unset)) labels (own_fits m entry wants found))

  -- what the policy of partitions shows
  record ShowsNumber : Type 0 where
    asked : Option ℕ
    is : label_part listed label Partition ≡ counted asked
    bounds : IfSome asked (λ n. n ≤ LAST_PARTITION)

  shows_number : ShowsNumber
  shows_number = one (find (is_of Partition) listed) refl
    where
      by_value : (entry : Entry) (value : LabelValue) → find (is_of Partition) listed ≡ Some entry → slice_index_or label (slot_of entry.0) Unset ≡ value
          → FitsLabelling Partitions value → ShowsNumber
      by_value entry Unset found is fit = record { asked = Some 0; is = shows Partition entry Unset found is; bounds = omega arith }
      by_value entry (Range own) found is fit = absurd fit
      by_value entry (Number n) found is fit = record { asked = Some n; is = shows Partition entry (Number n) found is; bounds = fit }

      one : (found : Option Entry) → find (is_of Partition) listed ≡ found → ShowsNumber
      one None found = record { asked = None; is = shows_nothing Partition found; bounds = tt }
      one (Some entry) found = by_value entry (slice_index_or label (slot_of entry.0) Unset) found refl (own_fits Partition entry refl found)

  -- what the policy of elements shows
  record ShowsElement : Type 0 where
    asked : Option Elem
    is : label_part listed label Lomac ≡ ranged Lomac (option_map element_alone asked)
    bounds : IfSome asked (λ element. IsElement element × (is_plain element ≡ true))

  shows_element : ShowsElement
  shows_element = one (find (is_of Lomac) listed) refl
    where
      by_parts : (entry : Entry) (effective : Option Elem) (range : Option (Elem × Elem)) → find (is_of Lomac) listed ≡ Some entry
          → slice_index_or label (slot_of entry.0) Unset ≡ Range (record { effective = effective; range = range })
          → IsWhole (record { effective = effective; range = range }) → is_plain_label (record { effective = effective; range = range }) ≡ true → ShowsElement
      by_parts entry None range found is whole plain = cc
      by_parts entry (Some element) (Some ends) found is whole plain =
          let never : false ≡ true = (and_parts (is_plain element) false plain).1 in cc
      by_parts entry (Some element) None found is whole plain = record {
        asked = Some element;
        is = shows Lomac entry (Range (element_alone element)) found is;
        bounds = (whole.effective, (and_parts (is_plain element) true plain).0);
      }

      by_value : (entry : Entry) (value : LabelValue) → find (is_of Lomac) listed ≡ Some entry → slice_index_or label (slot_of entry.0) Unset ≡ value
          → FitsLabelling (facts_of Lomac).labels value → ShowsElement
      by_value entry Unset found is fit = absurd fit
      by_value entry (Range own) found is fit = by_parts entry own.effective own.range found is fit.0 fit.1
      by_value entry (Number n) found is fit = absurd fit

      one : (found : Option Entry) → find (is_of Lomac) listed ≡ found → ShowsElement
      one None found = record { asked = None; is = shows_nothing Lomac found; bounds = tt }
      one (Some entry) found = by_value entry (slice_index_or label (slot_of entry.0) Unset) found refl (own_fits Lomac entry refl found)

  biba_shown : ShowsRange Biba
  biba_shown = shows_range Biba _ _ refl refl

  mls_shown : ShowsRange Mls
  mls_shown = shows_range Mls _ _ refl refl

  abbrev lomac_shown : Option RangeLabel
  lomac_shown = option_map element_alone shows_element.asked

  -- the parts of the policies that label every entity, in front of that of another
  parts_are : (biba mls lomac partition : Option LabelPart) → label_part listed label Biba ≡ biba → label_part listed label Mls ≡ mls → label_part listed label Lomac ≡ lomac
      → cons_option (label_part listed label Biba) (cons_option (label_part listed label Mls) (cons_option (label_part listed label Lomac) (cons_option partition [])))
      ≡ cons_option biba (cons_option mls (cons_option lomac (cons_option partition [])))
  parts_are biba mls lomac partition is_biba is_mls is_lomac = rw (is_biba, is_mls, is_lomac) refl

  with_partition : IsLabel
      (cons_option (label_part listed label Biba) (cons_option (label_part listed label Mls) (cons_option (label_part listed label Lomac) (cons_option (label_part listed label Partition) []))))
  with_partition = record {
    request = record { biba = biba_shown.asked; mls = mls_shown.asked; lomac = shows_element.asked; partition = shows_number.asked; other = false };
    asked =
        ap (λ (part : Option LabelPart).
        cons_option (label_part listed label Biba) (cons_option (label_part listed label Mls) (cons_option (label_part listed label Lomac) (cons_option part [])))) shows_number.is
        ∙ parts_are (ranged Biba biba_shown.asked) (ranged Mls mls_shown.asked) (ranged Lomac lomac_shown) (counted shows_number.asked) biba_shown.is mls_shown.is shows_element.is
        ∙ all_parts biba_shown.asked mls_shown.asked lomac_shown shows_number.asked;
    fits = record { biba = biba_shown.bounds; mls = mls_shown.bounds; lomac = shows_element.bounds; partition = shows_number.bounds };
  }

  without_partition : IsLabel (cons_option (label_part listed label Biba) (cons_option (label_part listed label Mls) (cons_option (label_part listed label Lomac) [])))
  without_partition = record {
    request = record { biba = biba_shown.asked; mls = mls_shown.asked; lomac = shows_element.asked; partition = None; other = false };
    asked =
        parts_are (ranged Biba biba_shown.asked) (ranged Mls mls_shown.asked) (ranged Lomac lomac_shown) None biba_shown.is mls_shown.is shows_element.is
        ∙ all_parts biba_shown.asked mls_shown.asked lomac_shown None;
    fits = record { biba = biba_shown.bounds; mls = mls_shown.bounds; lomac = shows_element.bounds; partition = tt };
  }

  -- the parts of a label, by the kind of its entity
  pub parts_fit : (kind : Kind) → IsLabel (label_parts listed kind label)
  parts_fit kinds.Process = with_partition
  parts_fit kinds.Vnode = without_partition
  parts_fit kinds.Pipe = without_partition
  parts_fit kinds.Socket = with_partition
