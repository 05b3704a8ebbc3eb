-- The part of a module in a label, by the module's place in the list.
use Rattle.std.proofs.Common.{◌≡◌, ℕ, ◌<◌, List, length, get_or, Some, None, option_map, ap, sym, ◌∙◌, subst}
use Rattle.std.specs.Prelude.{find, position, slice_index_or}
use Rattle.std.specs.List.{position_or_len}
use Rattle.std.proofs.lemmas.Bool.{ltb-true}
use Rattle.mf_elem.specs.declared.label.LabelValue.{LabelValue}
use Rattle.mf_elem.specs.declared.label.LabelValue.TheVariants.{Unset}
use Rattle.mf_errno.specs.declared.module.Module.{Module}
use Rattle.mf_list.specs.Asked.{slot_of}
use Rattle.mf_policy.specs.declared.registration.Registration.{Registration}
use Rattle.mf_policy.specs.declared.spec.Spec.TheVariants as means
use Rattle.mf_policy.specs.Registration.{Entry, is_of}
use Rattle.mf_policy.proofs.Entries.{entry_at, no_entry}
use Rattle.mf_policy.proofs.Places.{any_by_place, found, not_found}
use Rattle.mf_plan.specs.declared.reply.LabelPart.{LabelPart}
use Rattle.mf_plan.specs.Payloads.{label_part, shown}

abbrev part_by : Module → List LabelValue → Registration → LabelPart
part_by m label r = record { «module» = m; value = shown (slice_index_or label (slot_of r) Unset) }

pub part_at : (m : Module) (listed : List Entry) (label : List LabelValue) (i : ℕ) (r : Registration) → position (is_of m) listed ≡ Some i
    → ((other : Entry) → r ≡ (slice_index_or listed i other).0) → Some (part_by m label r) ≡ label_part listed label m
part_at m listed label i r at is =
    let place = found (is_of m) listed i at in
    let within : position_or_len (is_of m) listed < length listed =
    ltb-true (position_or_len (is_of m) listed) (length listed) (sym (any_by_place (is_of m) listed) ∙ place.1) in
    let here : find (is_of m) listed ≡ Some (get_or listed i (r, means.Mls)) =
    subst (λ (k : ℕ). find (is_of m) listed ≡ Some (get_or listed k (r, means.Mls))) place.0 (entry_at m listed (r, means.Mls) within) in
    ap (λ (x : Registration). Some (part_by m label x)) (is (r, means.Mls))
    ∙ sym (ap (option_map (λ (entry : Entry). part_by m label entry.0)) here)

pub no_part : (m : Module) (listed : List Entry) (label : List LabelValue) → position (is_of m) listed ≡ None → None ≡ label_part listed label m
no_part m listed label at = sym (ap (option_map (λ (entry : Entry). part_by m label entry.0)) (no_entry m listed (not_found (is_of m) listed at)))
