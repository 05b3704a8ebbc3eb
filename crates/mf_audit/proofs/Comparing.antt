-- What payloads are compared with.
use Rattle.std.proofs.Common.{◌≡◌, ℕ, ◌+◌, ◌<◌, Bool, true, false, cond, ◌||◌, List, [], ◌∷◌, ◌++◌, map, length, get_or, take, IsTrue, Option, Some, None, option_map, refl, ap, sym, ◌∙◌}
use Rattle.std.specs.Prelude.{find, slice_index_or, unwrap_or, option_and_then}
use Rattle.std.specs.List.{list_any}
use Rattle.std.proofs.lemmas.List.{get_or-map, map_more, take_more}
use Rattle.mf_elem.specs.declared.label.LabelValue.{LabelValue}
use Rattle.mf_elem.specs.declared.label.LabelValue.TheVariants.{Unset}
use Rattle.mf_errno.specs.declared.module.Module.{Module}
use Rattle.mf_policy.specs.declared.registration.Registration.{Registration}
use Rattle.mf_policy.specs.Registration.{Entry, is_listed, is_of, slot_in}
use Rattle.mf_policy.proofs.Entries.{no_entry}
use Rattle.mf_plan.specs.declared.reply.LabelPart.{LabelPart}
use Rattle.mf_plan.specs.declared.reply.Loaded.{Loaded}
use Rattle.mf_plan.specs.Payloads.{label_part, loaded, shown}

-- The listed modules

-- what is told of a registration
abbrev pub loaded_of : Registration → Loaded
loaded_of r = record { «module» = r.module; slot = r.slot }

-- a module that isn't as it is listed
pub differs : (modules : List Loaded) (listed : List Entry) (i : ℕ) (x : Loaded) (d : Entry) (is : Bool) → i < length listed → is ≡ false
    → (get_or modules i x ≡ loaded (get_or listed i d) → IsTrue is) → modules ≡ map loaded listed → IsTrue false
differs modules listed i x d true within fails holds same = cc fails
differs modules listed i x d false within fails holds same =
    holds (ap (λ (ms : List Loaded). get_or ms i x) same ∙ get_or-map loaded listed i d x within)

-- one more that is
pub one_listed : (modules : List Loaded) (listed : List Entry) (i : ℕ) (x : Loaded) (d : Entry) → i < length modules → i < length listed
    → take i modules ≡ map loaded (take i listed) → get_or modules i x ≡ loaded (get_or listed i d) → take (i + 1) modules ≡ map loaded (take (i + 1) listed)
one_listed modules listed i x d within within' so_far is =
    take_more modules i x within
    ∙ ap (λ (ms : List Loaded). ms ++ get_or modules i x ∷ []) so_far
    ∙ ap (λ (m : Loaded). map loaded (take i listed) ++ m ∷ []) is
    ∙ sym (map_more loaded listed i d within')

-- The part of a module

pub no_part : (m : Module) (listed : List Entry) (label : List LabelValue) → is_listed m listed ≡ false → None ≡ label_part listed label m
no_part m listed label absent =
    sym (ap (option_map (λ (entry : Entry). let part : LabelPart = record { «module» = m; value = shown (slice_index_or label (unwrap_or entry.0.slot 0) Unset) } in part)) (no_entry m listed absent))

any_found : {X : Type 0} (p : X → Bool) (xs : List X) → list_any p xs ≡ true → find p xs ≡ None → ⊥
any_found p [] some none = cc some
any_found p (x ∷ xs) some none = one (p x) (any_found p xs) some none
  where
    one : (b : Bool) → (list_any p xs ≡ true → find p xs ≡ None → ⊥) → (b || list_any p xs) ≡ true → cond b (Some x) (find p xs) ≡ None → ⊥
    one true rest some none = cc none
    one false rest some none = rest some none

pub listed_part : (m : Module) (listed : List Entry) (label : List LabelValue) (value : LabelValue) → is_listed m listed ≡ true
    → value ≡ shown (slice_index_or label (unwrap_or (slot_in m listed) 0) Unset) → Some (record { «module» = m; value = value }) ≡ label_part listed label m
listed_part m listed label value there is = one (find (is_of m) listed) refl is
  where
    one : (found : Option Entry) → find (is_of m) listed ≡ found
        → value ≡ shown (slice_index_or label (unwrap_or (option_and_then (λ (entry : Entry). entry.0.slot) found) 0) Unset)
        → Some (record { «module» = m; value = value })
        ≡ option_map (λ (entry : Entry). let part : LabelPart = record { «module» = m; value = shown (slice_index_or label (unwrap_or entry.0.slot 0) Unset) } in part) found
    one None none same = absurd (any_found (is_of m) listed there none)
    one (Some entry) found same = ap (λ (v : LabelValue). Some (let part : LabelPart = record { «module» = m; value = v } in part)) same
