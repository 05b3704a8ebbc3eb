-- The listed policies, as values, and what a registration and its end make of them: the static and the dynamic list, and slots that aren't given
-- again, of sys/security/mac/mac_framework.c.
use Rattle.std.specs.Prelude.{ℕ, ◌+◌, Bool, if◌then◌else◌, not, ◌&&◌, ◌==◌, List, [], ◌∷◌, Option, Some, None, find, option_and_then, option_map}
use Rattle.std.specs.List.{list_any}
use Rattle.std.specs.Option.{option_eq}
use Rattle.mf_errno.specs.Same.{same_module}
use Rattle.mf_errno.specs.declared.module.Module.{Module}
use Rattle.mf_policy.specs.declared.registration.Registration.{Registration}
use Rattle.mf_policy.specs.declared.spec.Spec.{Spec}
use Rattle.mf_policy.specs.Modules.{facts_of, fresh_of, wants_slot}

-- a registration, and the policy's spec
abbrev pub Entry : Type 0
Entry = Registration × Spec

-- whether the entry is the module's
abbrev pub is_of : Module → Entry → Bool
is_of m entry = same_module m entry.0.module

abbrev pub is_listed : Module → List Entry → Bool
is_listed m entries = list_any (is_of m) entries

-- the label slot of a module, where it is listed and has one
abbrev pub slot_in : Module → List Entry → Option ℕ
slot_in m entries = option_and_then (λ entry. entry.0.slot) (find (is_of m) entries)

-- the spec of a module's policy, where it is listed
abbrev pub spec_in : Module → List Entry → Option Spec
spec_in m entries = option_map (λ entry. entry.1) (find (is_of m) entries)

-- whether the entry's policy holds the slot
abbrev pub holds_slot : ℕ → Entry → Bool
holds_slot slot entry = option_eq ◌==◌ entry.0.slot (Some slot)

-- the slot of a module where so many numbers were given: the next one where it wants one
abbrev pub slot_for : Bool → ℕ → Option ℕ
slot_for wanted given = if wanted then Some given else None

-- how a module is registered: in the static list before the end of boot, unless it may be unloaded
abbrev pub registration_of : Module → Bool → ℕ → Registration
registration_of m booted given =
    record { «module» = m; slot = slot_for (wants_slot m) given; fixed = not booted && not (facts_of m).unload_ok }

-- how many slot numbers were given, after a registration of the module
abbrev pub given_after : ℕ → Module → ℕ
given_after given m = if wants_slot m then given + 1 else given

-- the list with a new policy: the newest of the static list, which comes first, or of the dynamic one
abbrev pub with_newest : Entry → List Entry → List Entry
with_newest entry [] = entry ∷ []
with_newest entry (x ∷ xs) =
    if not entry.0.fixed && x.0.fixed then x ∷ with_newest entry xs else entry ∷ x ∷ xs

-- the list after a registration, with the policy in its initial state
abbrev pub with_registered : List Entry → Registration → List Entry
with_registered entries r = with_newest (r, fresh_of r.module) entries

-- the list without the first element that passes
abbrev pub without_first : {X : Type 0} → (X → Bool) → List X → List X
without_first p [] = []
without_first p (x ∷ xs) = if p x then xs else x ∷ without_first p xs

abbrev pub entries_without : Module → List Entry → List Entry
entries_without m entries = without_first (is_of m) entries
