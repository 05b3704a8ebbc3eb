-- A change of a setting lists the same modules in the same places, and changes no spec but of the policy that has the setting.
use Rattle.std.proofs.Common.{◌≡◌, true, false, cond, List, [], ◌∷◌, Option, Some, None, length, map, find, refl, ap, suc}
use Rattle.mf_errno.specs.declared.module.Module.{Module}
use Rattle.mf_policy.specs.declared.registration.Registration.{Registration}
use Rattle.mf_policy.specs.declared.settings.Change.{Change}
use Rattle.mf_policy.specs.declared.spec.Spec.{Spec}
use Rattle.mf_policy.specs.Registration.{Entry, is_of}
use Rattle.mf_policy.specs.Settings.{change_in, change_of, with_spec}
use Rattle.mf_policy.proofs.ByEntry.{change_at}
use Rattle.mf_list.specs.Held.{how_many}
use Rattle.mf_list.proofs.Counts.{how_many-spec}

pub how_many-changed : (m k : Module) (change : Change) (es : List Entry) → how_many (is_of m) (change_in k change es).1 ≡ how_many (is_of m) es
how_many-changed m k change es = one (find (is_of k) es)
  where
    one : (found : Option Entry) → how_many (is_of m) (change_at k change es found).1 ≡ how_many (is_of m) es
    one None = refl
    one (Some entry) = how_many-spec m k (change_of entry.1 change).1 es

-- the registrations stay
registrations_with : (k : Module) (spec : Spec) (es : List Entry) → map (λ (e : Entry). e.0) (with_spec k spec es) ≡ map (λ (e : Entry). e.0) es
registrations_with k spec [] = refl
registrations_with k spec (x ∷ xs) =
    elim (is_of k x) as (λ b. map (λ (e : Entry). e.0) (cond b ((x.0, spec) ∷ xs) (x ∷ with_spec k spec xs)) ≡ x.0 ∷ map (λ (e : Entry). e.0) xs) [
      | true ↦ refl
      | false ↦ ap (λ (rs : List Registration). x.0 ∷ rs) (registrations_with k spec xs)
    ]

pub registrations-changed : (k : Module) (change : Change) (es : List Entry) → map (λ (e : Entry). e.0) (change_in k change es).1 ≡ map (λ (e : Entry). e.0) es
registrations-changed k change es = one (find (is_of k) es)
  where
    one : (found : Option Entry) → map (λ (e : Entry). e.0) (change_at k change es found).1 ≡ map (λ (e : Entry). e.0) es
    one None = refl
    one (Some entry) = registrations_with k (change_of entry.1 change).1 es

length_with : (k : Module) (spec : Spec) (es : List Entry) → length (with_spec k spec es) ≡ length es
length_with k spec [] = refl
length_with k spec (x ∷ xs) =
    elim (is_of k x) as (λ b. length (cond b ((x.0, spec) ∷ xs) (x ∷ with_spec k spec xs)) ≡ suc (length xs)) [
      | true ↦ refl
      | false ↦ ap suc (length_with k spec xs)
    ]

pub length-changed : (k : Module) (change : Change) (es : List Entry) → length (change_in k change es).1 ≡ length es
length-changed k change es = one (find (is_of k) es)
  where
    one : (found : Option Entry) → length (change_at k change es found).1 ≡ length es
    one None = refl
    one (Some entry) = length_with k (change_of entry.1 change).1 es
