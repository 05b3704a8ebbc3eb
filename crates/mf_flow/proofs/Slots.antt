-- A policy that holds a slot is listed as its module's, with that slot; which slot mac_lomac then has.
use Rattle.std.proofs.Common.{◌≡◌, ◌≢◌, ℕ, ◌≤◌, ◌+◌, Bool, true, false, cond, nat_eq, List, [], ◌∷◌, Option, Some, None, refl, ap, sym, ◌∙◌, subst, arith}
use Rattle.std.specs.Option.{option_eq}
use Rattle.std.specs.Prelude.{find, option_and_then}
use Rattle.std.proofs.lemmas.Bool.Decides.{nat_tests}
use Rattle.mf_errno.specs.declared.module.Module.{Module}
use Rattle.mf_errno.specs.declared.module.Module.TheVariants.{Lomac}
use Rattle.mf_errno.specs.Same.{same_module}
use Rattle.mf_errno.proofs.Modules.{same_module-is, same_module-self}
use Rattle.mf_elem.specs.declared.elem.Elem.{Elem}
use Rattle.mf_policy.specs.declared.registration.Registration.{Registration}
use Rattle.mf_policy.specs.Lowering.{lowered}
use Rattle.mf_policy.specs.declared.spec.Spec.{Spec}
use Rattle.mf_policy.specs.Registration.{Entry, holds_slot, is_of, slot_in}
use Rattle.mf_list.specs.Asked.{slot_of}
use Rattle.mf_list.specs.Held.{how_many}
use Rattle.mf_list.specs.Once.{IsListedOnce}
use Rattle.mf_plan.specs.declared.state.State.{State}
use Rattle.mf_lifetimes.proofs.Listing.{AtMostOne, found_passes}
use Rattle.mf_lifetimes.proofs.Marked.{IsHeld}
use Rattle.mf_flow.proofs.Orders.{FlowPolicy}
use Rattle.mf_flow.proofs.Seen.{IsLowering}
use Rattle.mf_flow.proofs.Seen.IsLowering.{its_slot, other_slot, unlisted}

-- what remains of elements by the policy of a module: what they are lowered to, where it is mac_lomac, and else what they were
pub data Remains (p : FlowPolicy) (m : Module) : Type 0 where
  lowers : m ≡ Lomac → ((subject object : Elem) → p.remains subject object ≡ lowered subject object) → Remains p m
  keeps : m ≢ Lomac → ((subject object : Elem) → p.remains subject object ≡ subject) → Remains p m

-- Entries that are found

inside : {A : Type 0} (a b : A) → Some a ≡ Some b → a ≡ b
inside a b is = cc

-- what holds a slot is what is found to hold it, where at most one does
find_single : (slot : ℕ) (test : Entry → Bool) (es : List Entry) (x : Entry) → AtMostOne slot es → find test es ≡ Some x → holds_slot slot x ≡ true
    → find (holds_slot slot) es ≡ Some x
find_single slot test [] x single found holds = cc
find_single slot test (e ∷ es) x single found holds = one (holds_slot slot e) (test e) refl found (find_single slot test es x single.1)
  where
    one : (here b : Bool) → holds_slot slot e ≡ here → cond b (Some e) (find test es) ≡ Some x → (find test es ≡ Some x → holds_slot slot x ≡ true → find (holds_slot slot) es ≡ Some x)
        → cond here (Some e) (find (holds_slot slot) es) ≡ Some x
    one true true is found rest = found
    one true false is found rest =
        let none : find (holds_slot slot) es ≡ None = single.0 is in
        let some : find (holds_slot slot) es ≡ Some x = rest found holds in
        cc
    one false true is found rest =
        let same : holds_slot slot e ≡ true = ap (holds_slot slot) (inside e x found) ∙ holds in
        cc
    one false false is found rest = rest found holds

-- what is found is counted
found_counts : (m : Module) (test : Entry → Bool) (es : List Entry) (x : Entry) → find test es ≡ Some x → is_of m x ≡ true → 1 ≤ how_many (is_of m) es
found_counts m test [] x found of = cc
found_counts m test (e ∷ es) x found of = one (test e) (is_of m e) refl found (found_counts m test es x)
  where
    one : (b here : Bool) → is_of m e ≡ here → cond b (Some e) (find test es) ≡ Some x → (find test es ≡ Some x → is_of m x ≡ true → 1 ≤ how_many (is_of m) es)
        → 1 ≤ cond here 1 0 + how_many (is_of m) es
    one b true is found rest = omega arith
    one true false is found rest =
        let same : is_of m e ≡ true = ap (is_of m) (inside e x found) ∙ of in
        cc
    one false false is found rest = omega (arith, rest found of)

-- a module's entry is what is found to be the module's, where it is listed once
find_once : (m : Module) (test : Entry → Bool) (es : List Entry) (x : Entry) → how_many (is_of m) es ≤ 1 → find test es ≡ Some x → is_of m x ≡ true
    → find (is_of m) es ≡ Some x
find_once m test [] x once found of = cc
find_once m test (e ∷ es) x once found of = one (is_of m e) (test e) refl once found (find_once m test es x)
  where
    one : (here b : Bool) → is_of m e ≡ here → cond here 1 0 + how_many (is_of m) es ≤ 1 → cond b (Some e) (find test es) ≡ Some x
        → (how_many (is_of m) es ≤ 1 → find test es ≡ Some x → is_of m x ≡ true → find (is_of m) es ≡ Some x)
        → cond here (Some e) (find (is_of m) es) ≡ Some x
    one true true is once found rest = found
    one true false is once found rest = absurd (omega (arith, once, found_counts m test es x found of))
    one false true is once found rest =
        let same : is_of m e ≡ true = ap (is_of m) (inside e x found) ∙ of in
        cc
    one false false is once found rest = rest (omega (arith, once)) found of

-- Policies by their slots

holds_it : (own : Option ℕ) (slot : ℕ) → option_eq nat_eq own (Some slot) ≡ true → own ≡ Some slot
holds_it None slot holds = cc
holds_it (Some own) slot holds =
    let same : own ≡ slot = grind (arith, nat_tests) in
    ap (λ (n : ℕ). Some n) same

is_held : (own : Option ℕ) (slot : ℕ) → own ≡ Some slot → option_eq nat_eq own (Some slot) ≡ true
is_held own slot is = ap (λ (x : Option ℕ). option_eq nat_eq x (Some slot)) is ∙ itself slot
  where
    itself : (n : ℕ) → nat_eq n n ≡ true
    itself n = grind (arith, nat_tests)

-- a policy that holds a slot is listed as the one of its module
pub its_own : (r : Registration) (spec : Spec) (s : State) → IsHeld (slot_of r) (r, spec) s → IsListedOnce s.specs → find (is_of r.module) s.specs ≡ Some (r, spec)
its_own r spec s held once =
    find_once r.module (holds_slot (slot_of r)) s.specs (r, spec) (once r.module) held.pinned.found (same_module-self r.module)

pub its_own_slot : (r : Registration) (spec : Spec) (s : State) → IsHeld (slot_of r) (r, spec) s → IsListedOnce s.specs → slot_in r.module s.specs ≡ Some (slot_of r)
its_own_slot r spec s held once =
    let holds : holds_slot (slot_of r) (r, spec) ≡ true = found_passes (holds_slot (slot_of r)) s.specs (r, spec) held.pinned.found in
    ap (λ (x : Option Entry). option_and_then (λ entry. entry.0.slot) x) (its_own r spec s held once) ∙ holds_it r.slot (slot_of r) holds

-- what lowering has to do with such a policy
pub is_lowering : (p : FlowPolicy) (r : Registration) (spec : Spec) (s : State) → Remains p r.module → IsHeld (slot_of r) (r, spec) s → IsListedOnce s.specs
    → IsLowering p r s.specs
is_lowering p r spec s (lowers of sinks) held once =
    its_slot (subst (λ (m : Module). slot_in m s.specs ≡ Some (slot_of r)) of (its_own_slot r spec s held once)) sinks
is_lowering p r spec s (keeps apart same) held once = by_found (find (is_of Lomac) s.specs) refl
  where
    -- it isn't mac_lomac's
    differs : (x : Entry) (n : ℕ) → find (is_of Lomac) s.specs ≡ Some x → x.0.slot ≡ Some n → slot_of r ≢ n
    differs x n found at same_slot =
        let holds : holds_slot (slot_of r) x ≡ true = is_held x.0.slot (slot_of r) (at ∙ ap (λ (k : ℕ). Some k) (sym same_slot)) in
        let held_by : find (holds_slot (slot_of r)) s.specs ≡ Some x = find_single (slot_of r) (is_of Lomac) s.specs x held.kept.slots.single found holds in
        let same_entry : x ≡ (r, spec) = inside x (r, spec) (sym held_by ∙ held.pinned.found) in
        let of : same_module Lomac r.module ≡ true = sym (ap (is_of Lomac) same_entry) ∙ found_passes (is_of Lomac) s.specs x found in
        apart (sym (same_module-is Lomac r.module of))

    by_slot : (x : Entry) (slot : Option ℕ) → find (is_of Lomac) s.specs ≡ Some x → x.0.slot ≡ slot → IsLowering p r s.specs
    by_slot x None found at = unlisted (ap (λ (y : Option Entry). option_and_then (λ entry. entry.0.slot) y) found ∙ at) same
    by_slot x (Some n) found at = other_slot n (ap (λ (y : Option Entry). option_and_then (λ entry. entry.0.slot) y) found ∙ at) (differs x n found at) same

    by_found : (found : Option Entry) → find (is_of Lomac) s.specs ≡ found → IsLowering p r s.specs
    by_found None is = unlisted (ap (λ (y : Option Entry). option_and_then (λ entry. entry.0.slot) y) is) same
    by_found (Some x) is = by_slot x x.0.slot is refl
