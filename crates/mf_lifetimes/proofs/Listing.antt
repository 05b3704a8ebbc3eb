-- Which listed policy holds a label slot, as policies come and go.
use Rattle.std.specs.Option.{option_eq}
use Rattle.std.proofs.Common.{◌≡◌, ℕ, ◌<◌, ◌≤◌, ◌+◌, Bool, true, false, not, cond, ◌&&◌, nat_eq, List, [], ◌∷◌, map, Option, Some, None, refl, ap, sym, ◌∙◌, subst, arith, eq-eqb}
use Rattle.std.specs.Prelude.{find, filter, if◌then◌else◌}
use Rattle.std.specs.List.{AllByRecursion}
use Rattle.std.proofs.lemmas.Bool.Decides.{nat_tests}
use Rattle.mf_errno.specs.declared.module.Module.{Module}
use Rattle.mf_item.specs.declared.view.Kind.{Kind}
use Rattle.mf_policy.specs.declared.registration.Registration.{Registration}
use Rattle.mf_policy.specs.Modules.{facts_of, fresh_of, wants_slot, labels_kind, module_of}
use Rattle.mf_policy.specs.Registration.{Entry, is_of, holds_slot, given_after, slot_for, registration_of, with_newest, entries_without}
use Rattle.mf_lifetimes.specs.Marks.{labellers}
use Rattle.mf_lifetimes.proofs.Lasting.{IsLasting, fresh_module, lasting_wants, other_module}

-- Lists of policies

pub all_newest : (P : Entry → Type 0) (x : Entry) (es : List Entry) → P x → AllByRecursion P es → AllByRecursion P (with_newest x es)
all_newest P x [] here all = (here, tt)
all_newest P x (e ∷ es) here all = one (not x.0.fixed && e.0.fixed) (all_newest P x es here all.1)
  where
    one : (b : Bool) → AllByRecursion P (with_newest x es) → AllByRecursion P (cond b (e ∷ with_newest x es) (x ∷ e ∷ es))
    one true rest = (all.0, rest)
    one false rest = (here, all)

pub all_without : (P : Entry → Type 0) (m : Module) (es : List Entry) → AllByRecursion P es → AllByRecursion P (entries_without m es)
all_without P m [] all = all
all_without P m (e ∷ es) all = one (is_of m e) (all_without P m es all.1)
  where
    one : (b : Bool) → AllByRecursion P (entries_without m es) → AllByRecursion P (cond b es (e ∷ entries_without m es))
    one true rest = all.1
    one false rest = (all.0, rest)

pub all_found : (P : Entry → Type 0) (p : Entry → Bool) (es : List Entry) (x : Entry) → AllByRecursion P es → find p es ≡ Some x → P x × (p x ≡ true)
all_found P p [] x all found = cc
all_found P p (e ∷ es) x all found = one (p e) refl (all_found P p es x all.1) found
  where
    one : (b : Bool) → p e ≡ b → (find p es ≡ Some x → P x × (p x ≡ true)) → cond b (Some e) (find p es) ≡ Some x → P x × (p x ≡ true)
    one true hit rest found =
        let is : e ≡ x = cc in
        subst (λ (y : Entry). P y × (p y ≡ true)) is (all.0, hit)
    one false miss rest found = rest found

-- what is found passes
pub found_passes : (p : Entry → Bool) (es : List Entry) (x : Entry) → find p es ≡ Some x → p x ≡ true
found_passes p es x found = (all_found (λ _. Unit {0}) p es x (anything es) found).1
  where
    anything : (es : List Entry) → AllByRecursion (λ _. Unit {0}) es
    anything [] = tt
    anything (e ∷ es) = (tt, anything es)

-- Who holds a slot

find_newest : (slot : ℕ) (x : Entry) (es : List Entry) → holds_slot slot x ≡ false → find (holds_slot slot) (with_newest x es) ≡ find (holds_slot slot) es
find_newest slot x [] other = rw other refl
find_newest slot x (e ∷ es) other = one (not x.0.fixed && e.0.fixed) (find_newest slot x es other)
  where
    one : (b : Bool) → find (holds_slot slot) (with_newest x es) ≡ find (holds_slot slot) es
        → find (holds_slot slot) (cond b (e ∷ with_newest x es) (x ∷ e ∷ es)) ≡ find (holds_slot slot) (e ∷ es)
    one true rest = ap (λ (found : Option Entry). cond (holds_slot slot e) (Some e) found) rest
    one false rest = rw other refl

find_newest_own : (slot : ℕ) (x : Entry) (es : List Entry) → holds_slot slot x ≡ true → find (holds_slot slot) es ≡ None → find (holds_slot slot) (with_newest x es) ≡ Some x
find_newest_own slot x [] own none = rw own refl
find_newest_own slot x (e ∷ es) own none = one (not x.0.fixed && e.0.fixed) (holds_slot slot e) (find_newest_own slot x es own) none refl
  where
    one : (b here : Bool) → (find (holds_slot slot) es ≡ None → find (holds_slot slot) (with_newest x es) ≡ Some x)
        → cond here (Some e) (find (holds_slot slot) es) ≡ None → holds_slot slot e ≡ here
        → find (holds_slot slot) (cond b (e ∷ with_newest x es) (x ∷ e ∷ es)) ≡ Some x
    one true true rest some hit = cc
    one true false rest none miss = rw miss (rest none)
    one false here rest none is = rw own refl

find_without : (slot : ℕ) (m : Module) (x : Entry) (es : List Entry) → is_of m x ≡ false → find (holds_slot slot) es ≡ Some x
    → find (holds_slot slot) (entries_without m es) ≡ Some x
find_without slot m x [] other found = cc
find_without slot m x (e ∷ es) other found = one (is_of m e) (holds_slot slot e) (find_without slot m x es other) found refl refl
  where
    one : (b here : Bool) → (find (holds_slot slot) es ≡ Some x → find (holds_slot slot) (entries_without m es) ≡ Some x)
        → cond here (Some e) (find (holds_slot slot) es) ≡ Some x → is_of m e ≡ b → holds_slot slot e ≡ here
        → find (holds_slot slot) (cond b es (e ∷ entries_without m es)) ≡ Some x
    one true true rest found of hit =
        let is : e ≡ x = cc in
        let not_of : is_of m e ≡ false = ap (is_of m) is ∙ other in
        cc
    one true false rest found of miss = found
    one false true rest found of hit = rw hit found
    one false false rest found of miss = rw miss (rest found)

-- The slot of such a policy

-- the entry holds the slot, and is of a module that stays; the number of the slot was given
pub record IsPinned (slot : ℕ) (x : Entry) (specs : List Entry) (given : ℕ) : Type 0 where
  pub found : find (holds_slot slot) specs ≡ Some x
  pub module_is : module_of x.1 ≡ x.0.module
  pub lasting : IsLasting x.0.module
  pub below : slot < given

-- who holds the slot doesn't stay
abbrev pub IsPassing : ℕ → Entry → Type 0
IsPassing slot entry = holds_slot slot entry ≡ true → IsLasting entry.0.module → ⊥

abbrev pub NoneLasting : ℕ → List Entry → Type 0
NoneLasting slot specs = AllByRecursion (IsPassing slot) specs

-- each slot has a number that was given
abbrev pub IsBelow : ℕ → Option ℕ → Type 0
IsBelow given None = Unit {0}
IsBelow given (Some slot) = slot < given

abbrev pub AllBelow : ℕ → List Entry → Type 0
AllBelow given specs = AllByRecursion (λ entry. IsBelow given entry.0.slot) specs

-- the policy as it is registered next
abbrev pub newest : Module → Bool → ℕ → Entry
newest m booted given = (registration_of m booted given, fresh_of m)

equal_numbers : (a b : ℕ) → nat_eq a b ≡ true → a ≡ b
equal_numbers a b same = grind (arith, nat_tests)

differ : (a b : ℕ) → b < a → nat_eq a b ≡ false
differ a b l = grind (arith, nat_tests)

new_slot : (slot given : ℕ) (wanted : Bool) → slot < given → option_eq nat_eq (slot_for wanted given) (Some slot) ≡ false
new_slot slot given true l = differ given slot l
new_slot slot given false l = refl

more_given : (slot given : ℕ) (wanted : Bool) → slot < given → slot < cond wanted (given + 1) given
more_given slot given true l = omega arith
more_given slot given false l = l

pub pinned_newest : (slot : ℕ) (x : Entry) (specs : List Entry) (given : ℕ) (m : Module) (booted : Bool) → IsPinned slot x specs given
    → IsPinned slot x (with_newest (newest m booted given) specs) (given_after given m)
pinned_newest slot x specs given m booted pinned =
    record {
      found = find_newest slot (newest m booted given) specs (new_slot slot given (wants_slot m) pinned.below) ∙ pinned.found;
      module_is = pinned.module_is;
      lasting = pinned.lasting;
      below = more_given slot given (wants_slot m) pinned.below;
    }

pub pinned_without : (slot : ℕ) (x : Entry) (specs : List Entry) (given : ℕ) (m : Module) → (facts_of m).unload_ok ≡ true → IsPinned slot x specs given
    → IsPinned slot x (entries_without m specs) given
pinned_without slot x specs given m ok pinned =
    record {
      found = find_without slot m x specs (other_module m x.0.module ok pinned.lasting) pinned.found;
      module_is = pinned.module_is;
      lasting = pinned.lasting;
      below = pinned.below;
    }

-- what is found to hold the slot doesn't stay
pub passing_found : (slot : ℕ) (specs : List Entry) (x : Entry) → NoneLasting slot specs → find (holds_slot slot) specs ≡ Some x → IsLasting x.0.module → ⊥
passing_found slot specs x none found lasting =
    let here = all_found (IsPassing slot) (holds_slot slot) specs x none found in
    here.0 here.1 lasting

-- At boot

given_more : (given given' : ℕ) (specs : List Entry) → given ≤ given' → AllBelow given specs → AllBelow given' specs
given_more given given' [] l all = tt
given_more given given' (e ∷ es) l all = (one e.0.slot all.0, given_more given given' es l all.1)
  where
    one : (slot : Option ℕ) → IsBelow given slot → IsBelow given' slot
    one None below = tt
    one (Some slot) below = omega arith

pub below_newest : (given : ℕ) (specs : List Entry) (m : Module) (booted : Bool) → AllBelow given specs → AllBelow (given_after given m) (with_newest (newest m booted given) specs)
below_newest given specs m booted all =
    all_newest (λ entry. IsBelow (given_after given m) entry.0.slot) (newest m booted given) specs (one (wants_slot m)) (given_more given (given_after given m) specs (least (wants_slot m)) all)
  where
    one : (wanted : Bool) → IsBelow (cond wanted (given + 1) given) (slot_for wanted given)
    one true = omega arith
    one false = tt

    least : (wanted : Bool) → given ≤ cond wanted (given + 1) given
    least true = omega arith
    least false = omega arith

none_holds : (given : ℕ) (specs : List Entry) → AllBelow given specs → find (holds_slot given) specs ≡ None
none_holds given [] all = refl
none_holds given (e ∷ es) all = rw (one e.0.slot all.0) (none_holds given es all.1)
  where
    one : (slot : Option ℕ) → IsBelow given slot → option_eq nat_eq slot (Some given) ≡ false
    one None below = refl
    one (Some slot) below = grind (arith, nat_tests)

-- At most one policy holds a slot

abbrev pub AtMostOne : ℕ → List Entry → Type 0
AtMostOne slot [] = Unit {0}
AtMostOne slot (e ∷ es) = (holds_slot slot e ≡ true → find (holds_slot slot) es ≡ None) × AtMostOne slot es

none_later : (e : Entry) (es : List Entry) (slot : ℕ) → find (holds_slot slot) (e ∷ es) ≡ None → (holds_slot slot e ≡ false) × (find (holds_slot slot) es ≡ None)
none_later e es slot none = one (holds_slot slot e) none
  where
    one : (here : Bool) → cond here (Some e) (find (holds_slot slot) es) ≡ None → (here ≡ false) × (find (holds_slot slot) es ≡ None)
    one true some = cc
    one false none = (refl, none)

one_newest : (slot : ℕ) (x : Entry) (es : List Entry) → (holds_slot slot x ≡ true → find (holds_slot slot) es ≡ None) → AtMostOne slot es → AtMostOne slot (with_newest x es)
one_newest slot x [] own single = (λ _. refl, tt)
one_newest slot x (e ∷ es) own single =
    one (not x.0.fixed && e.0.fixed) (one_newest slot x es (λ holds. (none_later e es slot (own holds)).1) single.1)
  where
    behind : (b : Bool) → holds_slot slot x ≡ b → holds_slot slot e ≡ true → find (holds_slot slot) (with_newest x es) ≡ None
    behind true holds here =
        let other : holds_slot slot e ≡ false = (none_later e es slot (own holds)).0 in
        cc
    behind false other here = find_newest slot x es other ∙ single.0 here

    one : (b : Bool) → AtMostOne slot (with_newest x es) → AtMostOne slot (cond b (e ∷ with_newest x es) (x ∷ e ∷ es))
    one true rest = (behind (holds_slot slot x) refl, rest)
    one false rest = (own, single)

none_without : (slot : ℕ) (m : Module) (es : List Entry) → find (holds_slot slot) es ≡ None → find (holds_slot slot) (entries_without m es) ≡ None
none_without slot m [] none = refl
none_without slot m (e ∷ es) none =
    let later = none_later e es slot none in
    one (is_of m e) later.0 later.1 (none_without slot m es later.1)
  where
    one : (b : Bool) → holds_slot slot e ≡ false → find (holds_slot slot) es ≡ None → find (holds_slot slot) (entries_without m es) ≡ None
        → find (holds_slot slot) (cond b es (e ∷ entries_without m es)) ≡ None
    one true other none rest = none
    one false other none rest = rw other rest

pub one_without : (slot : ℕ) (m : Module) (es : List Entry) → AtMostOne slot es → AtMostOne slot (entries_without m es)
one_without slot m [] single = tt
one_without slot m (e ∷ es) single = one (is_of m e) (one_without slot m es single.1)
  where
    one : (b : Bool) → AtMostOne slot (entries_without m es) → AtMostOne slot (cond b es (e ∷ entries_without m es))
    one true rest = single.1
    one false rest = (λ here. none_without slot m es (single.0 here), rest)

-- the next number is that of no policy
none_next : (slot given : ℕ) (wanted : Bool) (specs : List Entry) → AllBelow given specs → option_eq nat_eq (slot_for wanted given) (Some slot) ≡ true → find (holds_slot slot) specs ≡ None
none_next slot given true specs below own = subst (λ (n : ℕ). find (holds_slot n) specs ≡ None) (equal_numbers given slot own) (none_holds given specs below)
none_next slot given false specs below own = cc

pub single_newest : (slot : ℕ) (specs : List Entry) (given : ℕ) (m : Module) (booted : Bool) → AllBelow given specs → AtMostOne slot specs
    → AtMostOne slot (with_newest (newest m booted given) specs)
single_newest slot specs given m booted below single =
    one_newest slot (newest m booted given) specs (λ own. none_next slot given (wants_slot m) specs below own) single

-- the entry is of a policy that holds the slot and labels entities of that kind
abbrev labels : Kind → ℕ → Entry → Bool
labels kind slot entry = holds_slot slot entry && labels_kind entry.0.module kind

-- the registration of the policy that holds a slot, where it labels entities of that kind
abbrev pub by_holder : Kind → Option Entry → List Registration
by_holder kind None = []
by_holder kind (Some x) = if labels_kind x.0.module kind then x.0 ∷ [] else []

none_labels : (slot : ℕ) (kind : Kind) (es : List Entry) → find (holds_slot slot) es ≡ None → labellers es kind slot ≡ []
none_labels slot kind [] none = refl
none_labels slot kind (e ∷ es) none = let later = none_later e es slot none in rw later.0 (none_labels slot kind es later.1)

-- where at most one policy holds the slot, it alone labels
pub one_labels : (slot : ℕ) (kind : Kind) (es : List Entry) → AtMostOne slot es → labellers es kind slot ≡ by_holder kind (find (holds_slot slot) es)
one_labels slot kind [] single = refl
one_labels slot kind (e ∷ es) single = one (holds_slot slot e) refl (one_labels slot kind es single.1)
  where
    own : (b : Bool) → labellers es kind slot ≡ [] → map (λ (x : Entry). x.0) (cond b (e ∷ filter (labels kind slot) es) (filter (labels kind slot) es)) ≡ (if b then e.0 ∷ [] else [])
    own true none = ap (λ (rs : List Registration). e.0 ∷ rs) none
    own false none = none

    one : (here : Bool) → holds_slot slot e ≡ here → labellers es kind slot ≡ by_holder kind (find (holds_slot slot) es)
        → map (λ (x : Entry). x.0) (cond (here && labels_kind e.0.module kind) (e ∷ filter (labels kind slot) es) (filter (labels kind slot) es))
        ≡ by_holder kind (cond here (Some e) (find (holds_slot slot) es))
    one true here rest = own (labels_kind e.0.module kind) (none_labels slot kind es (single.0 here))
    one false other rest = rest

-- a module that stays holds the slot that it is given
pub pinned_own : (given : ℕ) (specs : List Entry) (m : Module) (booted : Bool) → IsLasting m → AllBelow given specs
    → IsPinned given (newest m booted given) (with_newest (newest m booted given) specs) (given_after given m)
pinned_own given specs m booted lasting all =
    let wants : wants_slot m ≡ true = lasting_wants m lasting in
    let own : option_eq nat_eq (slot_for (wants_slot m) given) (Some given) ≡ true = ap (λ (b : Bool). option_eq nat_eq (slot_for b given) (Some given)) wants ∙ eq-eqb given given refl in
    let more : given_after given m ≡ given + 1 = ap (λ (b : Bool). cond b (given + 1) given) wants in
    record {
      found = find_newest_own given (newest m booted given) specs own (none_holds given specs all);
      module_is = fresh_module m;
      lasting = lasting;
      below = omega arith;
    }

pub own_slot : (slot given : ℕ) (m : Module) → IsLasting m → option_eq nat_eq (slot_for (wants_slot m) given) (Some slot) ≡ true → given ≡ slot
own_slot slot given m lasting own =
    equal_numbers given slot (sym (ap (λ (b : Bool). option_eq nat_eq (slot_for b given) (Some slot)) (lasting_wants m lasting)) ∙ own)
