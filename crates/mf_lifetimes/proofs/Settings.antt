-- Which listed policy holds a label slot stays as it is where a setting is changed, and a call changes no setting of a policy that stays.
use Rattle.std.proofs.Common.{◌≡◌, ℕ, ◌+◌, ◌≤◌, Bool, true, false, cond, List, [], ◌∷◌, map, Option, Some, None, option_map, refl, ap, sym, ◌∙◌, arith}
use Rattle.std.specs.Option.{option_map_or}
use Rattle.std.specs.Prelude.{find, if◌then◌else◌}
use Rattle.std.specs.List.{AllByRecursion}
use Rattle.mf_errno.specs.declared.module.Module.{Module}
use Rattle.mf_policy.specs.declared.registration.Registration.{Registration}
use Rattle.mf_policy.specs.declared.settings.Change.{Change}
use Rattle.mf_policy.specs.declared.settings.Changed.{Changed}
use Rattle.mf_policy.specs.declared.spec.Spec.{Spec}
use Rattle.mf_policy.specs.Modules.{facts_of}
use Rattle.mf_policy.specs.Registration.{Entry, is_of, holds_slot}
use Rattle.mf_policy.specs.Settings.{change_in, change_of, no_setting, with_spec}
use Rattle.mf_policy.proofs.ByEntry.{change_at}
use Rattle.mf_list.specs.Held.{how_many}
use Rattle.mf_lifetimes.proofs.Lasting.{other_module}
use Rattle.mf_lifetimes.proofs.Listing.{AtMostOne, IsPinned}

-- What is so of each registration

all_set : (P : Registration → Type 0) (k : Module) (spec : Spec) (es : List Entry) → AllByRecursion (λ entry. P entry.0) es
    → AllByRecursion (λ entry. P entry.0) (with_spec k spec es)
all_set P k spec [] all = tt
all_set P k spec (e ∷ es) all = one (is_of k e) (all_set P k spec es all.1)
  where
    one : (b : Bool) → AllByRecursion (λ entry. P entry.0) (with_spec k spec es)
        → AllByRecursion (λ entry. P entry.0) (cond b ((e.0, spec) ∷ es) (e ∷ with_spec k spec es))
    one true rest = (all.0, all.1)
    one false rest = (all.0, rest)

pub all_changed : (P : Registration → Type 0) (k : Module) (change : Change) (es : List Entry) → AllByRecursion (λ entry. P entry.0) es
    → AllByRecursion (λ entry. P entry.0) (change_in k change es).1
all_changed P k change es all = one (find (is_of k) es)
  where
    one : (found : Option Entry) → AllByRecursion (λ entry. P entry.0) (change_at k change es found).1
    one None = all
    one (Some entry) = all_set P k (change_of entry.1 change).1 es all

-- At most one policy holds a slot

none_set : (slot : ℕ) (k : Module) (spec : Spec) (es : List Entry) → find (holds_slot slot) es ≡ None → find (holds_slot slot) (with_spec k spec es) ≡ None
none_set slot k spec [] none = refl
none_set slot k spec (e ∷ es) none = one (is_of k e) (holds_slot slot e) refl none (none_set slot k spec es)
  where
    one : (b here : Bool) → holds_slot slot e ≡ here → cond here (Some e) (find (holds_slot slot) es) ≡ None
        → (find (holds_slot slot) es ≡ None → find (holds_slot slot) (with_spec k spec es) ≡ None)
        → find (holds_slot slot) (cond b ((e.0, spec) ∷ es) (e ∷ with_spec k spec es)) ≡ None
    one true true is some rest = cc
    one false true is some rest = cc
    one true false is none rest = rw is none
    one false false is none rest = rw is (rest none)

one_set : (slot : ℕ) (k : Module) (spec : Spec) (es : List Entry) → AtMostOne slot es → AtMostOne slot (with_spec k spec es)
one_set slot k spec [] single = tt
one_set slot k spec (e ∷ es) single = one (is_of k e) (one_set slot k spec es single.1)
  where
    one : (b : Bool) → AtMostOne slot (with_spec k spec es) → AtMostOne slot (cond b ((e.0, spec) ∷ es) (e ∷ with_spec k spec es))
    one true rest = (single.0, single.1)
    one false rest = (λ holds. none_set slot k spec es (single.0 holds), rest)

pub one_changed : (slot : ℕ) (k : Module) (change : Change) (es : List Entry) → AtMostOne slot es → AtMostOne slot (change_in k change es).1
one_changed slot k change es single = one (find (is_of k) es)
  where
    one : (found : Option Entry) → AtMostOne slot (change_at k change es found).1
    one None = single
    one (Some entry) = one_set slot k (change_of entry.1 change).1 es single

-- The policy that holds a slot

-- a change of another module's setting leaves it as it is
found_set : (slot : ℕ) (k : Module) (spec : Spec) (x : Entry) (es : List Entry) → is_of k x ≡ false → find (holds_slot slot) es ≡ Some x
    → find (holds_slot slot) (with_spec k spec es) ≡ Some x
found_set slot k spec x [] other found = found
found_set slot k spec x (e ∷ es) other found = one (is_of k e) (holds_slot slot e) refl refl found (found_set slot k spec x es other)
  where
    one : (b here : Bool) → is_of k e ≡ b → holds_slot slot e ≡ here → cond here (Some e) (find (holds_slot slot) es) ≡ Some x
        → (find (holds_slot slot) es ≡ Some x → find (holds_slot slot) (with_spec k spec es) ≡ Some x)
        → find (holds_slot slot) (cond b ((e.0, spec) ∷ es) (e ∷ with_spec k spec es)) ≡ Some x
    one true true of is found rest =
        let same : e ≡ x = cc in
        let not_of : is_of k e ≡ false = ap (is_of k) same ∙ other in
        cc
    one true false of is found rest = rw is found
    one false true of is found rest = rw is found
    one false false of is found rest = rw is (rest found)

found_changed : (slot : ℕ) (k : Module) (change : Change) (x : Entry) (es : List Entry) → is_of k x ≡ false → find (holds_slot slot) es ≡ Some x
    → find (holds_slot slot) (change_in k change es).1 ≡ Some x
found_changed slot k change x es other found = one (find (is_of k) es)
  where
    one : (at : Option Entry) → find (holds_slot slot) (change_at k change es at).1 ≡ Some x
    one None = found
    one (Some entry) = found_set slot k (change_of entry.1 change).1 x es other found

pub pinned_changed : (slot : ℕ) (x : Entry) (specs : List Entry) (given : ℕ) (k : Module) (change : Change) → (facts_of k).unload_ok ≡ true → IsPinned slot x specs given
    → IsPinned slot x (change_in k change specs).1 given
pinned_changed slot x specs given k change ok pinned =
    record {
      found = found_changed slot k change x specs (other_module k x.0.module ok pinned.lasting) pinned.found;
      module_is = pinned.module_is;
      lasting = pinned.lasting;
      below = pinned.below;
    }

-- What a change makes of each entry, where no module is listed twice

abbrev pub changed_entry : Module → Change → Entry → Entry
changed_entry k change e = if is_of k e then (e.0, (change_of e.1 change).1) else e

none_changed : (k : Module) (change : Change) (es : List Entry) → how_many (is_of k) es ≡ 0 → map (changed_entry k change) es ≡ es
none_changed k change [] none = refl
none_changed k change (e ∷ es) none = one (is_of k e) none (none_changed k change es)
  where
    one : (b : Bool) → cond b 1 0 + how_many (is_of k) es ≡ 0 → (how_many (is_of k) es ≡ 0 → map (changed_entry k change) es ≡ es)
        → cond b (e.0, (change_of e.1 change).1) e ∷ map (changed_entry k change) es ≡ e ∷ es
    one true none rest = absurd (omega arith)
    one false none rest = ap (λ (xs : List Entry). e ∷ xs) (rest (omega (arith, none)))

-- the change, where the first entry is the module's or isn't, and that is the module's entry
abbrev first_changed : Module → Change → Entry → List Entry → Bool → Option Entry → Changed × List Entry
first_changed k change e es b found =
    option_map_or (λ (x : Entry). ((change_of x.1 change).0, cond b ((e.0, (change_of x.1 change).1) ∷ es) (e ∷ with_spec k (change_of x.1 change).1 es))) found
    (no_setting, e ∷ es)

pub each_changed : (k : Module) (change : Change) (es : List Entry) → how_many (is_of k) es ≤ 1 → (change_in k change es).1 ≡ map (changed_entry k change) es
each_changed k change [] once = refl
each_changed k change (e ∷ es) once = one (is_of k e) once (each_changed k change es)
  where
    behind : (found : Option Entry) → (first_changed k change e es false found).1 ≡ e ∷ (change_at k change es found).1
    behind None = refl
    behind (Some x) = refl

    one : (b : Bool) → cond b 1 0 + how_many (is_of k) es ≤ 1 → (how_many (is_of k) es ≤ 1 → (change_in k change es).1 ≡ map (changed_entry k change) es)
        → (first_changed k change e es b (cond b (Some e) (find (is_of k) es))).1 ≡ cond b (e.0, (change_of e.1 change).1) e ∷ map (changed_entry k change) es
    one true once rest = ap (λ (xs : List Entry). (e.0, (change_of e.1 change).1) ∷ xs) (sym (none_changed k change es (omega (arith, once))))
    one false once rest = behind (find (is_of k) es) ∙ ap (λ (xs : List Entry). e ∷ xs) (rest (omega (arith, once)))

-- who holds the slot is changed as any
find_changed : (slot : ℕ) (k : Module) (change : Change) (es : List Entry)
    → find (holds_slot slot) (map (changed_entry k change) es) ≡ option_map (changed_entry k change) (find (holds_slot slot) es)
find_changed slot k change [] = refl
find_changed slot k change (e ∷ es) =
    ap (λ (here : Bool). cond here (Some (changed_entry k change e)) (find (holds_slot slot) (map (changed_entry k change) es))) (same (is_of k e))
    ∙ one (holds_slot slot e) (find_changed slot k change es)
  where
    same : (b : Bool) → holds_slot slot (cond b (e.0, (change_of e.1 change).1) e) ≡ holds_slot slot e
    same true = refl
    same false = refl

    one : (here : Bool) → find (holds_slot slot) (map (changed_entry k change) es) ≡ option_map (changed_entry k change) (find (holds_slot slot) es)
        → cond here (Some (changed_entry k change e)) (find (holds_slot slot) (map (changed_entry k change) es))
        ≡ option_map (changed_entry k change) (cond here (Some e) (find (holds_slot slot) es))
    one true rest = refl
    one false rest = rest

pub find_after : (slot : ℕ) (k : Module) (change : Change) (es : List Entry) (x : Entry) → how_many (is_of k) es ≤ 1 → find (holds_slot slot) es ≡ Some x
    → find (holds_slot slot) (change_in k change es).1 ≡ Some (changed_entry k change x)
find_after slot k change es x once found =
    ap (find (holds_slot slot)) (each_changed k change es once) ∙ find_changed slot k change es ∙ ap (option_map (changed_entry k change)) found
