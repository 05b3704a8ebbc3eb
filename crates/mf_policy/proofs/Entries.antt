-- The entry of a module in the list, and a change of it.
use Rattle.std.proofs.Common.{◌≡◌, ℕ, ◌+◌, ◌<◌, true, false, cond, not, ◌||◌, Some, None, Result, Ok, Err, IfOk, subst, get_or, set, List, [], ◌∷◌, find, length, refl, ap, sym, ◌∙◌, one-add, arith, suc}
use Rattle.std.specs.List.{list_any, position, position_or_len}
use Rattle.std.specs.declared.alloc.AllocError.{AllocError}
use Rattle.std.proofs.lemmas.Bool.{ltb-true}
use Rattle.mf_errno.specs.declared.module.Module.{Module}
use Rattle.mf_policy.specs.declared.settings.Change.{Change}
use Rattle.mf_policy.specs.declared.settings.Changed.{Changed}
use Rattle.mf_policy.specs.declared.registration.Registration.{Registration}
use Rattle.mf_policy.specs.declared.spec.Spec.{Spec}
use Rattle.mf_policy.specs.Registration.{Entry, is_listed, is_of}
use Rattle.mf_policy.specs.Settings.{change_in, change_of, with_spec}
use Rattle.mf_policy.proofs.ByEntry.{change_at}
use Rattle.mf_policy.proofs.Places.{any_by_place, found, not_found}

entry_later : (x : Entry) (xs : List Entry) (i : ℕ) (d : Entry) → Some (get_or xs i d) ≡ Some (get_or (x ∷ xs) (1 + i) d)
entry_later x xs i d = rw (one-add i) refl

set_later : (x : Entry) (xs : List Entry) (i : ℕ) (e : Entry) → set (x ∷ xs) (1 + i) e ≡ x ∷ set xs i e
set_later x xs i e = rw (one-add i) refl

get_later : (x : Entry) (xs : List Entry) (i : ℕ) (d : Entry) → (get_or (x ∷ xs) (1 + i) d).0 ≡ (get_or xs i d).0
get_later x xs i d = rw (one-add i) refl

-- the entry at the first place
pub entry_at : (m : Module) (entries : List Entry) (d : Entry) → position_or_len (is_of m) entries < length entries → find (is_of m) entries ≡ Some (get_or entries (position_or_len (is_of m) entries) d)
entry_at m [] d h = absurd (omega arith)
entry_at m (x ∷ xs) d h =
    let P : ℕ = position_or_len (is_of m) xs in
    elim (is_of m x) as (λ b. (cond (not b) (1 + P) 0) < suc (length xs) → cond b (Some x) (find (is_of m) xs) ≡ Some (get_or (x ∷ xs) (cond (not b) (1 + P) 0) d)) [
      | true ↦ λ _. refl
      | false ↦ λ l. entry_at m xs d (omega arith) ∙ entry_later x xs P d
    ] h

-- a new spec at the first place
pub written_at : (m : Module) (entries : List Entry) (e : Entry) → position_or_len (is_of m) entries < length entries → e.0 ≡ (get_or entries (position_or_len (is_of m) entries) e).0 → set entries (position_or_len (is_of m) entries) e ≡ with_spec m e.1 entries
written_at m [] e h same = absurd (omega arith)
written_at m (x ∷ xs) e h same =
    let P : ℕ = position_or_len (is_of m) xs in
    elim (is_of m x) as (λ b. (cond (not b) (1 + P) 0) < suc (length xs) → e.0 ≡ (get_or (x ∷ xs) (cond (not b) (1 + P) 0) e).0 → set (x ∷ xs) (cond (not b) (1 + P) 0) e ≡ cond b ((x.0, e.1) ∷ xs) (x ∷ with_spec m e.1 xs)) [
      | true ↦ λ _ s. ap (λ (r : Registration). (r, e.1) ∷ xs) s
      | false ↦ λ l s. set_later x xs P e ∙ ap (λ (ys : List Entry). x ∷ ys) (written_at m xs e (omega arith) (s ∙ get_later x xs P e))
    ] h same

pub no_entry : (m : Module) (entries : List Entry) → is_listed m entries ≡ false → find (is_of m) entries ≡ None
no_entry m [] h = refl
no_entry m (x ∷ xs) h =
    elim (is_of m x) as (λ b. (b || list_any (is_of m) xs) ≡ false → cond b (Some x) (find (is_of m) xs) ≡ None) [
      | true ↦ λ l. cc
      | false ↦ λ l. no_entry m xs l
    ] h

one_registration : (x e : Entry) → Some x ≡ Some e → e.0 ≡ x.0
one_registration x e same = let one : x ≡ e = cc in sym (ap (λ (y : Entry). y.0) one)

-- what a change at the first place makes of the list
changed_at : (m : Module) (change : Change) (es : List Entry) (e : Entry) (answer : Changed) (spec : Spec) → position_or_len (is_of m) es < length es
    → e ≡ get_or es (position_or_len (is_of m) es) e → (answer, spec) ≡ change_of e.1 change
    → (answer, set es (position_or_len (is_of m) es) (e.0, spec)) ≡ change_in m change es
changed_at m change es e answer spec within is changed =
    let there : find (is_of m) es ≡ Some e = entry_at m es e within ∙ ap (λ (x : Entry). Some x) (sym is) in
    let P : ℕ = position_or_len (is_of m) es in
    let new : Entry = (e.0, spec) in
    let here : Some (get_or es P new) ≡ Some e = sym (entry_at m es new within) ∙ there in
    let same : new.0 ≡ (get_or es P new).0 = one_registration (get_or es P new) e here in
    ap (λ (xs : List Entry). (answer, xs)) (written_at m es new within same)
    ∙ ap (λ (p : Changed × Spec). (p.0, with_spec m p.1 es)) changed
    ∙ sym (ap (change_at m change es) there)

pub changed_found : (m : Module) (change : Change) (es : List Entry) (i : ℕ) (e : Entry) (answer : Result Changed AllocError) (spec : Spec) → position (is_of m) es ≡ Some i
    → e ≡ get_or es i e → IfOk answer (λ changed. (changed, spec) ≡ change_of e.1 change)
    → IfOk answer (λ changed. (changed, set es i (e.0, spec)) ≡ change_in m change es)
changed_found m change es i e (Err x) spec at is changed = tt
changed_found m change es i e (Ok answer) spec at is changed =
    let f = found (is_of m) es i at in
    let within : position_or_len (is_of m) es < length es =
    ltb-true (position_or_len (is_of m) es) (length es) (sym (any_by_place (is_of m) es) ∙ f.1) in
    subst (λ (k : ℕ). (answer, set es k (e.0, spec)) ≡ change_in m change es) f.0
    (changed_at m change es e answer spec within (subst (λ (k : ℕ). e ≡ get_or es k e) (sym f.0) is) changed)

pub unlisted_change : (m : Module) (change : Change) (es : List Entry) (answer : Changed) → position (is_of m) es ≡ None → answer ≡ (change_at m change es None).0
    → (answer, es) ≡ change_in m change es
unlisted_change m change es answer at is =
    ap (λ (a : Changed). (a, es)) is ∙ sym (ap (change_at m change es) (no_entry m es (not_found (is_of m) es at)))
