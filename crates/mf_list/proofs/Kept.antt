-- What keeps the policies of the static list such that they stay in it, and those of the dynamic list such that they may leave it.
use Rattle.std.proofs.Common.{◌≡◌, ℕ, true, false, cond, List, [], ◌∷◌, All, Option, Some, None, Result, Ok, Err, IfOk, OnErr, find, ap, sym, subst, suc, zero}
use Rattle.std.specs.List.{remove}
use Rattle.std.proofs.lemmas.List.Elements.{All-cons, All-head, All-tail}
use Rattle.mf_errno.specs.declared.module.Module.{Module}
use Rattle.mf_policy.specs.Registration.{Entry, is_of}
use Rattle.mf_policy.specs.declared.settings.Change.{Change}
use Rattle.mf_policy.specs.declared.settings.Changed.{Changed}
use Rattle.mf_policy.specs.declared.spec.Spec.{Spec}
use Rattle.mf_policy.specs.Settings.{change_in, change_of, with_spec}
use Rattle.mf_policy.proofs.ByEntry.{change_at}
use Rattle.std.specs.declared.alloc.AllocError.{AllocError}

pub all_removed : {X : Type 0} (P : X → Type 0) (xs : List X) (i : ℕ) → All P xs → All P (remove xs i)
all_removed P [] zero all = all
all_removed P [] (suc i) all = all
all_removed P (x ∷ xs) zero all = All-tail P x xs all
all_removed P (x ∷ xs) (suc i) all = All-cons P x (remove xs i) (All-head P x xs all) (all_removed P xs i (All-tail P x xs all))

-- what is so of an entry whatever its spec is so of each after a change of a setting
module _ (P : Entry → Type 0) (whatever : (x : Entry) (spec : Spec) → P x → P (x.0, spec)) where
  kept_with : (k : Module) (spec : Spec) (es : List Entry) → All P es → All P (with_spec k spec es)
  kept_with k spec [] all = all
  kept_with k spec (x ∷ xs) all =
      let first = All-head P x xs all in
      let rest = All-tail P x xs all in
      elim (is_of k x) as (λ b. All P (cond b ((x.0, spec) ∷ xs) (x ∷ with_spec k spec xs))) [
        | true ↦ All-cons P (x.0, spec) xs (whatever x spec first) rest
        | false ↦ All-cons P x (with_spec k spec xs) first (kept_with k spec xs rest)
      ]

  kept_at : (k : Module) (change : Change) (es : List Entry) (found : Option Entry) → All P es → All P (change_at k change es found).1
  kept_at k change es None all = all
  kept_at k change es (Some entry) all = kept_with k (change_of entry.1 change).1 es all

  pub kept_after_change : (k : Module) (change : Change) (list list' : List Entry) (o : Result Changed AllocError)
      → IfOk o (λ changed. (changed, list') ≡ change_in k change list) → OnErr o (list' ≡ list) → All P list → All P list'
  kept_after_change k change list list' (Ok changed) is err all =
      subst (λ (es : List Entry). All P es) (sym (ap (λ (p : Changed × List Entry). p.1) is)) (kept_at k change list (find (is_of k) list) all)
  kept_after_change k change list list' (Err e) ok same all = subst (λ (es : List Entry). All P es) (sym same) all
