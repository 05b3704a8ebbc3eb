-- What a change of a policy's setting does to the list.
use Rattle.std.proofs.Common.{◌≡◌, ℕ, List, Option, Some, Result, Ok, Err, IfOk, find, get_or, set, ap, sym, ◌∙◌}
use Rattle.mf_errno.specs.declared.module.Module.{Module}
use Rattle.mf_policy.specs.declared.settings.Change.{Change}
use Rattle.mf_policy.specs.declared.settings.Changed.{Changed}
use Rattle.mf_policy.specs.Registration.{Entry, is_of}
use Rattle.mf_policy.specs.declared.spec.Spec.{Spec}
use Rattle.mf_policy.specs.Settings.{change_of}
use Rattle.mf_list.specs.Places.{IsEntryPlace}
use Rattle.mf_list.specs.Registration.{change_in, with_spec}
use Rattle.mf_policy.proofs.ByEntry.{change_at}
use Rattle.std.specs.declared.alloc.AllocError.{AllocError}

one_entry : (o : Option Entry) (a b : Entry) → o ≡ Some a → o ≡ Some b → a ≡ b
one_entry o a b is_a is_b = cc

-- the registration at the place stays
pub stays_at : (m : Module) (entries : List Entry) (place : ℕ) (old new : Entry)
    → IsEntryPlace m entries place → old ≡ get_or entries place old → new.0 ≡ old.0 → new.0 ≡ (get_or entries place new).0
stays_at m entries place old new at is same =
    same ∙ ap (λ (e : Entry). e.0) is ∙ ap (λ (e : Entry). e.0) (one_entry (find (is_of m) entries) (get_or entries place old) (get_or entries place new) (at.entry old) (at.entry new))

pub changed_in : (m : Module) (change : Change) (entries : List Entry) (place : ℕ) (o : Result Changed AllocError) (old new : Entry)
    → IsEntryPlace m entries place → old ≡ get_or entries place old → new.0 ≡ old.0
    → IfOk o (λ changed. (changed, new.1) ≡ change_of old.1 change)
    → IfOk o (λ changed. (changed, set entries place new) ≡ change_in m change entries)
changed_in m change entries place (Err e) old new at is same ok = tt
changed_in m change entries place (Ok changed) old new at is same ok =
    ap (λ (es : List Entry). (changed, es)) (at.written new (stays_at m entries place old new at is same))
    ∙ ap (λ (p : Changed × Spec). (p.0, with_spec m p.1 entries)) ok
    ∙ sym (ap (change_at m change entries) (at.entry old ∙ ap (λ (e : Entry). Some e) (sym is)))
