-- What the row of a call says, by what was found.
use Rattle.std.proofs.Common.{◌≡◌, ℕ, Bool, true, false, not, ◌||◌, List, Option, Some, None, Result, Ok, Err, refl, ap, sym, ◌∙◌, if◌then◌else◌}
use Rattle.std.specs.Option.{option_zip, ok_or}
use Rattle.std.specs.Prelude.{nat_eq}
use Rattle.mf_errno.specs.Names.{module_named}
use Rattle.mf_errno.specs.declared.errno.Errno.TheVariants as errno
use Rattle.mf_errno.specs.declared.module.Module.{Module}
use Rattle.mf_errno.specs.declared.module.Module.TheVariants as modules
use Rattle.mf_errno.specs.declared.errno.Errno.{Errno}
use Rattle.mf_policy.specs.Registration.{is_listed}
use Rattle.mf_policy.specs.declared.settings.Change.{Change}
use Rattle.mf_policy.specs.declared.settings.Change.TheVariants.{RuleAdd}
use Rattle.mf_objects.specs.Live.{cred_at}
use Rattle.mf_calls.specs.Tasks.{is_change}
use Rattle.mf_calls.specs.declared.script.Call.TheVariants as call
use Rattle.mf_objects.specs.declared.id.Id.{Id}
use Rattle.mf_calls.specs.declared.script.Call.{Call}
use Rattle.mf_plan.specs.declared.found.Found.{Found}
use Rattle.mf_plan.specs.declared.state.State.{State}
use Rattle.mf_plan.specs.Plan.{row_for}
use Rattle.mf_plan.specs.Row.{Row, through}
use Rattle.mf_plan.specs.Rows.{about_of}
use Rattle.mf_plan.specs.Ways.{At, asked_in, target_in, way_to}
use Rattle.mf_plan.specs.Found.{IsAbout}
use Rattle.mf_plan.specs.Effect.Effect.{Open}
use Rattle.mf_perform.specs.declared.descriptors.Opening.{Opening}
use Rattle.mf_perform.specs.Found.{effect_found, fd_by, is_open_call, opening_of, payload_found, rule_added, slot}
use Rattle.mf_text.specs.Results.{and_then}

module _ (s : State) (task : List ℕ) (me : Id) (c : Call) (found : Found) (is : IsAbout s task me c found) where
  -- the row of the call, with what was found
  abbrev pub row_there : Row
  row_there = (about_of s task me c).row is.what

  abbrev there_is : Result (At (about_of s task me c).place) Errno → Row
  there_is there = through (record { checks = (way_to s me (about_of s task me c).place).checks; there = there }) (about_of s task me c).row

  pub tail_there : (row_for s task c me).tail ≡ row_there.tail
  tail_there = ap (λ (there : Result (At (about_of s task me c).place) Errno). (there_is there).tail) is.there

  pub payload_there : (row_for s task c me).payload ≡ row_there.payload
  payload_there = ap (λ (there : Result (At (about_of s task me c).place) Errno). (there_is there).payload) is.there

  pub effect_there : (row_for s task c me).effect ≡ row_there.effect
  effect_there = ap (λ (there : Result (At (about_of s task me c).place) Errno). (there_is there).effect) is.there

-- By call: the target and the request that go with what is found tell its effect, where it is no change of the policies, and what it
-- hands back. Of a file that is opened they do so with what mac_biba has in the labels.

effect_row : (s : State) (task : List ℕ) (me : Id) (opening : Opening) (c : Call) (what : At (about_of s task me c).place) → is_change c ≡ false
    → (is_open_call c ≡ true → opening ≡ opening_of s (Some me) (target_in (about_of s task me c).place what))
    → effect_found s task me opening c (target_in (about_of s task me c).place what) (asked_in (about_of s task me c).place what) ≡ ((about_of s task me c).row what).effect
effect_row s task me opening (call.Kldload name) what entry seen = cc
effect_row s task me opening (call.Kldunload name) what entry seen = cc
effect_row s task me opening (call.Sysctl name value) what entry seen = cc
effect_row s task me opening (call.UgidfwAdd rule) what entry seen = cc
effect_row s task me opening (call.UgidfwSet n rule) what entry seen = cc
effect_row s task me opening (call.UgidfwRemove n) what entry seen = cc
effect_row s task me opening (call.OpenFd path read write) id entry seen = ap (λ (o : Opening). Open me (fd_by s me read write o id)) (seen refl)
effect_row s task me opening other what entry seen = refl

named_so : {A : Type 0} (e : Errno) (holder : Option A) (a : A) → ok_or holder e ≡ Ok a → holder ≡ Some a
named_so e None a is = cc
named_so e (Some x) a is = cc

set_so : (s : State) (root : Bool) (m : Option Module) (change : Option Change) (asked : Module × Change)
    → (if root then Err errno.Eperm else
    and_then (ok_or m errno.Enoent) (λ m. if not (is_listed m s.specs) then Err errno.Enoent else and_then (ok_or change errno.Einval) (λ change. Ok (m, change)))) ≡ Ok asked
    → option_zip m change ≡ Some asked
set_so s true m change asked is = cc
set_so s false None change asked is = cc
set_so s false (Some m) change asked is = one (is_listed m s.specs) change is
  where
    one : (b : Bool) (change : Option Change) → (if not b then Err errno.Enoent else and_then (ok_or change errno.Einval) (λ change. Ok (m, change))) ≡ Ok asked
        → option_zip (Some m) change ≡ Some asked
    one true (Some change) is = cc
    one true None is = cc
    one false change is = cc

payload_row : (s : State) (task : List ℕ) (me : Id) (c : Call) (what : At (about_of s task me c).place) → (way_to s me (about_of s task me c).place).there ≡ Ok what
    → payload_found s (Some me) c (target_in (about_of s task me c).place what) ≡ ((about_of s task me c).row what).payload
payload_row s task me (call.Kldload name) m there = ap (slot s.numbers) (named_so errno.Enoent (module_named name) m there)
payload_row s task me (call.UgidfwAdd rule) asked there =
    ap (rule_added s.specs) (set_so s (not (nat_eq (cred_at s.objects me).uid 0) || false) (Some modules.Bsdextended) (Some (RuleAdd rule)) asked there)
payload_row s task me other what there = refl

module _ (s : State) (task : List ℕ) (me : Id) (c : Call) (found : Found) (is : IsAbout s task me c found) where
  pub effect_is : (opening : Opening) → is_change c ≡ false → (is_open_call c ≡ true → opening ≡ opening_of s (Some me) found.target)
      → effect_found s task me opening c found.target found.request ≡ (row_for s task c me).effect
  effect_is opening entry seen =
      ap (λ (target : Option Id). effect_found s task me opening c target found.request) is.target
      ∙ ap (effect_found s task me opening c (target_in (about_of s task me c).place is.what)) is.request
      ∙ effect_row s task me opening c is.what entry (λ opened. seen opened ∙ ap (opening_of s (Some me)) is.target) ∙ sym (effect_there s task me c found is)

  pub payload_is : payload_found s (Some me) c found.target ≡ (row_for s task c me).payload
  payload_is = ap (payload_found s (Some me) c) is.target ∙ payload_row s task me c is.what is.there ∙ sym (payload_there s task me c found is)
