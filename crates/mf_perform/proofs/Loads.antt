-- What a call that may be done asks of the list of policies: a module that may be loaded, or unloaded, or a setting.
use Rattle.std.proofs.Common.{◌≡◌, ℕ, ◌<◌, ◌&&◌, ◌||◌, Bool, true, false, not, List, [], Option, Some, None, option_map, Result, Ok, Err, refl, ap, sym, ◌∙◌, subst, if◌then◌else◌}
use Rattle.std.proofs.lemmas.Bool.{leb-false}
use Rattle.std.specs.Option.{option_map_or, option_zip, ok_or}
use Rattle.std.specs.Prelude.{nat_eq, nat_le, option_and_then, IfSome}
use Rattle.mf_errno.specs.Names.{module_named}
use Rattle.mf_errno.specs.declared.errno.Errno.{Errno}
use Rattle.mf_errno.specs.declared.errno.Errno.TheVariants as errno
use Rattle.mf_errno.specs.declared.module.Module.{Module}
use Rattle.mf_errno.specs.declared.module.Module.TheVariants as modules
use Rattle.mf_policy.specs.declared.loading.LoadFault.TheVariants.{NotLate, Exists, NoSlot}
use Rattle.mf_policy.specs.declared.settings.Change.{Change}
use Rattle.mf_policy.specs.declared.settings.Change.TheVariants.{RuleAdd, RuleSet, RuleRemove}
use Rattle.mf_policy.specs.Loading.{load_errno, load_fault, unload_errno, unload_fault}
use Rattle.mf_policy.specs.Modules.{facts_of, wants_slot}
use Rattle.mf_policy.specs.Registration.{Entry, is_listed}
use Rattle.mf_policy.specs.Sysctls.{asked_of, sysctl_named, sysctl_row}
use Rattle.mf_policy.specs.declared.sysctl.Sysctl.{Sysctl}
use Rattle.mf_policy.specs.declared.sysctl.Sysctl.TheVariants as sysctl
use Rattle.mf_objects.specs.declared.id.Id.{Id}
use Rattle.mf_objects.specs.Live.{cred_at}
use Rattle.mf_calls.specs.declared.script.Call.{Call}
use Rattle.mf_calls.specs.declared.script.Call.TheVariants as call
use Rattle.mf_plan.specs.declared.outline.Check.{Check}
use Rattle.mf_plan.specs.declared.plan.Tail.TheVariants.{Do, Refuse}
use Rattle.mf_plan.specs.declared.state.State.{State}
use Rattle.mf_plan.specs.Effect.{Effect}
use Rattle.mf_plan.specs.Effect.Effect.{Load, Unload, Set}
use Rattle.mf_plan.specs.Loading.{load_refusal, unload_refusal}
use Rattle.mf_plan.specs.Plan.{row_for}
use Rattle.mf_plan.specs.declared.reply.Payload.TheVariants as payload
use Rattle.mf_plan.specs.Row.{Row, changes, refuse_by, through, returns}
use Rattle.mf_plan.specs.Rows.{about_of}
use Rattle.mf_plan.specs.Settings.{is_tunable, owner_named, unless_success}
use Rattle.mf_policy.specs.Settings.{change_in}
use Rattle.mf_calls.specs.Tasks.{is_change}
use Rattle.mf_perform.specs.declared.relisting.Relisting.{Relisting}
use Rattle.mf_perform.specs.declared.relisting.Relisting.TheVariants.{Load as ToLoad, Unload as ToUnload, Set as ToSet}
use Rattle.mf_perform.specs.Relisting.{effect_in, relisting_at, SetsDynamic}
use Rattle.mf_plan.specs.Ways.{At, setting_found, straight, way_to}
use Rattle.mf_plan.specs.Ways.Place.{Setting}
use Rattle.mf_text.specs.Results.{and_then}

-- What an effect needs of the list

abbrev pub SuitsList : State → Effect → Type 0
SuitsList s (Load m) = load_fault s.booted s.specs s.numbers m ≡ None
SuitsList s (Unload m) = unload_fault s.specs m ≡ None
SuitsList s other = Unit {0}

no_refusal : (fault : Option Errno) → (option_map_or Refuse fault Do) ≡ Do → fault ≡ None
no_refusal None done = refl
no_refusal (Some e) done = cc

no_errno : {F : Type 0} (errno : F → Errno) (fault : Option F) → option_map errno fault ≡ None → fault ≡ None
no_errno errno None none = refl
no_errno errno (Some f) none = cc

pub suits_list : (s : State) (task : List ℕ) (me : Id) (c : Call) (what : At (about_of s task me c).place) → ((about_of s task me c).row what).tail ≡ Do
    → SuitsList s ((about_of s task me c).row what).effect
suits_list s task me (call.Kldload name) m done = no_errno load_errno (load_fault s.booted s.specs s.numbers m) (no_refusal (load_refusal s m) done)
suits_list s task me (call.Kldunload name) m done = no_errno unload_errno (unload_fault s.specs m) (no_refusal (unload_refusal s m) done)
suits_list s task me other what done = tt

-- a module that can be loaded and wants a slot finds one
not_full : (late listed wants full : Bool) → (if late then Some NotLate else if listed then Some Exists else if wants && full then Some NoSlot else None) ≡ None
    → wants ≡ true → full ≡ false
not_full true listed wants full none is = cc
not_full false true wants full none is = cc
not_full false false true true none is = cc
not_full false false true false none is = refl
not_full false false false full none is = cc

pub has_slot : (s : State) (m : Module) → load_fault s.booted s.specs s.numbers m ≡ None → wants_slot m ≡ true → s.numbers < 4
has_slot s m none wants =
    leb-false 4 s.numbers (not_full (s.booted && (facts_of m).not_late) (is_listed m s.specs) (wants_slot m) (nat_le 4 s.numbers) none wants)

-- What a change of the policies is, where it may be done

told_module : (found : Option Module) (to : Module → Relisting) (effect : Module → Effect) → ((m : Module) → effect_in (to m) ≡ effect m)
    → option_map effect_in (option_map to found) ≡ option_map effect found
told_module None to effect same = refl
told_module (Some m) to effect same = ap (λ (e : Effect). Some e) (same m)

told_setting : (found : Option (Module × Change)) → option_map effect_in (option_map (λ asked. ToSet asked.0 asked.1) found) ≡ option_map (λ asked. Set asked.0 asked.1) found
told_setting None = refl
told_setting (Some asked) = refl

found_module : (checks : List Check) (row : Module → Row) (effect : Module → Effect) → ((m : Module) → (row m).effect ≡ effect m) → (found : Option Module)
    → (through (record { checks = checks; there = ok_or found errno.Enoent }) row).tail ≡ Do
    → option_map effect found ≡ Some (through (record { checks = checks; there = ok_or found errno.Enoent }) row).effect
found_module checks row effect same None done = cc
found_module checks row effect same (Some m) done = ap (λ (e : Effect). Some e) (sym (same m))

module _ (s : State) (me : Id) (rest : Module × Change → Row) (same : (asked : Module × Change) → (rest asked).effect ≡ Set asked.0 asked.1) where
  abbrev set_row : Module × Change → Row
  set_row asked = refuse_by (unless_success (change_in asked.0 asked.1 s.specs).0.errno) (rest asked)

  abbrev to_set : Module × Change → Effect
  to_set asked = Set asked.0 asked.1

  by_listed : (b : Bool) (m : Module) (change : Option Change)
      → (through (straight (if not b then Err errno.Enoent else and_then (ok_or change errno.Einval) (λ change. Ok (m, change)))) set_row).tail ≡ Do
      → option_map to_set (option_zip (Some m) change)
      ≡ Some (through (straight (if not b then Err errno.Enoent else and_then (ok_or change errno.Einval) (λ change. Ok (m, change)))) set_row).effect
  by_listed true m (Some change) done = ap (λ (e : Effect). Some e) (sym (same (m, change)))
  by_listed true m None done = cc
  by_listed false m change done = cc

  by_root : (b : Bool) (m : Option Module) (change : Option Change)
      → (through (straight (if b then Err errno.Eperm else
      and_then (ok_or m errno.Enoent) (λ m. if not (is_listed m s.specs) then Err errno.Enoent else and_then (ok_or change errno.Einval) (λ change. Ok (m, change))))) set_row).tail ≡ Do
      → option_map to_set (option_zip m change)
      ≡ Some (through (straight (if b then Err errno.Eperm else
      and_then (ok_or m errno.Enoent) (λ m. if not (is_listed m s.specs) then Err errno.Enoent else and_then (ok_or change errno.Einval) (λ change. Ok (m, change))))) set_row).effect
  by_root false (Some m) change done = by_listed (is_listed m s.specs) m change done
  by_root false None change done = cc
  by_root true m change done = cc

  set_there : (tunable : Bool) (m : Option Module) (change : Option Change) → (through (straight (setting_found s me tunable m change)) set_row).tail ≡ Do
      → option_map effect_in (relisting_at (Setting tunable m change)) ≡ Some (through (straight (setting_found s me tunable m change)) set_row).effect
  set_there tunable m change done = told_setting (option_zip m change) ∙ by_root (not (nat_eq (cred_at s.objects me).uid 0) || tunable) m change done

-- a change that may be done has the effect that is told, whoever makes it
pub relisting_is : (s : State) (task : List ℕ) (me : Id) (c : Call) → is_change c ≡ true → (row_for s task c me).tail ≡ Do
    → option_map effect_in (relisting_at (about_of s task me c).place) ≡ Some (row_for s task c me).effect
relisting_is s task me (call.Kldload name) change done =
    told_module (module_named name) (λ m. ToLoad m) (λ m. Load m) (λ m. refl)
    ∙ found_module [] (about_of s task me (call.Kldload name)).row (λ m. Load m) (λ m. refl) (module_named name) done
relisting_is s task me (call.Kldunload name) change done =
    told_module (module_named name) (λ m. ToUnload m) (λ m. Unload m) (λ m. refl)
    ∙ found_module [] (about_of s task me (call.Kldunload name)).row (λ m. Unload m) (λ m. refl) (module_named name) done
relisting_is s task me (call.Sysctl name value) change done =
    set_there s me (λ asked. changes (Set asked.0 asked.1)) (λ asked. refl) (is_tunable s.specs name) (owner_named name)
    (option_and_then (λ v. if (sysctl_row v).tunable then None else asked_of v s.specs value) (sysctl_named name)) done
relisting_is s task me (call.UgidfwAdd rule) change done =
    set_there s me (λ asked. returns (option_map_or payload.Rule (change_in asked.0 asked.1 s.specs).0.number payload.None) (Set asked.0 asked.1))
    (λ asked. refl) false (Some modules.Bsdextended) (Some (RuleAdd rule)) done
relisting_is s task me (call.UgidfwSet n rule) change done =
    set_there s me (λ asked. changes (Set asked.0 asked.1)) (λ asked. refl) false (Some modules.Bsdextended) (Some (RuleSet n rule)) done
relisting_is s task me (call.UgidfwRemove n) change done =
    set_there s me (λ asked. changes (Set asked.0 asked.1)) (λ asked. refl) false (Some modules.Bsdextended) (Some (RuleRemove n)) done
relisting_is s task me other change done = cc

-- A change of a setting is of a module that may be unloaded: no other has one

abbrev pub MayBeUnloaded : Module → Type 0
MayBeUnloaded m = (facts_of m).unload_ok ≡ true

sysctl_unloadable : (s : Sysctl) → (sysctl_row s).tunable ≡ false → MayBeUnloaded (sysctl_row s).owner
sysctl_unloadable sysctl.RevocationEnabled is = cc
sysctl_unloadable other is = refl

no_setting : (to : Module → Relisting) → ((m : Module) → SetsDynamic (to m)) → (found : Option Module) → IfSome (option_map to found) SetsDynamic
no_setting to is None = tt
no_setting to is (Some m) = is m

sets : (m : Option Module) (change : Option Change) → IfSome m MayBeUnloaded → IfSome (option_map (λ asked. ToSet asked.0 asked.1) (option_zip m change)) SetsDynamic
sets None change may = tt
sets (Some m) None may = tt
sets (Some m) (Some change) may = may

sets_named : (listed : List Entry) (value : List ℕ) (named : Option Sysctl)
    → IfSome (option_map (λ asked. ToSet asked.0 asked.1) (option_zip (option_map (λ s. (sysctl_row s).owner) named)
    (option_and_then (λ s. if (sysctl_row s).tunable then None else asked_of s listed value) named))) SetsDynamic
sets_named listed value None = tt
sets_named listed value (Some s) = one (sysctl_row s).tunable refl
  where
    one : (b : Bool) → (sysctl_row s).tunable ≡ b
        → IfSome (option_map (λ asked. ToSet asked.0 asked.1) (option_zip (Some (sysctl_row s).owner) (if b then None else asked_of s listed value))) SetsDynamic
    one true is = tt
    one false is = sets (Some (sysctl_row s).owner) (asked_of s listed value) (sysctl_unloadable s is)

pub sets_dynamic : (s : State) (task : List ℕ) (me : Id) (c : Call) → IfSome (relisting_at (about_of s task me c).place) SetsDynamic
sets_dynamic s task me (call.Kldload name) = no_setting (λ m. ToLoad m) (λ m. tt) (module_named name)
sets_dynamic s task me (call.Kldunload name) = no_setting (λ m. ToUnload m) (λ m. tt) (module_named name)
sets_dynamic s task me (call.Sysctl name value) = sets_named s.specs value (sysctl_named name)
sets_dynamic s task me (call.UgidfwAdd rule) = refl
sets_dynamic s task me (call.UgidfwSet n rule) = refl
sets_dynamic s task me (call.UgidfwRemove n) = refl
sets_dynamic s task me other = tt

-- so a call that may be done changes the setting of no other

abbrev pub SetsUnloadable : Effect → Type 0
SetsUnloadable (Set m change) = MayBeUnloaded m
SetsUnloadable other = Unit {0}

told_sets : (told : Option Relisting) (e : Effect) → IfSome told SetsDynamic → option_map effect_in told ≡ Some e → SetsUnloadable e
told_sets None e dynamic is = cc
told_sets (Some (ToLoad m)) e dynamic is = let same : Load m ≡ e = cc in subst SetsUnloadable same tt
told_sets (Some (ToUnload m)) e dynamic is = let same : Unload m ≡ e = cc in subst SetsUnloadable same tt
told_sets (Some (ToSet m change)) e dynamic is = let same : Set m change ≡ e = cc in subst SetsUnloadable same dynamic

-- an entry sets nothing
entry_sets : (s : State) (task : List ℕ) (me : Id) (c : Call) (checks : List Check) (there : Result (At (about_of s task me c).place) Errno)
    → is_change c ≡ false → SetsUnloadable (through (record { checks = checks; there = there }) (about_of s task me c).row).effect
entry_sets s task me c checks (Err e) entry = tt
entry_sets s task me (call.Kldload name) checks (Ok what) entry = cc
entry_sets s task me (call.Kldunload name) checks (Ok what) entry = cc
entry_sets s task me (call.Sysctl name value) checks (Ok what) entry = cc
entry_sets s task me (call.UgidfwAdd rule) checks (Ok what) entry = cc
entry_sets s task me (call.UgidfwSet n rule) checks (Ok what) entry = cc
entry_sets s task me (call.UgidfwRemove n) checks (Ok what) entry = cc
entry_sets s task me other checks (Ok what) entry = tt

pub row_sets : (s : State) (task : List ℕ) (me : Id) (c : Call) → (row_for s task c me).tail ≡ Do → SetsUnloadable (row_for s task c me).effect
row_sets s task me c done = one (is_change c) refl
  where
    one : (b : Bool) → is_change c ≡ b → SetsUnloadable (row_for s task c me).effect
    one true change =
        told_sets (relisting_at (about_of s task me c).place) (row_for s task c me).effect (sets_dynamic s task me c) (relisting_is s task me c change done)
    one false entry =
        let place = (about_of s task me c).place in
        entry_sets s task me c (way_to s me place).checks (way_to s me place).there entry
