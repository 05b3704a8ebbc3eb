-- What a call changes of the policies, as an effect.
use Rattle.std.specs.Option.{option_zip}
use Rattle.std.specs.Prelude.{◌≡◌, ℕ, true, List, Option, Some, None, option_map}
use Rattle.mf_errno.specs.Names.{module_named}
use Rattle.mf_objects.specs.declared.id.Id.{Id}
use Rattle.mf_policy.specs.IsChange.{IsChange}
use Rattle.mf_policy.specs.Modules.{facts_of}
use Rattle.mf_calls.specs.declared.script.Call.{Call}
use Rattle.mf_calls.specs.Tasks.{is_change}
use Rattle.mf_plan.specs.declared.plan.Tail.TheVariants.{Do}
use Rattle.mf_plan.specs.declared.state.State.{State}
use Rattle.mf_plan.specs.Effect.{Effect}
use Rattle.mf_plan.specs.Effect.Effect.{Load as ToLoad, Unload as ToUnload, Set as ToSet}
use Rattle.mf_plan.specs.Plan.{row_for}
use Rattle.mf_plan.specs.Rows.{about_of}
use Rattle.mf_plan.specs.Ways.{Place}
use Rattle.mf_plan.specs.Ways.Place.{Loading, Setting, Unloading}
use Rattle.mf_perform.specs.declared.relisting.Relisting.{Relisting}
use Rattle.mf_perform.specs.declared.relisting.Relisting.TheVariants.{Load, Unload, Set}

abbrev pub effect_in : Relisting → Effect
effect_in (Load m) = ToLoad m
effect_in (Unload m) = ToUnload m
effect_in (Set m change) = ToSet m change

-- a setting is changed of a module that may be unloaded
abbrev pub SetsDynamic : Relisting → Type 0
SetsDynamic (Set m change) = (facts_of m).unload_ok ≡ true
SetsDynamic (Load m) = Unit {0}
SetsDynamic (Unload m) = Unit {0}

-- the values of the change fit
abbrev pub IsFormed : Relisting → Type 0
IsFormed (Set m change) = IsChange change
IsFormed (Load m) = Unit {0}
IsFormed (Unload m) = Unit {0}

-- what a call changes of the policies that is about this place, where it may be done; inner contracts alone cite this
abbrev pub relisting_at : Place → Option Relisting
relisting_at (Loading name) = option_map Load (module_named name)
relisting_at (Unloading name) = option_map Unload (module_named name)
relisting_at (Setting tunable m change) = option_map (λ asked. Set asked.0 asked.1) (option_zip m change)
relisting_at other = None

-- What is told of a call is what its place says; where the call is a change that may be done, that is the effect of its row, whoever makes it.
abbrev pub Tells : State → Call → Option Relisting → Type 0
Tells s c told =
    (task : List ℕ) → (me : Id) → (told ≡ relisting_at (about_of s task me c).place)
    × (is_change c ≡ true → (row_for s task c me).tail ≡ Do → option_map effect_in told ≡ Some (row_for s task c me).effect)
