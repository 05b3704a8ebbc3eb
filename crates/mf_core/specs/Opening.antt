-- The registrations at boot, and the opening state of a script, by docs/MANUAL.md (THE SCRIPT).
use Rattle.std.specs.Option.{option_map_or}
use Rattle.std.specs.Prelude.{ℕ, false, true, List, [], ◌∷◌, fold, None}
use Rattle.mf_errno.specs.declared.module.Module.{Module}
use Rattle.mf_errno.specs.declared.module.Module.TheVariants as modules
use Rattle.mf_elem.specs.Label.{no_request}
use Rattle.mf_item.specs.declared.view.Kind.TheVariants as kinds
use Rattle.mf_policy.specs.declared.registration.Registration.{Registration}
use Rattle.mf_policy.specs.declared.labels.Origin.TheVariants.{Boot}
use Rattle.mf_policy.specs.NewLabels.{new_label}
use Rattle.mf_policy.specs.declared.spec.Spec.{Spec}
use Rattle.mf_policy.specs.Modules.{fresh_of}
use Rattle.mf_policy.specs.Settings.{change_in, change_of}
use Rattle.mf_policy.specs.declared.settings.Change.TheVariants.{Revocation}
use Rattle.mf_policy.specs.Registration.{Entry, given_after, registration_of, with_registered}
use Rattle.mf_objects.specs.Live.{Entities}
use Rattle.mf_objects.specs.Changes as objects
use Rattle.mf_objects.specs.Changes.{with_root}
use Rattle.mf_calls.specs.declared.script.Task.{Task}
use Rattle.mf_calls.specs.declared.script.FileLine.{FileLine}
use Rattle.mf_calls.specs.declared.script.Script.{Script}
use Rattle.mf_plan.specs.declared.state.State.{State}
use Rattle.mf_plan.specs.declared.target.Target.{Target}
use Rattle.mf_plan.specs.declared.target.Target.TheVariants.{Name}
use Rattle.mf_plan.specs.Path.{last_name, lookup_along}
use Rattle.mf_plan.specs.Views.{process_named}

-- Registrations

-- the registrations of these modules at boot, in order, where so many slot numbers were given before
abbrev pub registrations_from : ℕ → List Module → List Registration
registrations_from given [] = []
registrations_from given (m ∷ ms) = registration_of m false given ∷ registrations_from (given_after given m) ms

abbrev pub boots_of : Script → List Registration
boots_of s = registrations_from 0 s.boots

-- the policies that are listed at the end of boot, in walk order; mac_biba's tests transfers where the script's tunable says so
abbrev pub booted_specs : Script → List Entry
booted_specs s = (change_in modules.Biba (Revocation s.revocation) (fold with_registered [] (boots_of s))).1

-- the spec of a booted module then
abbrev pub spec_at_boot : Script → Module → Spec
spec_at_boot s m = (change_of (fresh_of m) (Revocation s.revocation)).1

-- Entities

-- A file is made in the directory that its path names. In a well-formed script that is there, and the name is free.
abbrev pub with_file_at : List Entry → Entities → FileLine → Target → Entities
with_file_at listed o f (Name dir None) =
    objects.with_entity o (last_name f.path) (new_label listed kinds.Vnode (Boot f.label)) (objects.new_vnode dir f.file f.text)
with_file_at listed o f other = o

abbrev pub with_file : List Entry → Entities → FileLine → Entities
with_file listed o f = with_file_at listed o f (lookup_along o f.path).target

-- The process of a task is made under its name, which in a well-formed script is free.
abbrev pub with_task : List Entry → Entities → Task → Entities
with_task listed o t =
    option_map_or (λ id. o) (process_named o t.name) (objects.with_entity o t.name (new_label listed kinds.Process (Boot t.label)) (objects.new_process t.cred))

-- the root directory, with the label of a file for which nothing is asked, then the files one after another, then the processes of the tasks
abbrev pub opening_objects : List Entry → Script → Entities
opening_objects listed s = fold (with_task listed) (fold (with_file listed) (with_root (new_label listed kinds.Vnode (Boot no_request))) s.files) s.tasks

-- the state at the end of boot
abbrev pub opening_state : Script → State
opening_state s = record { objects = opening_objects (booted_specs s) s; specs = booted_specs s; numbers = fold given_after 0 s.boots; booted = true }
