-- What a call is about, as it was found.
use Rattle.std.specs.Option.{option_zip}
use Rattle.std.specs.Prelude.{◌≡◌, ℕ, Bool, true, false, List, Option, Some, None, Ok}
use Rattle.mf_errno.specs.declared.module.Module.{Module}
use Rattle.mf_elem.specs.declared.label.Request.{Request}
use Rattle.mf_item.specs.declared.view.Kind.{Kind}
use Rattle.mf_item.specs.declared.view.Kind.TheVariants as kinds
use Rattle.mf_objects.specs.declared.id.Id.{Id}
use Rattle.mf_objects.specs.declared.descriptors.Fd.{Fd}
use Rattle.mf_policy.specs.declared.settings.Change.{Change}
use Rattle.mf_calls.specs.declared.script.Call.{Call}
use Rattle.mf_plan.specs.declared.found.Found.{Found}
use Rattle.mf_plan.specs.declared.state.State.{State}
use Rattle.mf_plan.specs.Names.{caller_name}
use Rattle.mf_plan.specs.Path.{file_at_path}
use Rattle.mf_plan.specs.Places.{entry_at_path, free_dir_at}
use Rattle.mf_plan.specs.Relabels.{claimed_in}
use Rattle.mf_plan.specs.Rows.{about_of}
use Rattle.mf_plan.specs.Views.{entity_named, process_named}
use Rattle.mf_plan.specs.Ways.{At, Place, way_to, asked_in, opened_at, opened_file_at, target_in}
use Rattle.mf_plan.specs.Ways.Place.{Asking, Caller, Entry, File, Free, Named, Opened, Setting, Sockets, Unused}

-- what a call of this process is about
pub record IsAbout (s : State) (task : List ℕ) (me : Id) (c : Call) (found : Found) : Type 0 where
  pub what : At (about_of s task me c).place
  pub there : (way_to s me (about_of s task me c).place).there ≡ Ok what
  pub target : found.target ≡ target_in (about_of s task me c).place what
  pub request : found.request ≡ asked_in (about_of s task me c).place what

-- who calls, and what the call is about
pub record AreFound (s : State) (task : List ℕ) (child : Option (List ℕ)) (c : Call) (found : Found) : Type 0 where
  pub me : Id
  pub caller : found.caller ≡ Some me
  pub named : process_named s.objects (caller_name task child) ≡ Some me
  pub is : IsAbout s task me c found

-- The same before it is known whether anything is there; inner contracts alone cite this

-- the entity that is found in a place
abbrev pub target_at : State → Id → Place → Option Id
target_at s me Caller = Some me
target_at s me (Named kind name) = entity_named s.objects kind name
target_at s me (File path) = file_at_path s.objects path
target_at s me (Free path) = free_dir_at s.objects path
target_at s me (Entry path) = entry_at_path s.objects path
target_at s me (Opened access n) = opened_file_at s.objects me access n
target_at s me (Sockets from to) = entity_named s.objects kinds.Socket to
target_at s me (Asking kind text place) = target_at s me place
target_at s me other = None

-- the descriptor that a call goes through
abbrev pub descriptor_at : State → Id → Place → Option Fd
descriptor_at s me (Opened access n) = opened_at s.objects me access n
descriptor_at s me other = None

-- what is asked of a label
abbrev pub asked_at : State → Place → Option Request
asked_at s (Asking kind text place) = claimed_in s.specs kind text
asked_at s other = None

-- the module whose setting is to be changed, and the change that it is to have
abbrev pub setting_at : Place → Option Module × Option Change
setting_at (Setting tunable m change) = (m, change)
setting_at other = (None, None)

-- whether nobody may change it
abbrev pub tunable_at : Place → Bool
tunable_at (Setting tunable m change) = tunable
tunable_at other = false

abbrev pub is_setting : Place → Bool
is_setting (Setting tunable m change) = true
is_setting other = false

-- of which kind the entity is that a call is about, which it names
abbrev pub kind_of_place : Place → Option Kind
kind_of_place (Named kind name) = Some kind
kind_of_place (Unused kind name) = Some kind
kind_of_place (File path) = Some kinds.Vnode
kind_of_place (Free path) = Some kinds.Vnode
kind_of_place (Entry path) = Some kinds.Vnode
kind_of_place (Opened access n) = Some kinds.Vnode
kind_of_place (Sockets from to) = Some kinds.Socket
kind_of_place (Asking kind text place) = Some kind
kind_of_place other = None

-- the change of a setting, where there is a setting of the name and it has such a value
abbrev pub asked_change : Place → Option (Module × Change)
asked_change place = option_zip (setting_at place).0 (setting_at place).1
