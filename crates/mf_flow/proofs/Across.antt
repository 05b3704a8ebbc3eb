-- The parts of what a call makes of the sources, by names.
use Rattle.std.specs.Option.{option_map_or}
use Rattle.std.specs.Prelude.{◌&&◌, ◌==◌, Bool, false, List, [], fold, Option}
use Rattle.mf_elem.specs.declared.elem.Elem.{Elem}
use Rattle.mf_elem.specs.declared.label.Request.{Request}
use Rattle.mf_item.specs.Item.{Item}
use Rattle.mf_item.specs.declared.view.ObjectView.{ObjectView}
use Rattle.mf_policy.specs.declared.operations.Movement.{Movement}
use Rattle.mf_policy.specs.declared.registration.Registration.{Registration}
use Rattle.mf_objects.specs.declared.id.Id.{Id}
use Rattle.mf_objects.specs.Live.{Entities, label_at, live_at}
use Rattle.mf_calls.specs.declared.script.Script.{Script}
use Rattle.mf_plan.specs.declared.state.State.{State}
use Rattle.mf_core.specs.Opening.{opening_state}
use Rattle.mf_flow.specs.Sources.{Sets, element_by, has_element, moved, moved_by, own_source, set_after, moves_between}

abbrev pub is_id : Id → Id → Bool
is_id id other = id.0 == other.0

-- the element that the live entity of an id has by the policy
abbrev pub element_at : Registration → Entities → Id → Option Elem
element_at r objects id = element_by r (label_at objects id)

-- in the opening state each entity has its own element
abbrev pub opening_sets : Script → Registration → Sets
opening_sets s r = λ id. own_source (element_at r (opening_state s).objects id)

-- what moves between a subject and an object, where there is one
abbrev pub moved_with : Registration → Entities → Id → Option ObjectView → Sets → Movement → Sets
moved_with r objects subject object sets movement = option_map_or (λ object. moved r objects sets (moves_between subject (record { 0 = object.id }) movement)) object sets

-- the sources after some checks that passed
abbrev pub moved_by_all : Registration → Entities → Sets → List Item → Sets
moved_by_all r objects sets items = fold (moved_by r objects) sets items

-- whether what is asked gives the entity of that id a new effective element
abbrev pub gives_element : Registration → Option (Id × Request) → Id → Bool
gives_element r asked id = option_map_or (λ asked. is_id id asked.0 && has_element r.module asked.1) asked false

-- what the maker has
abbrev pub set_of : Option Id → Sets → List Elem
set_of caller sets = option_map_or sets caller []

-- the sources after a call from one state to the other, where they were these after its checks
abbrev pub sets_across : Registration → State → State → Option Id → (Id → Bool) → Sets → Sets
sets_across r s s' caller relabelled sets =
    λ id. set_after r (live_at s.objects id) (live_at s'.objects id) (relabelled id) (sets id) (set_of caller sets)
