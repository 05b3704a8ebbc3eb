-- Marks of label slots: when a slot of an entity is made, and how it ends (initialised and destroyed, in the words of mac(9)).
use Rattle.std.specs.Option.{option_eq}
use Rattle.std.specs.Prelude.{ℕ, Bool, not, ◌&&◌, nat_eq, if◌then◌else◌, List, [], ◌∷◌, ◌++◌, map, filter, Option, Some, None}
use Rattle.std.specs.List.{filter_map, list_any}
use Rattle.mf_item.specs.declared.view.Kind.{Kind}
use Rattle.mf_policy.specs.declared.registration.Registration.{Registration}
use Rattle.mf_errno.specs.Same.{same_module}
use Rattle.mf_policy.specs.Modules.{labels_kind}
use Rattle.mf_policy.specs.Registration.{Entry, holds_slot}
use Rattle.mf_objects.specs.declared.id.Id.{Id}
use Rattle.mf_objects.specs.Live.{LiveEntity, kind_of, live_at, value_in, is_set}
use Rattle.mf_calls.specs.declared.script.Script.{Script}
use Rattle.mf_plan.specs.declared.state.State.{State}
use Rattle.mf_core.specs.declared.history.Event.{Event}
use Rattle.mf_core.specs.Opening.{booted_specs, opening_state}
use Rattle.mf_core.specs.LegalHistory.{RunState, opening_run, run_after}

-- a mark of a label slot of an entity
pub data Mark : Type 0 where
  -- the slot is made while this registration holds it
  Made : (r : Registration) → Mark
  -- the entity goes while this registration, under which the slot was made, is listed
  Ended : (r : Registration) → Mark
  -- the entity goes after that registration has left the list
  Left : (r : Registration) → Mark

-- Who labels

-- the listed registrations that hold the slot and label entities of that kind
abbrev pub labellers : List Entry → Kind → ℕ → List Registration
labellers specs kind slot = map (λ entry. entry.0) (filter (λ entry. holds_slot slot entry && labels_kind entry.0.module kind) specs)

-- the registration is listed; of two of one module the second has another slot number, since none is given twice
abbrev pub is_registered : Registration → List Entry → Bool
is_registered r specs = list_any (λ entry. same_module r.module entry.0.module && option_eq nat_eq r.slot entry.0.slot) specs

-- Marks that are added

-- the marks of a slot that is made now: one for each registration that labels it
abbrev pub made_marks : List Entry → ℕ → LiveEntity → List Mark
made_marks specs slot e = map Made (labellers specs (kind_of e.what) slot)

-- the end of a slot that was made: Ended where its registration is still listed, and else Left; none for other marks
abbrev pub end_mark : List Entry → Mark → Option Mark
end_mark specs (Made r) = Some (if is_registered r specs then Ended r else Left r)
end_mark specs other = None

-- What is added to the marks of a slot of an entity, by the entity before and after, while these policies are listed: its slot is made
-- as it comes, or as the unset slot gets its first value, and it ends as the entity goes.
abbrev pub added_marks : List Entry → ℕ → List Mark → Option LiveEntity → Option LiveEntity → List Mark
added_marks specs slot marks None None = []
added_marks specs slot marks None (Some e) = made_marks specs slot e
added_marks specs slot marks (Some e) None = filter_map (end_mark specs) marks
added_marks specs slot marks (Some old) (Some new) = if not (is_set (value_in slot old)) && is_set (value_in slot new) then made_marks specs slot new else []

-- Marks over a history

-- the marks after a step from one state to the other, where they were these
abbrev pub marks_across : Id → ℕ → List Mark → State → State → List Mark
marks_across id slot marks old new = marks ++ added_marks old.specs slot marks (live_at old.objects id) (live_at new.objects id)

abbrev pub marks_after : Script → Id → ℕ → RunState → List Mark → List Event → List Mark
marks_after s id slot r marks [] = marks
marks_after s id slot r marks (e ∷ es) = marks_after s id slot (run_after s r e) (marks_across id slot marks r.state (run_after s r e).state) es

-- the marks that a slot of the entity of this id has after these events of a run of the script; the entities of the opening state come before them
abbrev pub marks_of : Script → List Event → Id → ℕ → List Mark
marks_of s es id slot = marks_after s id slot (opening_run s) (added_marks (booted_specs s) slot [] None (live_at (opening_state s).objects id)) es
