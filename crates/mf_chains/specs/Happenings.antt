-- What happens to the parties of a policy over a history: this model's own (docs/MANUAL.md, CHAINS).
use Rattle.std.specs.Prelude.{ℕ, ◌+◌, Bool, true, false, ◌&&◌, if◌then◌else◌, List, [], ◌∷◌, ◌++◌, Option, Some, None}
use Rattle.std.specs.List.{flat_map, range_with_len}
use Rattle.mf_elem.specs.declared.elem.Elem.{Elem}
use Rattle.mf_elem.specs.declared.label.Request.{Request}
use Rattle.mf_elem.specs.Label.{is_equal}
use Rattle.mf_item.specs.Item.{Item}
use Rattle.mf_item.specs.declared.view.ObjectView.{ObjectView}
use Rattle.mf_policy.specs.Operations.{row_of}
use Rattle.mf_policy.specs.declared.operations.Movement.{Movement}
use Rattle.mf_policy.specs.declared.operations.Movement.TheVariants.{Still, ToSubject, ToObject, BothWays}
use Rattle.mf_policy.specs.declared.registration.Registration.{Registration}
use Rattle.mf_objects.specs.declared.descriptors.Fd.{Fd}
use Rattle.mf_objects.specs.declared.id.Id.{Id}
use Rattle.mf_objects.specs.Live.{LiveEntity, Entities, label_at, live_at}
use Rattle.mf_calls.specs.declared.script.Line.{Line}
use Rattle.mf_calls.specs.declared.script.Script.{Script}
use Rattle.mf_calls.specs.Tasks.{name_of}
use Rattle.mf_plan.specs.declared.reply.Reply.{Reply}
use Rattle.mf_plan.specs.declared.state.State.{State}
use Rattle.mf_plan.specs.Plan.{plan_of}
use Rattle.mf_perform.specs.Passed.{passed}
use Rattle.mf_core.specs.declared.history.Event.{Event}
use Rattle.mf_core.specs.declared.history.Event.TheVariants as event
use Rattle.mf_core.specs.Opening.{opening_state}
use Rattle.mf_core.specs.LegalHistory.{RunState, opening_run, next_line, run_after}
use Rattle.mf_flow.specs.Rows.{relabel_asked, may_come}
use Rattle.mf_flow.specs.Sources.{element_by, has_element}
use Rattle.mf_flow.specs.Transfers.{caller_of, counts, descriptor_of}
use Rattle.mf_chains.specs.declared.happening.Happening.TheVariants.{Labelled, Moves}
use Rattle.mf_chains.specs.declared.happening.Occurrence.{Occurrence}

-- Checks

-- whether such a movement is to the subject, and to the object

abbrev pub is_to_subject : Movement → Bool
is_to_subject Still = false
is_to_subject ToSubject = true
is_to_subject ToObject = false
is_to_subject BothWays = true

abbrev pub is_to_object : Movement → Bool
is_to_object Still = false
is_to_object ToSubject = false
is_to_object ToObject = true
is_to_object BothWays = true

-- the effective element that the live entity of an id has by the policy
abbrev pub element_at : Registration → Entities → Id → Option Elem
element_at r o id = element_by r (label_at o id)

-- the movement of a check of this number; what moves both ways is one happening
abbrev pub moving_between : Registration → Entities → ℕ → ℕ → Movement → Id → Id → Occurrence
moving_between r o event number movement subject object =
    record {
      event = event;
      item = number;
      what = Moves subject object (is_to_subject movement && may_come (element_at r o subject) (element_at r o object))
          (is_to_object movement && may_come (element_at r o object) (element_at r o subject));
    }

abbrev pub moving_with : Registration → Entities → ℕ → ℕ → Item → Option ObjectView → List Occurrence
moving_with r o event number item None = []
moving_with r o event number item (Some object) =
    moving_between r o event number (row_of item.op).movement (record { 0 = item.subject.id }) (record { 0 = object.id }) ∷ []

-- what the check moves, of a call that goes through this descriptor, or through none: nothing where it doesn't count
abbrev pub moving_of : Registration → State → Option Fd → ℕ → ℕ → Item → List Occurrence
moving_of r s fd event number item = if counts r s.specs fd item then moving_with r s.objects event number item item.object else []

-- what checks move that passed, of which the first has this number
abbrev pub moving_from : Registration → State → Option Fd → ℕ → ℕ → List Item → List Occurrence
moving_from r s fd event number [] = []
moving_from r s fd event number (item ∷ items) = moving_of r s fd event number item ++ moving_from r s fd event (number + 1) items

-- Labels

-- a party's own element: none where it is equal
abbrev pub own_element : Option Elem → Option Elem
own_element None = None
own_element (Some e) = if is_equal e then None else Some e

-- the party is labelled in an event, behind all its checks
abbrev pub labelled : ℕ → Id → Option Elem → Option Id → Occurrence
labelled event id element maker = record { event = event; item = 0; what = Labelled id (own_element element) maker }

-- the entity of that id comes, made by that process, or at the opening, where there is one
abbrev pub coming : Registration → ℕ → Option Id → Id → Option LiveEntity → List Occurrence
coming r event maker id None = []
coming r event maker id (Some e) = labelled event id (element_by r e.label) maker ∷ []

abbrev pub coming_at : Registration → Entities → ℕ → Option Id → ℕ → List Occurrence
coming_at r o event maker number = let id : Id = record { 0 = number } in coming r event maker id (live_at o id)

-- the entity is relabelled where one is asked for and was made, and the policy's part of what is asked gives it an element
abbrev pub relabelling : Registration → Entities → ℕ → Option (Id × Request) → List Occurrence
relabelling r o event None = []
relabelling r o event (Some asked) = if has_element r.module asked.1 then labelled event asked.0 (element_at r o asked.0) None ∷ [] else []

-- Calls

-- What happens by the call of a line of the task from one state to the other, with that reply: its checks that passed, and behind them all
-- the entity that it makes comes, which has the id that was to be given next, or one is relabelled.
abbrev pub happened_at_line : Registration → State → State → ℕ → List ℕ → Option Line → Reply → List Occurrence
happened_at_line r s s' event task None reply = []
happened_at_line r s s' event task (Some line) reply =
    moving_from r s (descriptor_of s task line) event 1 (passed reply (plan_of s task line.child line.call).items)
    ++ (coming_at r s'.objects event (caller_of s task line) s.objects.next ++ relabelling r s'.objects event (relabel_asked s task line reply))

-- Histories

-- what happens in the event of this number; a change of the policies or of a setting moves nothing
abbrev pub happened_in : Script → Registration → RunState → ℕ → Event → List Occurrence
happened_in s r run number (event.Done t line reply) =
    happened_at_line r run.state (run_after s run (event.Done t line reply)).state number (name_of s t) (next_line s run.progress t) reply
happened_in s r run number other = []

abbrev pub happened_from : Script → Registration → RunState → ℕ → List Event → List Occurrence
happened_from s r run number [] = []
happened_from s r run number (e ∷ es) = happened_in s r run number e ++ happened_from s r (run_after s run e) (number + 1) es

-- each entity of the opening state comes, by rising id
abbrev pub opening_happenings : Registration → Entities → List Occurrence
opening_happenings r o = flat_map (coming_at r o 0 None) (range_with_len 0 o.next)

-- what happens to the parties of the policy over these events of a run of the script, the oldest first
abbrev pub happenings_of : Script → Registration → List Event → List Occurrence
happenings_of s r es = opening_happenings r (opening_state s).objects ++ happened_from s r (opening_run s) 1 es
