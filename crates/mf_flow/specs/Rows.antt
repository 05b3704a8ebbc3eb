-- The sources as a list by the numbers of ids, as they are kept along a history.
use Rattle.std.specs.Prelude.{◌≡◌, ◌<◌, ℕ, Bool, false, true, not, nat_lt, List, [], ◌∷◌, ◌++◌, Option, Some, None, filter, find, fold, length, map, slice_index_or, slice_set, if◌then◌else◌}
use Rattle.std.specs.List.{AllByRecursion}
use Rattle.mf_errno.specs.declared.module.Module.{Module}
use Rattle.mf_elem.specs.declared.elem.Elem.{Elem}
use Rattle.mf_elem.specs.declared.label.TheConstants.{SLOTS}
use Rattle.mf_elem.specs.declared.label.LabelValue.{LabelValue}
use Rattle.mf_elem.specs.declared.label.LabelValue.TheVariants.{Unset}
use Rattle.mf_elem.specs.declared.label.Request.{Request}
use Rattle.mf_elem.specs.Label.{is_equal}
use Rattle.mf_item.specs.Item.{Item}
use Rattle.mf_item.specs.declared.view.ObjectView.{ObjectView}
use Rattle.mf_policy.specs.Answer.{range_label}
use Rattle.mf_policy.specs.Operations.{row_of}
use Rattle.mf_policy.specs.declared.operations.Movement.{Movement}
use Rattle.mf_policy.specs.declared.operations.Movement.TheVariants.{Still, ToSubject, ToObject, BothWays}
use Rattle.mf_policy.specs.declared.registration.Registration.{Registration}
use Rattle.mf_list.specs.Asked.{slot_of}
use Rattle.mf_objects.specs.declared.descriptors.Fd.{Fd}
use Rattle.mf_objects.specs.declared.id.Id.{Id}
use Rattle.mf_objects.specs.Live.{LiveEntity, Entities, label_at, live_at}
use Rattle.mf_objects.specs.Lives.{is_from}
use Rattle.mf_calls.specs.declared.script.Line.{Line}
use Rattle.mf_calls.specs.declared.script.Script.{Script}
use Rattle.mf_calls.specs.Tasks.{name_of}
use Rattle.mf_plan.specs.declared.outline.Check.{Check}
use Rattle.mf_plan.specs.declared.reply.Reply.{Reply}
use Rattle.mf_plan.specs.declared.state.State.{State}
use Rattle.mf_plan.specs.Outline.{item_of}
use Rattle.mf_plan.specs.Plan.{call_row}
use Rattle.mf_plan.specs.Effect.{relabelled_by}
use Rattle.mf_perform.specs.OneCall.{after_reply}
use Rattle.mf_core.specs.declared.history.Event.{Event}
use Rattle.mf_core.specs.declared.history.Event.TheVariants as event
use Rattle.mf_core.specs.declared.history.History.{History}
use Rattle.mf_core.specs.LegalHistory.{RunState, next_line, run_after, run_state_of}
use Rattle.mf_flow.specs.Order.{union}
use Rattle.mf_flow.specs.Sources.{Sets, own_source, held_by, has_element, moving, sources_of}
use Rattle.mf_flow.specs.Table.{sourced}
use Rattle.mf_flow.specs.Transfers.{caller_of, counts}
use Rattle.mf_flow.specs.declared.following.Flow.{Flow}

abbrev pub Rows : Type 0
Rows = List (List Elem)

-- the effective element in a slot of a label
abbrev pub element_of : ℕ → List LabelValue → Option Elem
element_of slot label = (range_label (slice_index_or label slot Unset)).effective

abbrev pub set_at : Rows → ℕ → List Elem
set_at rows number = slice_index_or rows number []

-- the effective element that the live entity of a number has in a slot
abbrev pub element_numbered : ℕ → Entities → ℕ → Option Elem
element_numbered slot objects number = element_of slot (label_at objects (record { 0 = number }))

-- whether something can come to a party of the one element from a party of the other
abbrev pub may_come : Option Elem → Option Elem → Bool
may_come None from = false
may_come (Some to) None = false
may_come (Some to) (Some from) = not (is_equal to)

-- what a party then has, to which these elements come from another
abbrev pub set_joined : ℕ → Entities → ℕ → ℕ → List Elem → List Elem → List Elem
set_joined slot objects to from set given =
    if may_come (element_numbered slot objects to) (element_numbered slot objects from) then union set given else set

-- these elements come to the one party from the other
abbrev pub set_received : ℕ → Entities → Rows → ℕ → ℕ → List Elem → Rows
set_received slot objects rows to from given = slice_set rows to (set_joined slot objects to from (set_at rows to) given)

abbrev pub exchanged : ℕ → Entities → Rows → ℕ → ℕ → Rows
exchanged slot objects rows subject object =
    set_received slot objects (set_received slot objects rows subject object (set_at rows object)) object subject (set_at rows subject)

abbrev pub rows_between : ℕ → Entities → Rows → Movement → ℕ → ℕ → Rows
rows_between slot objects rows Still subject object = rows
rows_between slot objects rows ToSubject subject object = set_received slot objects rows subject object (set_at rows object)
rows_between slot objects rows ToObject subject object = set_received slot objects rows object subject (set_at rows subject)
rows_between slot objects rows BothWays subject object = exchanged slot objects rows subject object

abbrev pub rows_with : ℕ → Entities → Rows → Movement → ℕ → Option ObjectView → Rows
rows_with slot objects rows movement subject None = rows
rows_with slot objects rows movement subject (Some object) = rows_between slot objects rows movement subject object.id

-- the rows after a check that passed
abbrev pub rows_moved : ℕ → Entities → Rows → Item → Rows
rows_moved slot objects rows item = rows_with slot objects rows (row_of item.op).movement item.subject.id item.object

-- the same, by the outline of the check
abbrev pub rows_by : ℕ → Entities → Rows → Check → Rows
rows_by slot objects rows check = rows_moved slot objects rows (item_of objects check)

-- and of a call that goes through this descriptor, or through none, where the check counts for the policy that is registered so
abbrev pub rows_counted : Registration → State → Option Fd → Rows → Check → Rows
rows_counted r s fd rows check = if counts r s.specs fd (item_of s.objects check) then rows_by (slot_of r) s.objects rows check else rows

-- the effective element of an entity, where there is one
abbrev pub element_first : ℕ → Option LiveEntity → Option Elem
element_first slot None = None
element_first slot (Some e) = element_of slot e.label

-- the row of an entity that comes, made by a process with these sources
abbrev pub new_row : ℕ → Option LiveEntity → List Elem → List Elem
new_row slot None maker = []
new_row slot (Some e) maker = held_by (element_of slot e.label) (union (own_source (element_of slot e.label)) maker)

abbrev pub maker_row : Rows → Option Id → List Elem
maker_row rows None = []
maker_row rows (Some id) = set_at rows id.0

-- the rows after a call, with one more where an entity came
abbrev pub rows_created : ℕ → ℕ → Entities → Option Id → Rows → Rows
rows_created slot next objects caller rows =
    if nat_lt next objects.next then rows ++ new_row slot (find (is_from next) objects.live) (maker_row rows caller) ∷ [] else rows

-- the rows after a relabel, where one is asked for and was made: the entity has its new element alone, where the policy's part gives it one
abbrev pub rows_given : ℕ → Module → Entities → Option (Id × Request) → Rows → Rows
rows_given slot m objects None rows = rows
rows_given slot m objects (Some asked) rows =
    if has_element m asked.1 then slice_set rows asked.0.0 (own_source (element_numbered slot objects asked.0.0)) else rows

-- what a call with that reply asks of whose label; one that isn't done asks nothing
abbrev pub relabel_asked : State → List ℕ → Line → Reply → Option (Id × Request)
relabel_asked s task line reply = after_reply reply None (relabelled_by (call_row s task line.child line.call).effect)

-- the same of what was found, by whether the call is done
abbrev pub where_done : Bool → Option (Id × Request) → Option (Id × Request)
where_done true asked = asked
where_done false asked = None

abbrev pub rows_after_line : Registration → State → State → List ℕ → Option Line → Reply → Rows → Rows
rows_after_line r s s' task None reply rows = rows
rows_after_line r s s' task (Some line) reply rows =
    rows_given (slot_of r) r.module s'.objects (relabel_asked s task line reply)
    (rows_created (slot_of r) s.objects.next s'.objects (caller_of s task line)
    (fold (rows_moved (slot_of r) s.objects) rows (moving r s task line reply)))

abbrev pub rows_after_event : Script → Registration → RunState → Event → Rows → Rows
rows_after_event s r run (event.Done t line reply) rows =
    rows_after_line r run.state (run_after s run (event.Done t line reply)).state (name_of s t) (next_line s run.progress t) reply rows
rows_after_event s r run other rows = rows

-- Each policy

-- the policy's label slot is one that there is
abbrev pub HasLabelSlot : Flow → Type 0
HasLabelSlot f = slot_of f.registration < SLOTS

-- the sources by the policy after checks that passed, of a call that goes through this descriptor, or through none
abbrev pub flow_moved : State → Option Fd → List Item → Flow → Flow
flow_moved s fd items f =
    record f { sets = fold (rows_moved (slot_of f.registration) s.objects) f.sets (filter (counts f.registration s.specs fd) items) }

-- and then after a call, where an entity may have come or been relabelled
abbrev pub flow_settled : ℕ → Entities → Option Id → Option (Id × Request) → Flow → Flow
flow_settled next objects caller asked f =
    let slot = slot_of f.registration in
    record f { sets = rows_given slot f.registration.module objects asked (rows_created slot next objects caller f.sets) }

abbrev pub flow_after_event : Script → RunState → Event → Flow → Flow
flow_after_event s run e f = record f { sets = rows_after_event s f.registration run e f.sets }

-- Rows and sources

-- the rows of live entities are the same
pub record AreKept (o : Entities) (old new : Rows) : Type 0 where
  pub count : length new ≡ length old
  pub each : (id : Id) (e : LiveEntity) → live_at o id ≡ Some e → set_at new id.0 ≡ set_at old id.0

-- so are those of each policy
pub record IsKept (o : Entities) (f f' : Flow) : Type 0 where
  pub registration : f'.registration ≡ f.registration
  pub sets : AreKept o f.sets f'.sets

-- each policy's sources stand so to those of the other list
abbrev pub EachBecomes : (Flow → Flow → Type 0) → List Flow → List Flow → Type 0
EachBecomes R [] [] = Unit {0}
EachBecomes R (f ∷ fs) (f' ∷ fs') = R f f' × EachBecomes R fs fs'
EachBecomes R fs fs' = ⊥

-- there is a row for each id that was given, and those of live entities have their sources
pub record AreRows (o : Entities) (sets : Sets) (rows : Rows) : Type 0 where
  pub count : length rows ≡ o.next
  pub each : (id : Id) (e : LiveEntity) → live_at o id ≡ Some e → set_at rows id.0 ≡ sets id

-- there is a row for each id that was given, and those of live entities have their own elements
pub record AreOwnRows (slot : ℕ) (o : Entities) (rows : Rows) : Type 0 where
  pub count : length rows ≡ o.next
  pub each : (id : Id) (e : LiveEntity) → live_at o id ≡ Some e → set_at rows id.0 ≡ own_source (element_of slot e.label)

-- the sources by a policy that was booted, at the opening and at the end of a history

abbrev pub IsOpening : Entities → Flow → Type 0
IsOpening o f = AreOwnRows (slot_of f.registration) o f.sets

abbrev pub IsFlowOf : Script → History → Flow → Type 0
IsFlowOf s h f = AreRows (run_state_of s h.events.list).state.objects (sources_of s f.registration h.events.list) f.sets

-- these are the sources at the end of a history, by each policy that was booted and bounds what may move
abbrev pub AreSourcesOf : Script → History → List Flow → Type 0
AreSourcesOf s h flows = (map (λ f. f.registration) flows ≡ sourced h.boots) × AllByRecursion (IsFlowOf s h) flows
