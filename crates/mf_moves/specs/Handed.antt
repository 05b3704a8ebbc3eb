-- Between whom the movements of a call hand on sources, by a policy that bounds what may move: this model's own (docs/MANUAL.md, SOURCES).
use Rattle.std.specs.List.{AllByRecursion}
use Rattle.std.specs.Option.{option_map_or}
use Rattle.std.specs.Prelude.{◌≡◌, ◌⊎◌, Bool, true, false, ℕ, List, [], ◌∷◌, Some, IsSome}
use Rattle.mf_elem.specs.declared.elem.Elem.{Elem}
use Rattle.mf_elem.specs.Label.{is_equal}
use Rattle.mf_policy.specs.declared.registration.Registration.{Registration}
use Rattle.mf_objects.specs.declared.id.Id.{Id}
use Rattle.mf_objects.specs.Live.{Entities, label_at, live_at}
use Rattle.mf_calls.specs.declared.script.Line.{Line}
use Rattle.mf_calls.specs.declared.script.Script.{Script}
use Rattle.mf_calls.specs.Tasks.{name_of}
use Rattle.mf_plan.specs.declared.reply.Reply.{Reply}
use Rattle.mf_plan.specs.declared.state.State.{State}
use Rattle.mf_plan.specs.Plan.{plan_of}
use Rattle.mf_perform.specs.Passed.{passed}
use Rattle.mf_core.specs.declared.history.Event.{Event}
use Rattle.mf_core.specs.declared.history.Event.TheVariants as event
use Rattle.mf_core.specs.LegalHistory.{RunState, next_line, run_after}
use Rattle.mf_flow.specs.Order.{is_same_element}
use Rattle.mf_flow.specs.Sources.{element_by, relabels}
use Rattle.mf_flow.specs.Transfers.{counts, descriptor_of}
use Rattle.mf_moves.specs.Moves.{Lead, moves_at}

-- one of the set is that element, in whatever order its compartments are written
abbrev pub Has : List Elem → Elem → Type 0
Has [] e = ⊥
Has (x ∷ set) e = (is_same_element x e ≡ true) ⊎ Has set e

-- the party has an element, and isn't labelled equal
pub record IsOpen (r : Registration) (objects : Entities) (id : Id) : Type 0 where
  pub element : Elem
  pub labelled : element_by r (label_at objects id) ≡ Some element
  pub other : is_equal element ≡ false

-- movements lead from one to another by way of nobody who is labelled equal, nor to such a one
abbrev pub LeadOpen : Registration → Entities → List (Id × Id) → Id → Id → Type 0
LeadOpen r objects [] from to = from ≡ to
LeadOpen r objects (move ∷ moves) from to =
    LeadOpen r objects moves from to ⊎ ((move.0 ≡ from) × IsOpen r objects move.1 × LeadOpen r objects moves move.1 to)

-- The movements of the call of a line of the task, with that reply, lead from one to another, all checks that passed count for the policy, and
-- nobody to whom one of them moves is labelled equal.
pub record HandsOver (r : Registration) (s : State) (task : List ℕ) (line : Line) (reply : Reply) (from to : Id) : Type 0 where
  pub lead : Lead (moves_at reply s task line.child line.call) from to
  pub counted : AllByRecursion (λ item. counts r s.specs (descriptor_of s task line) item ≡ true) (passed reply (plan_of s task line.child line.call).items)
  pub free : AllByRecursion (λ move. IsOpen r s.objects move.1) (moves_at reply s task line.child line.call)

-- the party is there before and after a call, which doesn't relabel it by the policy
pub record Stays (s s' : State) (relabelled : Bool) (id : Id) : Type 0 where
  pub before : IsSome (live_at s.objects id)
  pub after : IsSome (live_at s'.objects id)
  pub kept : relabelled ≡ false

-- Events

-- the event is a call that is done, and hands over so
abbrev pub EventHandsOver : Script → Registration → RunState → Event → Id → Id → Type 0
EventHandsOver s r run (event.Done t n reply) from to =
    (line : Line) × (next_line s run.progress t ≡ Some line) × HandsOver r run.state (name_of s t) line reply from to
EventHandsOver s r run other from to = ⊥

-- whether the event relabels the party by the policy
abbrev pub relabels_in : Script → Registration → RunState → Event → Id → Bool
relabels_in s r run (event.Done t n reply) id =
    option_map_or (λ line. relabels r run.state (name_of s t) line reply id) (next_line s run.progress t) false
relabels_in s r run other id = false

abbrev pub StaysIn : Script → Registration → RunState → Event → Id → Type 0
StaysIn s r run e id = Stays run.state (run_after s run e).state (relabels_in s r run e id) id

-- so it is in each of these events
abbrev pub StaysOver : Script → Registration → RunState → List Event → Id → Type 0
StaysOver s r run [] id = Unit {0}
StaysOver s r run (e ∷ es) id = StaysIn s r run e id × StaysOver s r (run_after s run e) es id
