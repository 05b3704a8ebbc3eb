-- From whom to whom the checks of a call move information, by the table of operations: this model's own (docs/MANUAL.md, SOURCES).
use Rattle.std.specs.Option.{option_map_or}
use Rattle.std.specs.Prelude.{◌≡◌, ◌⊎◌, ℕ, List, [], ◌∷◌, ◌++◌, Option}
use Rattle.mf_item.specs.Item.{Item}
use Rattle.mf_item.specs.declared.operation.CheckOp.{CheckOp}
use Rattle.mf_policy.specs.Operations.{row_of}
use Rattle.mf_policy.specs.declared.operations.Movement.{Movement}
use Rattle.mf_objects.specs.declared.id.Id.{Id}
use Rattle.mf_calls.specs.declared.script.Call.{Call}
use Rattle.mf_plan.specs.declared.reply.Reply.{Reply}
use Rattle.mf_plan.specs.declared.state.State.{State}
use Rattle.mf_plan.specs.Plan.{plan_of}
use Rattle.mf_perform.specs.OneCall.{call_reply}
use Rattle.mf_perform.specs.Passed.{passed}
use Rattle.mf_flow.specs.Sources.{moves_between}

-- the table's last column, which all of these laws go by (checks/movements.sh puts another in its place)
abbrev pub movement_of : CheckOp → Movement
movement_of op = (row_of op).movement

-- from whom to whom a check moves
abbrev pub moves_by : Item → List (Id × Id)
moves_by item =
    option_map_or (λ object. moves_between (record { 0 = item.subject.id }) (record { 0 = object.id }) (movement_of item.op)) item.object []

-- the movements of checks, in their order
abbrev pub moves_of : List Item → List (Id × Id)
moves_of [] = []
moves_of (item ∷ items) = moves_by item ++ moves_of items

-- the movements of a call with that reply: of its checks that passed
abbrev pub moves_at : Reply → State → List ℕ → Option (List ℕ) → Call → List (Id × Id)
moves_at reply s task child c = moves_of (passed reply (plan_of s task child c).items)

-- the movements of a call
abbrev pub moves_in : State → List ℕ → Option (List ℕ) → Call → List (Id × Id)
moves_in s task child c = moves_at (call_reply s task child c) s task child c

-- Movements lead from one to another, one after another in their order. Nobody needs one to himself.
abbrev pub Lead : List (Id × Id) → Id → Id → Type 0
Lead [] from to = from ≡ to
Lead (move ∷ moves) from to = Lead moves from to ⊎ ((move.0 ≡ from) × Lead moves move.1 to)
