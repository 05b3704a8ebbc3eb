-- The checks of a call, answered one after another: how far a walk along them is after each. Inner contracts alone cite this.
use Rattle.std.specs.Option.{option_map_or}
use Rattle.std.specs.Prelude.{ℕ, ◌+◌, List, fold, IsSome, Option, Some, None, option_map}
use Rattle.mf_errno.specs.declared.errno.Errno.{Errno}
use Rattle.mf_errno.specs.declared.errno.Errno.TheVariants.{Success}
use Rattle.mf_errno.specs.declared.module.Module.{Module}
use Rattle.mf_elem.specs.declared.label.LabelValue.{LabelValue}
use Rattle.mf_elem.specs.declared.label.Request.{Request}
use Rattle.mf_item.specs.declared.operation.CheckOp.{CheckOp}
use Rattle.mf_item.specs.declared.view.SubjectView.{SubjectView}
use Rattle.mf_item.specs.Item.{Item}
use Rattle.mf_list.specs.Asked.{answer_to}
use Rattle.mf_objects.specs.declared.id.Id.{Id}
use Rattle.mf_objects.specs.Live.{Entities, live_at}
use Rattle.mf_policy.specs.Lowering.{after_check, lomac_slot}
use Rattle.mf_policy.specs.Registration.{Entry}
use Rattle.mf_plan.specs.declared.outline.Check.{Check}
use Rattle.mf_plan.specs.declared.state.State.{State}
use Rattle.mf_plan.specs.Checks as checks
use Rattle.mf_plan.specs.Lowering.{while_lowered}
use Rattle.mf_plan.specs.Outline.{request_with}
use Rattle.mf_objects.specs.Lives.{view_at}
use Rattle.mf_perform.specs.Held.{lomac_value}
use Rattle.mf_audit.specs.declared.walk.Asked.{Asked}
use Rattle.mf_audit.specs.declared.walk.Check.{Check as Asks}
use Rattle.mf_audit.specs.declared.walk.Check.TheVariants as asks
use Rattle.mf_audit.specs.declared.walk.Denied.{Denied}
use Rattle.mf_audit.specs.declared.walk.Walk.{Walk}

-- The checks of calls, as plans name them

abbrev pub check_of : Id → Asks → Check
check_of me (asks.On op id) = checks.on me op id
check_of me (asks.Alone op) = checks.by_itself me op
check_of me (asks.Privilege p) = checks.for_privilege me p
check_of me (asks.BySocket socket op id) = checks.by_socket me socket op id
check_of me (asks.Binding tcp port id) = checks.binding me tcp port id

-- the parties that a check names, besides the caller, live
abbrev pub IsThere : Entities → Asks → Type 0
IsThere objects (asks.On op id) = IsSome (live_at objects id)
IsThere objects (asks.BySocket socket op id) = IsSome (live_at objects socket) × IsSome (live_at objects id)
IsThere objects (asks.Binding tcp port id) = IsSome (live_at objects id)
IsThere objects other = Unit {0}

-- what is asked of a subject by a check of a plan, with what is asked of a label
abbrev pub parts_of : Entities → Option Request → Check → Asked
parts_of objects request check =
    record {
      op = check.op;
      object = option_map (view_at objects) check.object;
      request = request_with request check.op;
      privilege = check.privilege;
      port = check.port;
    }

-- the walk of a call of this process that hasn't been asked for a check yet
abbrev pub start : State → Id → Walk
start s me = record { asked = 0; value = lomac_value s (Some me); denied = None }

-- the check of what is asked of this subject
abbrev pub item_with : SubjectView → Asked → Item
item_with subject asked =
    record { op = asked.op; subject = subject; object = asked.object; request = asked.request; privilege = asked.privilege; port = asked.port }

-- the check while the caller has the walk's value in the slot of mac_lomac
abbrev pub seen_now : List Entry → Id → Walk → Item → Item
seen_now listed me walk item = option_map_or (λ slot. while_lowered slot me.0 walk.value item) (lomac_slot listed) item

-- what the caller has there once the check has passed
abbrev pub lowered_now : List Entry → Walk → Item → LabelValue
lowered_now listed walk item = option_map_or (λ slot. after_check slot walk.value item) (lomac_slot listed) walk.value

-- the denial that an answer to the check of that number is
abbrev pub denial_of : ℕ → CheckOp → Errno → Option Module → Option Denied
denial_of n op Success by = None
denial_of n op errno by = Some (record { errno = errno; op = op; item = n; by = by })

abbrev pub first_denied : Option Denied → Option Denied → Option Denied
first_denied (Some denied) now = Some denied
first_denied None now = now

-- a value that counts where the check has passed and none before it was denied
abbrev pub value_then : Option Denied → Errno → LabelValue → LabelValue → LabelValue
value_then (Some denied) errno before passed = before
value_then None Success before passed = passed
value_then None errno before passed = before

-- the walk after one more check
abbrev pub asking : List Entry → Id → Walk → Item → Walk
asking listed me walk item =
    let answer = answer_to listed (seen_now listed me walk item) in
    record {
      asked = walk.asked + 1;
      value = value_then walk.denied answer.errno walk.value (lowered_now listed walk item);
      denied = first_denied walk.denied (denial_of (walk.asked + 1) item.op answer.errno answer.by);
    }

abbrev pub asking_all : List Entry → Id → Walk → List Item → Walk
asking_all listed me walk items = fold (asking listed me) walk items
