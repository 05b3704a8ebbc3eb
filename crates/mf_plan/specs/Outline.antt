-- Outlines of plans: checks that name entities by their ids alone, and how policies see them.
use Rattle.std.specs.Prelude.{Bool, true, false, if◌then◌else◌, All, IfSome, IsSome, List, map, Option, Some, None, option_map}
use Rattle.mf_elem.specs.declared.label.Request.{Request}
use Rattle.mf_item.specs.declared.operation.CheckOp.{CheckOp}
use Rattle.mf_item.specs.declared.operation.CheckOp.TheVariants as op
use Rattle.mf_item.specs.declared.view.SubjectView.{SubjectView}
use Rattle.mf_item.specs.Item.{Item}
use Rattle.mf_objects.specs.declared.id.Id.{Id}
use Rattle.mf_objects.specs.Live.{Entities, cred_at, is_process, label_at, live_at}
use Rattle.mf_objects.specs.Lives.{IsLive, view_at}
use Rattle.mf_plan.specs.declared.outline.Check.{Check}
use Rattle.mf_plan.specs.declared.outline.Outline.{Outline}
use Rattle.mf_plan.specs.Planned.{Plan}

-- the subject, with the credential of the process that calls
abbrev pub subject_in : Entities → Check → SubjectView
subject_in objects check = record { id = check.subject.0; cred = cred_at objects check.caller; label = label_at objects check.subject }

-- whether the operation changes a label
abbrev pub is_relabel : CheckOp → Bool
is_relabel op.VnodeRelabel = true
is_relabel op.PipeRelabel = true
is_relabel op.SocketRelabel = true
is_relabel op.CredRelabel = true
is_relabel other = false

-- the request that goes with a check: that of the outline, where its operation changes a label
abbrev pub request_with : Option Request → CheckOp → Option Request
request_with None op = None
request_with (Some request) op = if is_relabel op then Some request else None

-- the check as policies see it, in an outline with this request, and in one with none

unfoldable pub item_asking : Entities → Option Request → Check → Item
item_asking objects asked check =
    record {
      op = check.op;
      subject = subject_in objects check;
      object = option_map (view_at objects) check.object;
      request = request_with asked check.op;
      privilege = check.privilege;
      port = check.port;
    }

abbrev pub item_of : Entities → Check → Item
item_of objects check = item_asking objects None check

-- the plan as policies see it
abbrev pub outlined : Entities → Outline → Plan
outlined objects outline = record { items = map (item_asking objects outline.found.request) outline.checks; tail = outline.tail }

-- all that the check names is live
pub record IsLiveCheck (objects : Entities) (check : Check) : Type 0 where
  pub caller : IsSome (live_at objects check.caller)
  pub subject : IsSome (live_at objects check.subject)
  pub object : IfSome check.object (λ id. IsSome (live_at objects id))

pub record AreLive (objects : Entities) (checks : List Check) : Type 0 where
  pub all : All (λ check. IsLiveCheck objects check) checks

-- a live process asks for checks, and all that these name is live
pub record IsAsking (objects : Entities) (caller : Id) (checks : List Check) : Type 0 where
  pub lives : IsLive is_process objects caller
  pub live : AreLive objects checks
