-- A call that nothing refuses.
use Rattle.std.proofs.Common.{◌≡◌, Option, Some, None, refl}
use Rattle.mf_plan.specs.Planned.{Plan}
use Rattle.mf_plan.specs.declared.plan.Tail.{Tail}
use Rattle.mf_plan.specs.declared.plan.Tail.TheVariants.{Do, Refuse}
use Rattle.mf_plan.specs.declared.reply.Payload.{Payload}
use Rattle.mf_plan.specs.declared.reply.Payload.TheVariants as payload
use Rattle.mf_plan.specs.declared.reply.Reply.TheVariants as reply
use Rattle.mf_perform.specs.declared.verdict.Denial.{Denial}
use Rattle.mf_perform.specs.Reply.{tail_reply, reply_to}

-- a call that nothing refuses may be done
pub may_proceed : (plan : Plan) (denied : Option Denial) → ((p : Payload) → reply_to plan denied p ≡ reply.Ok p) → plan.tail ≡ Do
may_proceed plan None done = by_tail plan.tail (done payload.None)
  where
    by_tail : (tail : Tail) → tail_reply tail payload.None ≡ reply.Ok payload.None → tail ≡ Do
    by_tail Do is = refl
    by_tail (Refuse errno) is = cc
may_proceed plan (Some denial) done = cc (done payload.None)
