-- The reply to a call, by docs/MANUAL.md (CALLS, OUTPUT).
use Rattle.std.specs.Prelude.{ℕ, ◌-◌, List, Option, Some, None, unwrap_or, option_map, slice_get}
use Rattle.mf_item.specs.declared.operation.CheckOp.{CheckOp}
use Rattle.mf_item.specs.declared.operation.CheckOp.TheVariants.{VnodeLookup}
use Rattle.mf_item.specs.Item.{Item}
use Rattle.mf_plan.specs.Planned.{Plan}
use Rattle.mf_plan.specs.declared.plan.Tail.{Tail}
use Rattle.mf_plan.specs.declared.plan.Tail.TheVariants.{Do, Refuse}
use Rattle.mf_plan.specs.declared.reply.Payload.{Payload}
use Rattle.mf_plan.specs.declared.reply.Reply.{Reply}
use Rattle.mf_plan.specs.declared.reply.Reply.TheVariants as reply
use Rattle.mf_perform.specs.declared.verdict.Denial.{Denial}

-- the operation of the check of that number, from 1
abbrev pub op_at : List Item → ℕ → CheckOp
op_at items n = unwrap_or (option_map (λ i. i.op) (slice_get items (n - 1))) VnodeLookup

abbrev pub tail_reply : Tail → Payload → Reply
tail_reply Do p = reply.Ok p
tail_reply (Refuse errno) p = reply.Refused errno

-- a denial first, then the framework's refusal, then the payload
abbrev pub reply_to : Plan → Option Denial → Payload → Reply
reply_to plan None p = tail_reply plan.tail p
reply_to plan (Some d) p = reply.Denied d.errno (op_at plan.items d.item) d.item d.by
