-- The reply to a call, by its plan and the verdict on it.
use Rattle.std.proofs.Common.{ℕ, ◌≡◌, List, Option, ap, ◌∙◌}
use Rattle.mf_calls.specs.declared.script.Call.{Call}
use Rattle.mf_plan.specs.Plan.{plan_of, call_row}
use Rattle.mf_plan.specs.Planned.{Plan}
use Rattle.mf_plan.specs.declared.reply.Payload.{Payload}
use Rattle.mf_plan.specs.declared.state.State.{State}
use Rattle.mf_perform.specs.declared.verdict.Verdict.{Verdict}
use Rattle.mf_perform.specs.OneCall.{call_reply}
use Rattle.mf_perform.specs.Reply.{reply_to}
use Rattle.mf_perform.specs.Verdict.{verdict_of}

pub by_call : (s : State) (task : List ℕ) (child : Option (List ℕ)) (c : Call) (plan : Plan) (verdict : Verdict) → plan ≡ plan_of s task child c
    → verdict ≡ verdict_of s.specs plan → reply_to plan verdict.denied (call_row s task child c).payload ≡ call_reply s task child c
by_call s task child c plan verdict planned judged =
    let p : Payload = (call_row s task child c).payload in
    ap (λ (v : Verdict). reply_to plan v.denied p) judged ∙ ap (λ (q : Plan). reply_to q (verdict_of s.specs q).denied p) planned
