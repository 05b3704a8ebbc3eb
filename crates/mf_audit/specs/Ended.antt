-- The reply to a call whose checks were gone through: the first denial, or else how its row ends. Inner contracts alone cite this.
use Rattle.std.specs.Prelude.{Option, Some, None, Result, Ok, Err}
use Rattle.mf_errno.specs.declared.errno.Errno.{Errno}
use Rattle.mf_plan.specs.declared.reply.Reply.{Reply}
use Rattle.mf_plan.specs.declared.reply.Reply.TheVariants as reply
use Rattle.mf_plan.specs.declared.state.State.{State}
use Rattle.mf_audit.specs.declared.done.Shown.{Shown}
use Rattle.mf_audit.specs.declared.done.Done.{Done}
use Rattle.mf_audit.specs.declared.walk.Denied.{Denied}
use Rattle.mf_audit.specs.declared.walk.Walk.{Walk}
use Rattle.mf_audit.specs.Ends.{payload_of}

-- the reply where no check was denied: a refusal, or else what is shown
abbrev pub undenied_reply : State → Result Shown Errno → Reply
undenied_reply s (Ok shown) = reply.Ok (payload_of s shown)
undenied_reply s (Err errno) = reply.Refused errno

-- the reply by the first denial, where there is one, and else by the end
abbrev pub shown_reply : State → Option Denied → Result Shown Errno → Reply
shown_reply s (Some d) end = reply.Denied d.errno d.op d.item d.by
shown_reply s None end = undenied_reply s end

-- what is shown of what is done
abbrev pub shown_of : Result Done Errno → Result Shown Errno
shown_of (Ok done) = Ok done.shown
shown_of (Err errno) = Err errno

-- the reply to a call that was walked through so and ends so
abbrev pub ended_so : State → Walk → Result Done Errno → Reply
ended_so s walk end = shown_reply s walk.denied (shown_of end)
