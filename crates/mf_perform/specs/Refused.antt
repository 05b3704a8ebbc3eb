-- Whether a reply is a refusal.
use Rattle.std.specs.Prelude.{Bool, true, false, Option, Some, None}
use Rattle.mf_plan.specs.declared.reply.Payload.{Payload}
use Rattle.mf_plan.specs.declared.reply.Reply.{Reply}
use Rattle.mf_plan.specs.declared.reply.Reply.TheVariants as reply

-- the refusal or denial where there is one, or else the payload
abbrev pub refused_or : Option Reply → Payload → Reply
refused_or None p = reply.Ok p
refused_or (Some refusal) p = refusal

-- neither denied nor refused
abbrev pub is_ok : Reply → Bool
is_ok (reply.Ok payload) = true
is_ok other = false
