-- Replies as a history keeps them; inner contracts alone cite this.
use Rattle.mf_plan.specs.declared.reply.Payload.TheVariants as payload
use Rattle.mf_plan.specs.declared.reply.Reply.{Reply}
use Rattle.mf_plan.specs.declared.reply.Reply.TheVariants as reply
use Rattle.mf_core.specs.declared.kept_reply.Kept.{Kept}
use Rattle.mf_core.specs.declared.kept_reply.Kept.TheVariants.{Done, Denied, Refused, Stat, Size, Fd, Other}

-- the reply that is kept so
abbrev pub reply_kept : Kept → Reply
reply_kept Done = reply.Ok payload.None
reply_kept (Denied errno op item by) = reply.Denied errno op item by
reply_kept (Refused errno) = reply.Refused errno
reply_kept (Stat dir mode uid gid size) = reply.Ok (payload.Stat (record { uid = uid; gid = gid; mode = mode; dir = dir }) size)
reply_kept (Size size) = reply.Ok (payload.Size size)
reply_kept (Fd number) = reply.Ok (payload.Fd number)
reply_kept (Other kept) = kept.value
