use Rattle.std.proofs.Common.{◌≢◌, ℕ, List, sym}
use Rattle.mf_errno.specs.Privilege.{privilege_text}
use Rattle.mf_errno.specs.declared.privilege.Priv.{Priv}
use Rattle.mf_errno.specs.declared.privilege.Priv.TheVariants.{KldLoad, KldUnload, MacPartition, SchedRtprio, SchedIdprio}
use Rattle.mf_errno.proofs.Privileges.{no_name}
use Rattle.mf_errno.proofs.privilege.Priv.from_name.Goals as goal

each : (text : List ℕ) → text ≢ privilege_text KldLoad → text ≢ privilege_text KldUnload → text ≢ privilege_text MacPartition → text ≢ privilege_text SchedRtprio → text ≢ privilege_text SchedIdprio
    → (p : Priv) → text ≢ privilege_text p
each text load unload partition realtime idle KldLoad = load
each text load unload partition realtime idle KldUnload = unload
each text load unload partition realtime idle MacPartition = partition
each text load unload partition realtime idle SchedRtprio = realtime
each text load unload partition realtime idle SchedIdprio = idle

pub returns-in_default : goal.returns-in_default
returns-in_default c =
    let other = c.in_default in
    sym (no_name c.args.name.now (each c.args.name.now other.not-KLD_LOAD other.not-KLD_UNLOAD other.not-MAC_PARTITION other.not-SCHED_RTPRIO other.not-SCHED_IDPRIO))
