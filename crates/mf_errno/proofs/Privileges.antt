-- The privilege of a name.
use Rattle.std.proofs.Common.{◌≡◌, ◌≢◌, ℕ, List, None, refl}
use Rattle.mf_errno.specs.declared.privilege.Priv.{Priv}
use Rattle.mf_errno.specs.declared.privilege.Priv.TheVariants.{KldLoad, KldUnload, MacPartition, SchedRtprio, SchedIdprio}
use Rattle.mf_errno.specs.Privilege.{privilege_named, privilege_text}
use Rattle.mf_errno.proofs.Modules.{differs}

-- no privilege is found by a text that is no privilege's name
pub no_name : (text : List ℕ) → ((p : Priv) → text ≢ privilege_text p) → privilege_named text ≡ None
unfolding privilege_named
no_name text other =
    rw (
      differs (privilege_text KldLoad) text (other KldLoad),
      differs (privilege_text KldUnload) text (other KldUnload),
      differs (privilege_text MacPartition) text (other MacPartition),
      differs (privilege_text SchedRtprio) text (other SchedRtprio),
      differs (privilege_text SchedIdprio) text (other SchedIdprio),
    ) refl
