-- The names of the privileges, as priv(9) has them, without their prefix.
use Rattle.std.specs.Prelude.{ℕ, List, [], ◌∷◌, Option, find, codes}
use Rattle.std.specs.Str.{bytes_eq}
use Rattle.mf_errno.specs.declared.privilege.Priv.{Priv}
use Rattle.mf_errno.specs.declared.privilege.Priv.TheVariants.{KldLoad, KldUnload, MacPartition, SchedRtprio, SchedIdprio}

abbrev pub privilege_text : Priv → List ℕ
privilege_text KldLoad = codes "KLD_LOAD"
privilege_text KldUnload = codes "KLD_UNLOAD"
privilege_text MacPartition = codes "MAC_PARTITION"
privilege_text SchedRtprio = codes "SCHED_RTPRIO"
privilege_text SchedIdprio = codes "SCHED_IDPRIO"

-- the privilege of that name
unfoldable pub privilege_named : List ℕ → Option Priv
privilege_named name = find (λ p. bytes_eq (privilege_text p) name) (KldLoad ∷ KldUnload ∷ MacPartition ∷ SchedRtprio ∷ SchedIdprio ∷ [])
