-- The tunable that a script may set before boot, by docs/MANUAL.md (THE SCRIPT).
use Rattle.std.specs.Prelude.{ℕ, List}
use Rattle.mf_policy.specs.Sysctls.{sysctl_row}
use Rattle.mf_policy.specs.declared.sysctl.Sysctl.TheVariants.{RevocationEnabled}

-- its name: whether mac_biba tests each transfer through a descriptor
abbrev pub revocation_name : List ℕ
revocation_name = (sysctl_row RevocationEnabled).name
