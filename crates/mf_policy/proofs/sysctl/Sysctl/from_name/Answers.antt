use Rattle.std.proofs.Common.{◌≢◌, sym}
use Rattle.mf_policy.specs.Sysctls.{sysctl_row}
use Rattle.mf_policy.specs.declared.sysctl.Sysctl.{Sysctl}
use Rattle.mf_policy.specs.declared.sysctl.Sysctl.TheVariants as sysctl
use Rattle.mf_policy.proofs.Sysctls.{no_name}
use Rattle.mf_policy.proofs.sysctl.Sysctl.from_name.Goals as goal

pub returns-in_default : goal.returns-in_default
returns-in_default c =
    let text = c.args.name.now in
    let other = c.in_default in
    let each : (s : Sysctl) → text ≢ (sysctl_row s).name = λ s. elim s as (λ k. text ≢ (sysctl_row k).name) [
      | sysctl.RevocationEnabled ↦ other.not-text
      | sysctl.FirstmatchEnabled ↦ other.not-text-2
      | sysctl.PrimarygroupEnabled ↦ other.not-text-3
      | sysctl.SpecificgidEnabled ↦ other.not-text-4
      | sysctl.Specificgid ↦ other.not-text-5
      | sysctl.SuserPrivileged ↦ other.not-text-6
      | sysctl.PortHigh ↦ other.not-text-7
      | sysctl.SuserExempt ↦ other.not-text-8
      | sysctl.AutoportExempt ↦ other.not-text-9
      | sysctl.Rules ↦ other.not-text-10
    ] in
    sym (no_name text each)
