-- The settings that have a name: the variables of sysctl(8), and the tunables of loader.conf(5), which are set before boot alone. Their names,
-- `security.mac.biba.revocation_enabled` and so on, and their values are those of mac_biba(4), mac_bsdextended(4), mac_seeotheruids(4) and
-- mac_portacl(4).
use Rattle.std.specs.Prelude.{ℕ, Bool, true, false, if◌then◌else◌, List, [], ◌∷◌, ◌++◌, Option, Some, None, codes, find, option_and_then, option_map}
use Rattle.std.specs.Str.{bytes_eq}
use Rattle.mf_errno.specs.Names.{policy_text}
use Rattle.mf_errno.specs.declared.module.Module.{Module}
use Rattle.mf_errno.specs.declared.module.Module.TheVariants as modules
use Rattle.mf_labeltext.specs.Reading.{number}
use Rattle.mf_rule.specs.declared.ports.PortRule.{PortRule}
use Rattle.mf_rule.specs.declared.ports.TheConstants.{LAST_PORT}
use Rattle.mf_rule.specs.declared.rule.TheConstants.{LAST_ID}
use Rattle.mf_rule.specs.PortRules.{port_rules_in}
use Rattle.mf_policy.specs.declared.settings.Change.{Change}
use Rattle.mf_policy.specs.declared.settings.Change.TheVariants.{Revocation, FirstMatch, See, Port}
use Rattle.mf_policy.specs.declared.spec.Spec.{Spec}
use Rattle.mf_policy.specs.declared.spec.Spec.TheVariants as means
use Rattle.mf_policy.specs.declared.sysctl.Sysctl.{Sysctl}
use Rattle.mf_policy.specs.declared.sysctl.Sysctl.TheVariants.{RevocationEnabled, FirstmatchEnabled, PrimarygroupEnabled, SpecificgidEnabled, Specificgid, SuserPrivileged, PortHigh, SuserExempt, AutoportExempt, Rules}
use Rattle.mf_policy.specs.Registration.{Entry, spec_in}

-- its name, its module, whether it is a tunable, and what a value asks of the policy's spec; None where it is none of its values
pub record SysctlRow : Type 0 where
  pub name : List ℕ
  pub owner : Module
  pub tunable : Bool
  pub asks : List ℕ → Spec → Option Change

-- a variable of sysctl(8), which is no tunable, by the last part of its name
abbrev pub variable : Module → List ℕ → (List ℕ → Spec → Option Change) → SysctlRow
variable m leaf asks =
    record { name = codes "security.mac." ++ policy_text m ++ codes "." ++ leaf; owner = m; tunable = false; asks = asks }

-- off or on
unfoldable pub switch : List ℕ → Option Bool
switch value = if bytes_eq (codes "0") value then Some false else if bytes_eq (codes "1") value then Some true else None

-- the settings of mac_seeotheruids's policy and of mac_portacl's, where the spec is one of theirs

abbrev pub see_settings : Spec → Option (Bool × Bool × ℕ × Bool)
see_settings (means.Seeotheruids primarygroup specific gid suser) = Some (primarygroup, specific, gid, suser)
see_settings other = None

abbrev pub portacl_settings : Spec → Option (List PortRule × ℕ × Bool × Bool)
portacl_settings (means.Portacl rules port_high suser autoport) = Some (rules, port_high, suser, autoport)
portacl_settings other = None

-- the change that puts what a value is read as beside the other settings

abbrev pub see : {A : Type 0} → (List ℕ → Option A) → (A → Bool → Bool → ℕ → Bool → Spec) → List ℕ → Spec → Option Change
see read put value spec = option_and_then (λ s. option_map (λ x. See (put x s.0 s.1 s.2 s.3)) (read value)) (see_settings spec)

abbrev pub portacl : {A : Type 0} → (List ℕ → Option A) → (A → List PortRule → ℕ → Bool → Bool → Spec) → List ℕ → Spec → Option Change
portacl read put value spec = option_and_then (λ s. option_map (λ x. Port (put x s.0 s.1 s.2 s.3)) (read value)) (portacl_settings spec)

-- The table.
abbrev pub sysctl_row : Sysctl → SysctlRow
sysctl_row RevocationEnabled = record (variable modules.Biba (codes "revocation_enabled") (λ value spec. option_map Revocation (switch value))) { tunable = true }
sysctl_row FirstmatchEnabled = variable modules.Bsdextended (codes "firstmatch_enabled") (λ value spec. option_map FirstMatch (switch value))
sysctl_row PrimarygroupEnabled = variable modules.Seeotheruids (codes "primarygroup_enabled") (see switch (λ on p s g u. means.Seeotheruids on s g u))
sysctl_row SpecificgidEnabled = variable modules.Seeotheruids (codes "specificgid_enabled") (see switch (λ on p s g u. means.Seeotheruids p on g u))
sysctl_row Specificgid = variable modules.Seeotheruids (codes "specificgid") (see (number 0 LAST_ID) (λ gid p s g u. means.Seeotheruids p s gid u))
sysctl_row SuserPrivileged = variable modules.Seeotheruids (codes "suser_privileged") (see switch (λ on p s g u. means.Seeotheruids p s g on))
sysctl_row PortHigh = variable modules.Portacl (codes "port_high") (portacl (number 0 LAST_PORT) (λ port r h u a. means.Portacl r port u a))
sysctl_row SuserExempt = variable modules.Portacl (codes "suser_exempt") (portacl switch (λ on r h u a. means.Portacl r h on a))
sysctl_row AutoportExempt = variable modules.Portacl (codes "autoport_exempt") (portacl switch (λ on r h u a. means.Portacl r h u on))
sysctl_row Rules = variable modules.Portacl (codes "rules") (portacl port_rules_in (λ rules r h u a. means.Portacl rules h u a))

-- all of them
abbrev pub all_sysctls : List Sysctl
all_sysctls =
    RevocationEnabled ∷ FirstmatchEnabled ∷ PrimarygroupEnabled ∷ SpecificgidEnabled ∷ Specificgid ∷ SuserPrivileged
    ∷ PortHigh ∷ SuserExempt ∷ AutoportExempt ∷ Rules ∷ []

unfoldable pub sysctl_named : List ℕ → Option Sysctl
sysctl_named name = find (λ s. bytes_eq (sysctl_row s).name name) all_sysctls

-- the change that a value asks for while these policies are listed; None where the module isn't listed, and for what is no value
abbrev pub asked_of : Sysctl → List Entry → List ℕ → Option Change
asked_of s listed value = option_and_then ((sysctl_row s).asks value) (spec_in (sysctl_row s).owner listed)
