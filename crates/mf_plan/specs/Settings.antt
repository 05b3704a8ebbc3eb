-- The settings of sysctl(8), by docs/MANUAL.md (CALLS), and when a change of one is refused.
use Rattle.std.specs.Prelude.{ℕ, Bool, false, ◌&&◌, List, Option, Some, None, option_map}
use Rattle.std.specs.Option.{option_map_or}
use Rattle.mf_errno.specs.declared.errno.Errno.{Errno}
use Rattle.mf_errno.specs.declared.errno.Errno.TheVariants.{Success}
use Rattle.mf_errno.specs.declared.module.Module.{Module}
use Rattle.mf_policy.specs.Registration.{Entry, is_listed}
use Rattle.mf_policy.specs.Sysctls.{sysctl_named, sysctl_row}

-- the module of the setting of a name
abbrev pub owner_named : List ℕ → Option Module
owner_named name = option_map (λ s. (sysctl_row s).owner) (sysctl_named name)

-- whether the name is that of a tunable of a listed module
abbrev pub is_tunable : List Entry → List ℕ → Bool
is_tunable listed name = option_map_or (λ s. (sysctl_row s).tunable && is_listed (sysctl_row s).owner listed) (sysctl_named name) false

abbrev pub unless_success : Errno → Option Errno
unless_success Success = None
unless_success other = Some other
