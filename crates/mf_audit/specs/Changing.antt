-- Whose setting a process may change. Inner contracts alone cite this.
use Rattle.std.specs.Option.{ok_or}
use Rattle.std.specs.Prelude.{ℕ, ◌==◌, Bool, ◌||◌, not, if◌then◌else◌, List, Option, None, option_and_then, Result, Ok, Err}
use Rattle.mf_text.specs.Results.{and_then}
use Rattle.mf_errno.specs.declared.errno.Errno.{Errno}
use Rattle.mf_errno.specs.declared.errno.Errno.TheVariants as errno
use Rattle.mf_errno.specs.declared.module.Module.{Module}
use Rattle.mf_objects.specs.declared.id.Id.{Id}
use Rattle.mf_objects.specs.Live.{cred_at}
use Rattle.mf_policy.specs.declared.settings.Change.{Change}
use Rattle.mf_policy.specs.Registration.{is_listed}
use Rattle.mf_policy.specs.Sysctls.{asked_of, sysctl_named, sysctl_row}
use Rattle.mf_plan.specs.declared.state.State.{State}

-- root alone changes a listed module's setting, unless it is a tunable
abbrev pub changing_by : State → Id → Bool → Option Module → Result Module Errno
changing_by s me tunable m =
    if not ((cred_at s.objects me).uid == 0) || tunable then Err errno.Eperm else
    and_then (ok_or m errno.Enoent) (λ m. if is_listed m s.specs then Ok m else Err errno.Enoent)

-- the change that a value asks of the setting of a name, which is no tunable
abbrev pub change_named : State → List ℕ → List ℕ → Option Change
change_named s name value = option_and_then (λ v. if (sysctl_row v).tunable then None else asked_of v s.specs value) (sysctl_named name)
