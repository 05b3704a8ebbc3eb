-- Which of several answers counts, as the kernel's `mac_error_select` has it (sys/security/mac/mac_framework.c).
use Rattle.std.specs.Prelude.{if◌then◌else◌, List, [], ◌∷◌}
use Rattle.std.specs.List.{list_any}
use Rattle.mf_errno.specs.declared.errno.Errno.{Errno}
use Rattle.mf_errno.specs.declared.errno.Errno.TheVariants.{Eperm, Enoent, Esrch, Edeadlk, Eacces, Einval}
use Rattle.mf_errno.specs.Same.{is_same}

-- the errors that come before all others, in this order
abbrev pub precedence : List Errno
precedence = Edeadlk ∷ Einval ∷ Esrch ∷ Enoent ∷ Eacces ∷ Eperm ∷ []

-- the first of these errors that stands among the answers; where none does, the last argument
abbrev pub first_standing : List Errno → List Errno → Errno → Errno
first_standing [] answers otherwise = otherwise
first_standing (e ∷ es) answers otherwise = if list_any (is_same e) answers then e else first_standing es answers otherwise
