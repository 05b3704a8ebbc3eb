-- How the answers of several policies are composed, as by the kernel's `mac_error_select`, and which policy decides the
-- answer, which is this model's own.
use Rattle.std.specs.Prelude.{ℕ, if◌then◌else◌, List, [], ◌∷◌, Option, None, position}
use Rattle.mf_errno.specs.declared.errno.Errno.{Errno}
use Rattle.mf_errno.specs.declared.errno.Errno.TheVariants.{Success}
use Rattle.mf_errno.specs.Same.{is_same}
use Rattle.mf_errno.specs.Selection.{precedence, first_standing}

-- the last answer that is no success; success where all are
abbrev pub last_failure : List Errno → Errno
last_failure [] = Success
last_failure (answer ∷ later) = if is_same Success (last_failure later) then answer else last_failure later

-- the first error of the precedence that is among the answers; where none is, the last answer that is no success; else
-- success
unfoldable pub composition : List Errno → Errno
composition answers = first_standing precedence answers (last_failure answers)

-- the first place whose answer is the composition; none where that is success
unfoldable pub decider : List Errno → Option ℕ
decider answers =
    if is_same Success (composition answers) then None else position (is_same (composition answers)) answers
