-- Which of two answers counts.
use Rattle.std.specs.Prelude.{if◌then◌else◌, [], ◌∷◌}
use Rattle.mf_errno.specs.declared.errno.Errno.{Errno}
use Rattle.mf_errno.specs.declared.errno.Errno.TheVariants.{Success}
use Rattle.mf_errno.specs.Same.{is_same}
use Rattle.mf_errno.specs.Selection.{first_standing, precedence}

-- the one of two answers that counts: by the precedence, else the newer unless that is success
unfoldable pub select : Errno → Errno → Errno
select newer older = first_standing precedence (newer ∷ older ∷ []) (if is_same Success newer then older else newer)
