use Rattle.std.proofs.Common.{length}
use Rattle.mf_audit.proofs.opening.+free_from.Given as goal

abbrev pub decreases-free_from : goal.decreases-free_from
decreases-free_from l = length l.names
