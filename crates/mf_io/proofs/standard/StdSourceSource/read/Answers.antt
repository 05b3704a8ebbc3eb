use Rattle.std.proofs.Common.{rules, arith}
use Rattle.mf_io.proofs.Streams.{gave_of_read}
use Rattle.mf_io.proofs.standard.StdSourceSource.read.Goals as goal

pub returns-in-Ok-clause-bytes : goal.returns-in-Ok-clause-bytes
returns-in-Ok-clause-bytes g c = gave_of_read _ _ _ _ _ (grind arith) (grind arith) (search rules) (search rules)
