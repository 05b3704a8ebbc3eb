use Rattle.std.proofs.Common.{arith}
use Rattle.mf_words.proofs.Splits.{few_lines}
use Rattle.mf_words.proofs.words.Lines.of.Goals as goal

pub returns-clause-few : goal.returns-clause-few
returns-clause-few g c = omega (arith, few_lines c.args.bytes.now, c.requires)
