use Rattle.std.proofs.Common.{refl}
use Rattle.mf_words.proofs.Splits.{line_some}
use Rattle.mf_words.proofs.words.split_line.Goals as goal

pub returns-clause-lines : goal.returns-clause-lines
returns-clause-lines c = line_some c.args.bytes.now _ _ c.line_len-end.result c.requires c.line_len-end.ensures.value refl c.behind_newline.ensures.value
