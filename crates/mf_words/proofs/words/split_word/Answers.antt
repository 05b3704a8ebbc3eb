use Rattle.mf_words.proofs.Splits.{split_some}
use Rattle.mf_words.proofs.words.split_word.Goals as goal

pub returns-clause-some : goal.returns-clause-some
returns-clause-some c = split_some c.args.bytes.now _ _ c.word_len.result c.requires c.word_len.ensures.value c.split_at.ensures.front c.split_at.ensures.back
