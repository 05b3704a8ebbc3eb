use Rattle.std.proofs.Common.{sym, ◌∙◌}
use Rattle.mf_rule.proofs.ReadingWords.{texts}
use Rattle.mf_rule.proofs.Spelled.{spelled_is_read}
use Rattle.mf_rule.proofs.ReadAsSpelled.{read_is_spelled}
use Rattle.mf_rule.proofs.Formed.{if_read}
use Rattle.mf_rule.proofs.reading.read_rule.Goals as goal

pub returns-clause-spells : goal.returns-clause-spells
returns-clause-spells c = λ rule.
    let words = texts c.args.words.now in
    (λ is. read_is_spelled words rule (sym c.read_words.ensures ∙ is), λ spells. c.read_words.ensures ∙ spelled_is_read words rule spells)

pub returns-clause-formed : goal.returns-clause-formed
returns-clause-formed c = if_read (texts c.args.words.now) c.read_words.result c.read_words.ensures
