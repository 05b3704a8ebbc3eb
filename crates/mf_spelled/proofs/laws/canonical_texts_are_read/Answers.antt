use Rattle.mf_spelled.proofs.ScriptTexts.{canonical_spells, canonical_read}
use Rattle.mf_spelled.proofs.laws.canonical_texts_are_read.Goals as goal

pub returns-clause-spell : goal.returns-clause-spell
returns-clause-spell c = canonical_spells

pub returns-clause-read : goal.returns-clause-read
returns-clause-read c = canonical_read
