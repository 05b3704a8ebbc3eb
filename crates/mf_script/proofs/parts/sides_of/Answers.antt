use Rattle.std.proofs.Common.{rules}
use Rattle.mf_script.specs.Parts.{any_word, sides_of}
use Rattle.mf_script.proofs.parts.sides_of.Goals as goal

pub returns-in-None : goal.returns-in-None
unfolding sides_of any_word
returns-in-None c = search rules

pub returns-in_ok-value-in-Some : goal.returns-in_ok-value-in-Some
unfolding sides_of any_word
returns-in_ok-value-in-Some c = search rules
