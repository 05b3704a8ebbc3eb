use Rattle.mf_spelled.proofs.Spellable.{read_spellable}
use Rattle.mf_spelled.proofs.laws.read_scripts_are_spellable.Goals as goal

pub returns : goal.returns
returns c = read_spellable
