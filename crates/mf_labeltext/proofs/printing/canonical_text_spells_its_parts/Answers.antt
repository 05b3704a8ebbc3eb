use Rattle.mf_labeltext.proofs.PartsSpelling.{canonical_spells}
use Rattle.mf_labeltext.proofs.printing.canonical_text_spells_its_parts.Goals as goal

pub returns : goal.returns
returns c = canonical_spells
