use Rattle.mf_reading.proofs.WholeText.{whole_tells}
use Rattle.mf_reading.proofs.laws.whole_text_tells_history.Goals as goal

pub returns : goal.returns
returns c = whole_tells
