use Rattle.mf_text.proofs.Unescaping.{escaped_stands}
use Rattle.mf_text.proofs.escapes.escape_and_back.Goals as goal

pub returns : goal.returns
returns c = escaped_stands
