use Rattle.std.proofs.Common.{arith}
use Rattle.mf_script.proofs.EscapedBytes.{escaped_short}
use Rattle.mf_script.proofs.parts.text_of.Goals as goal

pub from_vec-requires : goal.from_vec-requires
from_vec-requires c = omega (arith, escaped_short c.args.word.now c.in-Ok.bytes.items c.in-Ok.ensures.ok)
