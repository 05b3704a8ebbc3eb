use Rattle.std.proofs.Common.{rules}
use Rattle.mf_list.proofs.listed.Listed.ask.Goals as goal

pub returns-in-Priv : goal.returns-in-Priv
returns-in-Priv g c = search rules
