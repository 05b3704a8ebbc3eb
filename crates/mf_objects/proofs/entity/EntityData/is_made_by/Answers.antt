use Rattle.std.proofs.Common.{rules}
use Rattle.mf_objects.proofs.entity.EntityData.is_made_by.Goals as goal

pub returns-in-Pipe : goal.returns-in-Pipe
returns-in-Pipe c = search rules
