use Rattle.std.proofs.Common.{rules}
use Rattle.mf_objects.proofs.entity.EntityData.has_cred.Goals as goal

pub returns-in-Process : goal.returns-in-Process
returns-in-Process c = search rules
