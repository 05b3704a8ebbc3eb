use Rattle.std.proofs.Common.{rules}
use Rattle.mf_objects.proofs.entity.Entity.is_member.Goals as goal

pub returns-then-is_in : goal.returns-then-is_in
returns-then-is_in c = search rules
