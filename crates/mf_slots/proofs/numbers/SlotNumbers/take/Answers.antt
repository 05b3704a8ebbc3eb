use Rattle.std.proofs.Common.{rules}
use Rattle.mf_slots.proofs.numbers.SlotNumbers.take.Goals as goal

pub returns-clause-given : goal.returns-clause-given
returns-clause-given c = search rules
