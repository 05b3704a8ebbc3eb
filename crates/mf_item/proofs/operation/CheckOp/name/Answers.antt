use Rattle.std.proofs.Common.{rules}
use Rattle.mf_item.proofs.operation.CheckOp.name.Goals as goal

pub returns-in-ProcSignal : goal.returns-in-ProcSignal
returns-in-ProcSignal c = search rules
