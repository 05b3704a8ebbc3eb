use Rattle.mf_script.proofs.ProcessNames.{one_name, second_name, no_first_name, third_name}
use Rattle.mf_script.proofs.names.is_process_name.Goals as goal

pub returns-in-None : goal.returns-in-None
returns-in-None c = one_name c.args.word.now _ c.in-None.ensures.parted c.is_name.ensures

pub returns-then-is_name : goal.returns-then-is_name
returns-then-is_name c = second_name c.args.word.now c.in-Some.task.now c.in-Some.child.now _ _ c.in-Some.ensures.parted c.in-None-split_at.ensures.parted c.is_name-in-None-split_at.ensures c.if-is_name.true c.is_name-then-is_name.ensures

pub returns-else-is_name : goal.returns-else-is_name
returns-else-is_name c = no_first_name c.args.word.now c.in-Some.task.now c.in-Some.child.now _ c.in-Some.ensures.parted c.in-None-split_at.ensures.parted c.is_name-in-None-split_at.ensures c.if-is_name.false

pub returns-in-Some-split_at : goal.returns-in-Some-split_at
returns-in-Some-split_at c = third_name c.args.word.now _ _ _ _ c.in-Some.ensures.parted c.in-Some-split_at.ensures.parted
