use Rattle.std.proofs.Common.{◌++◌}
use Rattle.mf_list.specs.Once.{IsHeldOnce}
use Rattle.mf_policy_tables.proofs.lists.comes_of_all.Given as goal

abbrev pub invariant-loop-act : goal.invariant-loop-act
invariant-loop-act g l = IsHeldOnce (l.policies.fixed ++ l.policies.list) l.policies.catalogue
