use Rattle.std.proofs.Common.{◌≡◌, ◌++◌, map, take, drop}
use Rattle.mf_rule.specs.UidIndex as spec
use Rattle.mf_rule.proofs.uid_index.mark_all.Given as goal

abbrev pub invariant-loop-stretch : goal.invariant-loop-stretch
invariant-loop-stretch l =
    l.stretch-items ≡ map (spec.stretch_with l.number l.range) (take l.stretch-index l.initial.stretch-items) ++ drop l.stretch-index l.initial.stretch-items
