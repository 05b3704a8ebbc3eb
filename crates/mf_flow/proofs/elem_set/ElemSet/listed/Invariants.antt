use Rattle.std.proofs.Common.{◌≡◌, take}
use Rattle.mf_flow.specs.Listed.{has_bit, listed}
use Rattle.mf_flow.proofs.elem_set.ElemSet.listed.Given as goal

abbrev pub invariant-loop-entry : goal.invariant-loop-entry
invariant-loop-entry l = l.items.items ≡ listed (has_bit l.numbers) (take l.entry-index l.entry-items)
