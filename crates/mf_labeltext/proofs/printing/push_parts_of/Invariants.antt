use Rattle.std.proofs.Common.{◌≡◌, ◌++◌, take}
use Rattle.mf_labeltext.specs.Canonical.{parts_of}
use Rattle.mf_labeltext.proofs.printing.push_parts_of.Given as goal

abbrev pub invariant-loop-part : goal.invariant-loop-part
invariant-loop-part l = l.ordered.items ≡ l.fn.ordered.items ++ parts_of l.policy (take l.part-index l.parts)
