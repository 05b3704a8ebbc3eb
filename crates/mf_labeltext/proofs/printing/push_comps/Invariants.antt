use Rattle.std.proofs.Common.{string_bytes}
use Rattle.std.specs.FinSet as set
use Rattle.mf_elem.specs.Comps.{compartments_of}
use Rattle.mf_labeltext.proofs.Printings.{Printed}
use Rattle.mf_labeltext.proofs.printing.push_comps.Given as goal

abbrev pub invariant-loop-place : goal.invariant-loop-place
invariant-loop-place l = Printed (set.contains (compartments_of l.comps)) (string_bytes l.fn.out) (string_bytes l.out) l.separator l.place
