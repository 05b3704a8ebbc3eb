use Rattle.std.proofs.Common.{◌≡◌, map, take}
use Rattle.mf_plan.specs.declared.reply.LabelPart.{LabelPart}
use Rattle.mf_hist.proofs.reply.pairs_of.Given as goal

abbrev pub invariant-loop-part : goal.invariant-loop-part
invariant-loop-part l = l.pairs.items ≡ map (λ (part : LabelPart). (part.module, part.value)) (take l.part-index l.parts)
