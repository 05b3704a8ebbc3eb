use Rattle.std.proofs.Common.{◌≡◌, length, map, take}
use Rattle.mf_elem.specs.declared.label.LabelValue.{LabelValue}
use Rattle.mf_errno.specs.declared.module.Module.{Module}
use Rattle.mf_hist.proofs.labels.parts_shown.Given as goal

abbrev pub invariant-loop-part : goal.invariant-loop-part
invariant-loop-part l = record {
  shown : l.parts ≡ map (λ (part : Module × LabelValue). record { «module» = part.0; value = part.1 }) (take l.part-index l.part-items);
  count : length l.parts ≡ l.part-index;
}
