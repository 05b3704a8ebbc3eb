use Rattle.std.proofs.Common.{List, sym, subst}
use Rattle.mf_policy.specs.Registration.{Entry}
use Rattle.mf_audit.specs.Slotted.{AreSlotted}
use Rattle.mf_audit.proofs.BootSlots.{booted_slotted}
use Rattle.mf_audit.proofs.opening.opening.Goals as goal

pub invariant_of-result : goal.invariant_of-result
invariant_of-result c = subst (λ (es : List Entry). AreSlotted es) (sym c.in_ok-listed.ensures) (booted_slotted c.args.script.now c.requires)
