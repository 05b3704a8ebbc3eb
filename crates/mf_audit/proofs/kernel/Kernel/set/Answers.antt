use Rattle.std.proofs.Common.{List, ap, sym, subst}
use Rattle.mf_policy.specs.declared.settings.Changed.{Changed}
use Rattle.mf_policy.specs.Registration.{Entry}
use Rattle.mf_audit.specs.Slotted.{AreSlotted}
use Rattle.mf_audit.proofs.Slots.{slotted_change}
use Rattle.mf_audit.proofs.kernel.Kernel.set.Goals as goal

pub invariant_of-self-2 : goal.invariant_of-self-2
invariant_of-self-2 c =
    subst (λ (es : List Entry). AreSlotted es) (sym (ap (λ (p : Changed × List Entry). p.1) c.in_ok-_answer.ensures.ok))
    (slotted_change c.args.changed c.args.setting.now c.self.inside.listed c.self.invariant)
