use Rattle.std.proofs.Common.{ap, arith, take}
use Rattle.mf_rule.proofs.FreeSlots.{same_used}
use Rattle.mf_rule.proofs.rule_list.RuleList.same.Goals as goal

pub returns : goal.returns
returns c =
    let used = c.max-used.ensures in
    let slots = c.deref.ensures.value in
    let others = c.deref-2.ensures.value in
    rw (← c.self.view_is, ← c.other.view_is) (
      λ is_same. same_used c.max-used.result _ _ (omega arith) (λ number from. c.self.invariant.2 number (omega arith)) (λ number from. c.other.invariant.2 number (omega arith)) (rw (← slots, ← others) (c.same_slots.ensures.0 is_same)),
      λ equal. c.same_slots.ensures.1 (rw (slots, others) (ap (take _) equal)),
    )
