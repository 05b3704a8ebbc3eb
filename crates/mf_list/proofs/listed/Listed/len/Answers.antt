use Rattle.std.proofs.Common.{◌≤◌, List, length, subst, arith}
use Rattle.mf_policy.specs.Registration.{Entry}
use Rattle.mf_list.proofs.Counts.{listed_few}
use Rattle.mf_list.proofs.Walk.{walked_once}
use Rattle.mf_list.proofs.listed.Listed.len.Goals as goal

pub overflow_add-result : goal.overflow_add-result
overflow_add-result g c = omega (arith, c.len.ensures.value, c.len-2.ensures.value, listed_few _ c.len.ensures.once, listed_few _ c.len-2.ensures.once)

pub returns-clause-few : goal.returns-clause-few
returns-clause-few g c =
    subst (λ (es : List Entry). length es ≤ 8) c.self.view_is
    (listed_few _ (walked_once _ _ c.len.ensures.pinned c.len-2.ensures.may_leave c.len.ensures.once c.len-2.ensures.once))
