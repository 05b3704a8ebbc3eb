-- Of which calls something may be told; inner contracts alone cite this.
use Rattle.std.specs.Prelude.{Bool, true, false, ◌&&◌, ◌||◌, List, is_some}
use Rattle.std.specs.List.{list_any}
use Rattle.mf_policy.specs.declared.spec.Spec.{Spec}
use Rattle.mf_policy.specs.declared.spec.Spec.TheVariants as means
use Rattle.mf_policy.specs.Lowering.{lomac_slot, observes}
use Rattle.mf_policy.specs.Operations.{row_of}
use Rattle.mf_policy.specs.Registration.{Entry}
use Rattle.mf_plan.specs.declared.outline.Check.{Check}
use Rattle.mf_plan.specs.declared.reply.Reply.{Reply}
use Rattle.mf_plan.specs.declared.reply.Reply.TheVariants as reply
use Rattle.mf_why.specs.declared.extent.Extent.{Extent}
use Rattle.mf_why.specs.Lines.{tells_permits}

abbrev pub is_denied : Reply → Bool
is_denied (reply.Denied errno op number by) = true
is_denied other = false

abbrev pub has_rules : Spec → Bool
has_rules (means.Bsdextended rules first) = true
has_rules (means.Portacl rules port_high suser autoport) = true
has_rules other = false

abbrev pub is_ruled : List Entry → Bool
is_ruled listed = list_any (λ entry. has_rules entry.1) listed

-- a denial, or rules that may have allowed the call
abbrev pub tells_decision : Extent → Reply → List Entry → Bool
tells_decision extent reply listed = is_denied reply || tells_permits extent reply && is_ruled listed

-- whether a subject observes by one of the checks
abbrev pub any_observes : List Check → Bool
any_observes checks = list_any (λ check. observes (row_of check.op).movement) checks

-- whether checks may lower their caller
abbrev pub may_lower : List Entry → List Check → Bool
may_lower listed checks = is_some (lomac_slot listed) && any_observes checks
