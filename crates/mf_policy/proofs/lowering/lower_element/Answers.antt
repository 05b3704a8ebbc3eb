use Rattle.std.proofs.Common.{◌≡◌, Some, sym, ◌∙◌, rules}
use Rattle.mf_elem.specs.declared.elem.Elem.{Elem}
use Rattle.mf_policy.proofs.Lowered.{lowered_differs}
use Rattle.mf_policy.proofs.lowering.lower_element.Goals as goal

pub returns-clause-other : goal.returns-clause-other
returns-clause-other c lowers same =
    let subject : Elem = c.in-Some-Some.subject.now in
    let object : Elem = c.in-Some-Some.object.now in
    let was : c.args.own.now ≡ Some subject = search rules in
    lowered_differs subject object (sym c.if-dominates.ensures) (same ∙ was)
