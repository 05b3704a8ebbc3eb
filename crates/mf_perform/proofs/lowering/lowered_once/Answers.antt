use Rattle.std.proofs.Common.{◌≡◌, Bor, ap, sym, ◌∙◌}
use Rattle.std.specs.Prelude.{option_copied, unwrap_or}
use Rattle.mf_elem.specs.declared.elem.Elem.{Elem}
use Rattle.mf_elem.specs.Elem.{dominates}
use Rattle.mf_plan.specs.Outline.{item_asking}
use Rattle.mf_perform.specs.Held.{with_element}
use Rattle.mf_perform.proofs.Left.{dominated, now_of, sunk, unmoved, unseen}
use Rattle.mf_perform.proofs.lowering.lowered_once.Goals as goal

pub returns-then-not-lowers : goal.returns-then-not-lowers
unfolding item_asking
returns-then-not-lowers c asked own had =
    unmoved c.args.slot (with_element own (option_copied c.args.lowered)) (item_asking c.args.objects.now asked c.args.check.now) (sym c.if-not-lowers.ensures)

pub returns-in-Some : goal.returns-in-Some
unfolding item_asking
returns-in-Some c asked own had =
    let now : c.unwrap_or.result.now ≡ unwrap_or (option_copied c.args.lowered) c.args.first.now =
    ap (λ (r : Bor Elem). r.now) c.unwrap_or.ensures ∙ now_of c.args.lowered c.args.first in
    sunk c.args.slot own c.args.first.now (option_copied c.args.lowered) (item_asking c.args.objects.now asked c.args.check.now) c.in-Some.other.now had
    (sym c.in-Some.ensures) (sym c.if-not-lowers.ensures)
    (ap (dominates c.in-Some.other.now) (sym now) ∙ sym c.if-not-dominates.ensures)

pub returns-in_default : goal.returns-in_default
unfolding item_asking
returns-in_default c asked own had =
    let now : c.unwrap_or.result.now ≡ unwrap_or (option_copied c.args.lowered) c.args.first.now =
    ap (λ (r : Bor Elem). r.now) c.unwrap_or.ensures ∙ now_of c.args.lowered c.args.first in
    dominated c.args.slot own c.args.first.now (option_copied c.args.lowered) (item_asking c.args.objects.now asked c.args.check.now) c.in-Some.other.now had
    (sym c.in-Some.ensures)
    (ap (dominates c.in-Some.other.now) (sym now) ∙ sym c.if-not-dominates.ensures)

pub returns-in_default-2 : goal.returns-in_default-2
unfolding item_asking
returns-in_default-2 c asked own had =
    unseen c.args.slot (with_element own (option_copied c.args.lowered)) (item_asking c.args.objects.now asked c.args.check.now)
    (sym c.seen.ensures ∙ ap option_copied c.in_default.is)
