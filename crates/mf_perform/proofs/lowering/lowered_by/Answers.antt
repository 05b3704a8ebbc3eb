use Rattle.std.proofs.Common.{◌≡◌, Some, None, ap, sym, ◌∙◌, map, arith, rules}
use Rattle.std.specs.Prelude.{option_copied}
use Rattle.mf_policy.specs.Answer.{range_label}
use Rattle.mf_plan.specs.Outline.{item_asking}
use Rattle.mf_perform.specs.Held.{with_element}
use Rattle.mf_perform.proofs.Left.{none_left}
use Rattle.mf_perform.proofs.LoweredBy.{one_more}
use Rattle.mf_perform.proofs.lowering.lowered_by.Goals as goal

pub returns-in_err-first : goal.returns-in_err-first
returns-in_err-first c asked =
    let none : (range_label c.args.own.now).effective ≡ None = search rules in
    let is : option_copied c.from_residual.result ≡ None = search rules in
    none_left c.args.slot c.args.own.now (map (item_asking c.args.objects.now asked) c.args.checks.now) none ∙ ap (with_element c.args.own.now) (sym is)

pub loop-check-preserved : goal.loop-check-preserved
loop-check-preserved c = λ asked.
    let own = c.args.own.now in
    let had : (range_label own).effective ≡ Some c.in_ok-first.first.now = search rules in
    one_more (item_asking c.args.objects.now asked) c.args.slot own (with_element own (option_copied c.loop-check.lowered)) (with_element own (option_copied c.lowered_once-lowered.result))
    c.args.checks.now c.loop-check.check-index _ (omega arith) (c.loop-check.invariant asked) (sym (c.lowered_once-lowered.ensures asked own had))
