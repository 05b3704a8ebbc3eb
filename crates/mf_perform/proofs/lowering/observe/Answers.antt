use Rattle.std.proofs.Common.{◌≡◌, List, Some, None, map, ap, sym, ◌∙◌, rules}
use Rattle.std.specs.Prelude.{option_copied}
use Rattle.mf_elem.specs.declared.label.LabelValue.{LabelValue}
use Rattle.mf_elem.specs.declared.label.LabelValue.TheVariants.{Unset}
use Rattle.mf_item.specs.Item.{Item}
use Rattle.mf_objects.specs.Changes.{with_change}
use Rattle.mf_objects.specs.Labels.{with_value}
use Rattle.mf_objects.specs.Lives.{value_at}
use Rattle.mf_policy.specs.Lowering.{after_checks}
use Rattle.mf_plan.specs.Outline.{item_asking}
use Rattle.mf_perform.specs.Held.{with_element}
use Rattle.mf_perform.proofs.PutBack.{still_set, unset, with_own}
use Rattle.mf_perform.proofs.lowering.observe.Goals as goal

pub returns-in_err-own-clause-observed : goal.returns-in_err-own-clause-observed
returns-in_err-own-clause-observed c asked =
    let o = c.args.objects.now in
    let own = value_at o c.args.caller c.args.slot in
    let items : List Item = map (item_asking o asked) c.args.checks.now in
    let none : own ≡ Unset = search rules in
    sym (with_own o c.args.caller c.args.slot (after_checks c.args.slot own items) c.live-live.ensures.population.rising
    (unset (after_checks c.args.slot own items) own (still_set c.args.slot own items) none))

pub returns-in_err-element-clause-observed : goal.returns-in_err-element-clause-observed
returns-in_err-element-clause-observed c asked =
    let o = c.args.objects.now in
    let own = value_at o c.args.caller c.args.slot in
    let items : List Item = map (item_asking o asked) c.args.checks.now in
    let had : c.in_ok-own.own.now ≡ own = search rules in
    let none : option_copied c.lowered_by.result ≡ None = search rules in
    sym (with_own o c.args.caller c.args.slot (after_checks c.args.slot own items) c.live-live.ensures.population.rising
    (ap (λ (v : LabelValue). after_checks c.args.slot v items) (sym had) ∙ c.lowered_by.ensures asked ∙ ap (with_element c.in_ok-own.own.now) none ∙ had))

pub returns-clause-observed : goal.returns-clause-observed
returns-clause-observed c asked =
    let o = c.args.objects.now in
    let own = value_at o c.args.caller c.args.slot in
    let items : List Item = map (item_asking o asked) c.args.checks.now in
    let had : c.in_ok-own.own.now ≡ own = search rules in
    let left : option_copied c.lowered_by.result ≡ Some c.in_ok-element.field-0.now = search rules in
    c.put.ensures
    ∙ ap (λ (v : LabelValue). with_change (with_value c.args.slot v) o c.args.caller)
    (c.with_element.ensures ∙ ap (with_element c.in_ok-own.own.now) (sym left) ∙ sym (c.lowered_by.ensures asked) ∙ ap (λ (v : LabelValue). after_checks c.args.slot v items) had)
