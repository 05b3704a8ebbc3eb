use Rattle.std.proofs.Common.{◌≡◌, List, Some, map, ap, ◌∙◌, rules}
use Rattle.mf_objects.specs.Changes.{with_change}
use Rattle.mf_objects.specs.Labels.{with_value}
use Rattle.mf_objects.specs.Live.{Entities}
use Rattle.mf_objects.specs.Lives.{value_at}
use Rattle.mf_policy.specs.Lowering.{after_checks, lomac_slot}
use Rattle.mf_plan.specs.declared.outline.Check.{Check}
use Rattle.mf_plan.specs.Outline.{item_asking}
use Rattle.mf_perform.specs.Effect.{with_objects}
use Rattle.mf_perform.specs.Passed.{passed}
use Rattle.mf_perform.proofs.Left.{by_outline}
use Rattle.mf_perform.proofs.lowering.lower.Goals as goal

pub returns-clause-lowered : goal.returns-clause-lowered
returns-clause-lowered c =
    let s = c.args.state.now in
    let outline = c.args.outline.now in
    let me = c.in_ok-caller.caller in
    let slot = c.in_ok-slot.slot in
    let listed : lomac_slot s.specs ≡ Some slot = search rules in
    let named : outline.found.caller ≡ Some me = search rules in
    ap (λ (o : Entities). with_objects s o)
    (c.observe.ensures.observed outline.found.request
    ∙ ap (λ (checks : List Check). with_change (with_value slot (after_checks slot (value_at s.objects me slot) (map (item_asking s.objects outline.found.request) checks))) s.objects me)
    (c.passed-checks.ensures ∙ ap (passed c.args.reply.now) c.as_slice.ensures.value))
    ∙ by_outline s outline c.args.reply.now slot me listed named
