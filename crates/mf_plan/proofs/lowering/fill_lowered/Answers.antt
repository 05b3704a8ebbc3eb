use Rattle.mf_plan.proofs.LoweredViews.{all_as_they_are}
use Rattle.mf_plan.proofs.lowering.fill_lowered.Goals as goal

pub lower_listed-requires-clause-first : goal.lower_listed-requires-clause-first
lower_listed-requires-clause-first c =
    all_as_they_are c.args.state.now.objects c.args.outline.now.found.request c.args.outline.now.found.caller c.as_slice-checks.result.now _ c.fill_views.ensures.items
