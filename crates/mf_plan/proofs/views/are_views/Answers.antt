use Rattle.std.proofs.Common.{arith}
use Rattle.mf_plan.specs.Items.{item_with}
use Rattle.mf_plan.specs.Outline.{item_asking}
use Rattle.mf_plan.proofs.Viewing.{view_differs}
use Rattle.mf_plan.proofs.views.are_views.Goals as goal

pub returns-then-not-is_view : goal.returns-then-not-is_view
returns-then-not-is_view c = (
  λ t. cc t,
  λ same. view_differs (item_with c.args.subjects.now) (item_asking c.args.objects.now c.args.asked.now) c.args.seen.now c.args.checks.now c.loop-i.i _ _ c.is_view.result
      (omega arith) (omega arith) (search) c.is_view.ensures.is.1 same,
)
