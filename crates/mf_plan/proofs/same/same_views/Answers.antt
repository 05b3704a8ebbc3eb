use Rattle.std.proofs.Common.{arith}
use Rattle.mf_plan.specs.Items.{item_with}
use Rattle.mf_plan.proofs.Viewing.{view_differs}
use Rattle.mf_plan.proofs.same.same_views.Goals as goal

pub returns-then-not-is_same : goal.returns-then-not-is_same
returns-then-not-is_same c = (
  λ t. cc t,
  λ same. view_differs (item_with c.args.subjects.now) (item_with c.args.theirs.now) c.args.seen.now c.args.others.now c.loop-i.i _ _ c.is_same.result
      (omega arith) (omega arith) (search) c.is_same.ensures.1 same,
)
