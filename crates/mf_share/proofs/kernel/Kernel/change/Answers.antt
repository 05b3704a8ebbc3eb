use Rattle.std.proofs.Common.{◌≡◌, subst}
use Rattle.mf_core.specs.declared.progress.ChangeOutcome.TheVariants as outcome
use Rattle.mf_core.specs.CoreView.{CoreView, Changes}
use Rattle.mf_share.specs.Passes.{PassView, AgreesWithPass}
use Rattle.mf_share.proofs.kernel.Kernel.change.Goals as goal

pub returns-in-Some-Done-clause-found : goal.returns-in-Some-Done-clause-found
returns-in-Some-Done-clause-found g c =
    let old : CoreView = c.deref_mut.result.now in
    let new : CoreView = c.change.new.self in
    let is_ok : c.in-Some-Done.field-0 ≡ outcome.Done = rw c.in-Some-Done.is at c.in-Some-Done.field-0-is in
    let done = rw is_ok at (rw c.in-Some-Done.is at c.in_ok-found.ensures.some) in (
      old,
      new,
      c.in_ok-found.ensures.core,
      subst (λ (p : PassView). AgreesWithPass old p) c.loop.invariant.2 done.0,
      subst (λ (p : PassView). Changes old p.task outcome.Done new) c.loop.invariant.2 done.2,
    )
