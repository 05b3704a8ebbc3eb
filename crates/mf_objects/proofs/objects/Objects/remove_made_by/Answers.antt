use Rattle.std.proofs.Common.{get_or, sym, ◌∙◌}
use Rattle.mf_objects.proofs.Removing.{goes_later, made_bare, removes, removed}
use Rattle.mf_objects.proofs.objects.Objects.remove_made_by.Goals as goal

pub remove_at-requires-clause-later : goal.remove_at-requires-clause-later
remove_at-requires-clause-later c =
    goes_later c.args.self.now c.loop-place.self c.args.maker c.loop-place.place c.loop-place.len c.loop-place.invariant
    (λ d. sym (c.made_at.ensures d) ∙ c.if-made_at.true)

pub remove_at-requires-clause-bare : goal.remove_at-requires-clause-bare
remove_at-requires-clause-bare c d =
    made_bare c.loop-place.self.live c.args.maker (get_or c.loop-place.self.live c.loop-place.place d) (sym (c.made_at.ensures d) ∙ c.if-made_at.true)

pub loop-place-preserved-then-made_at : goal.loop-place-preserved-then-made_at
loop-place-preserved-then-made_at c =
    removes c.args.self.now c.loop-place.self c.remove_at.new.self c.args.maker c.loop-place.place c.loop-place.len c.loop-place.invariant c.loop-place-test.true
    (λ d. sym (c.made_at.ensures d) ∙ c.if-made_at.true) c.remove_at.ensures.removed

pub returns-clause-removed : goal.returns-clause-removed
returns-clause-removed c = removed c.args.self.now c.loop-place.self c.args.maker c.loop-place.place c.loop-place.len c.loop-place.invariant c.loop-place-test.false
