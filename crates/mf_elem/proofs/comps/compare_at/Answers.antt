use Rattle.std.proofs.Common.{true, false, sym, ◌∙◌}
use Rattle.mf_elem.proofs.Comparing.{mine_is_first, not_there, there, theirs_is_first}
use Rattle.mf_elem.proofs.comps.compare_at.Goals as goal

pub returns-then-has_from : goal.returns-then-has_from
returns-then-has_from c =
    mine_is_first c.args.mine.now c.args.theirs.now c.args.place true c.requires.differ (there c.args.mine.now c.args.place c.if-mine-place-eq1.true) (sym c.if-has_from.true ∙ c.has_from.ensures)

pub returns-else-has_from : goal.returns-else-has_from
returns-else-has_from c =
    mine_is_first c.args.mine.now c.args.theirs.now c.args.place false c.requires.differ (there c.args.mine.now c.args.place c.if-mine-place-eq1.true) (sym c.if-has_from.false ∙ c.has_from.ensures)

pub returns-then-has_from-2 : goal.returns-then-has_from-2
returns-then-has_from-2 c =
    theirs_is_first c.args.mine.now c.args.theirs.now c.args.place true c.requires.differ (not_there c.args.mine.now c.args.place c.if-mine-place-eq1.false)
    (sym c.if-has_from-2.true ∙ c.has_from-else-mine-place-eq1.ensures)

pub returns-else-has_from-2 : goal.returns-else-has_from-2
returns-else-has_from-2 c =
    theirs_is_first c.args.mine.now c.args.theirs.now c.args.place false c.requires.differ (not_there c.args.mine.now c.args.place c.if-mine-place-eq1.false)
    (sym c.if-has_from-2.false ∙ c.has_from-else-mine-place-eq1.ensures)
