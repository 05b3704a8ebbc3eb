use Rattle.mf_flow.proofs.RowsKept.{absent_at, other_found, none_found}
use Rattle.mf_flow.proofs.effective.element_at.Goals as goal

pub returns-in_default : goal.returns-in_default
returns-in_default c =
    absent_at c.args.slot c.args.objects.now c.args.number c.least_from.result c.live-live.ensures.population.rising c.least_from.ensures.found.id
    (other_found c.args.number c.in-Some.id c.number.result c.least_from.result c.in-Some.is c.number.ensures c.if-number.false)

pub returns-in_default-2 : goal.returns-in_default-2
returns-in_default-2 c =
    absent_at c.args.slot c.args.objects.now c.args.number c.least_from.result c.live-live.ensures.population.rising c.least_from.ensures.found.id
    (none_found c.args.number c.least_from.result c.in_default.is)
