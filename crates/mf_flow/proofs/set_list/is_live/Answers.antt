use Rattle.mf_flow.proofs.RowsKept.{gone_at, other_number, none_found}
use Rattle.mf_flow.proofs.set_list.is_live.Goals as goal

pub returns-in-None : goal.returns-in-None
returns-in-None c = λ _.
    gone_at c.args.objects.now c.args.number c.least_from.result c.live-live.ensures.population.rising c.least_from.ensures.found.id
    (none_found c.args.number c.least_from.result c.in-None.is)

pub returns-in-Some : goal.returns-in-Some
returns-in-Some c = λ differs.
    gone_at c.args.objects.now c.args.number c.least_from.result c.live-live.ensures.population.rising c.least_from.ensures.found.id
    (other_number c.args.number c.in-Some.id c.number.result c.least_from.result c.in-Some.is c.number.ensures differs)
