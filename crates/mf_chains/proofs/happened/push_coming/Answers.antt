use Rattle.mf_flow.proofs.RowsKept.{gone_at, none_found, other_found}
use Rattle.mf_chains.proofs.Telling.{no_coming}
use Rattle.mf_chains.proofs.happened.push_coming.Goals as goal

pub returns-in_default : goal.returns-in_default
returns-in_default c =
    no_coming c.args.registration.now c.args.objects.now c.args.event c.args.maker c.args.number c.args.past.now
    (gone_at c.args.objects.now c.args.number c.least_from.result c.live-live.ensures.population.rising c.least_from.ensures.found.id
    (other_found c.args.number c.in-Some.id c.number.result c.least_from.result c.in-Some.is c.number.ensures c.if-number.false))

pub returns-in_default-2 : goal.returns-in_default-2
returns-in_default-2 c =
    no_coming c.args.registration.now c.args.objects.now c.args.event c.args.maker c.args.number c.args.past.now
    (gone_at c.args.objects.now c.args.number c.least_from.result c.live-live.ensures.population.rising c.least_from.ensures.found.id
    (none_found c.args.number c.least_from.result c.in_default.is))
