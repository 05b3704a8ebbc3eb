use Rattle.std.proofs.Common.{string_bytes}
use Rattle.mf_flow.proofs.RowsKept.{gone_at, none_found, other_found}
use Rattle.mf_why.proofs.Telling.{title_gone}
use Rattle.mf_why.proofs.titles.push_title.Goals as goal

pub returns-in_default-clause-ok : goal.returns-in_default-clause-ok
returns-in_default-clause-ok c =
    title_gone c.args.objects.now c.args.number (string_bytes c.args.text.now)
    (gone_at c.args.objects.now c.args.number c.least_from.result c.live-live.ensures.population.rising c.least_from.ensures.found.id
    (other_found c.args.number c.in-Some.id c.number.result c.least_from.result c.in-Some.is c.number.ensures c.if-number.false))

pub returns-in_default-2-clause-ok : goal.returns-in_default-2-clause-ok
returns-in_default-2-clause-ok c =
    title_gone c.args.objects.now c.args.number (string_bytes c.args.text.now)
    (gone_at c.args.objects.now c.args.number c.least_from.result c.live-live.ensures.population.rising c.least_from.ensures.found.id
    (none_found c.args.number c.least_from.result c.in_default.is))
