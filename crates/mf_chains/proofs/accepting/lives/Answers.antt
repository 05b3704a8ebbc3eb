use Rattle.mf_flow.proofs.RowsKept.{gone_at, none_found, other_number}
use Rattle.mf_chains.proofs.Telling.{at_number, lives_if, not_live, same_test}
use Rattle.mf_chains.proofs.accepting.lives.Goals as goal

pub returns-in-None : goal.returns-in-None
returns-in-None c = (
  λ both. cc,
  λ lives. absurd (not_live c.args.objects.now c.args.id
      (gone_at c.args.objects.now c.args.id.0 c.least_from.result c.live-live.ensures.population.rising
      (at_number c.args.objects.now c.number.result c.args.id.0 c.least_from.result c.number.ensures c.least_from.ensures.found.id)
      (none_found c.args.id.0 c.least_from.result c.in-None.is)) lives),
)

pub returns-in-Some : goal.returns-in-Some
returns-in-Some c =
    lives_if c.args.objects.now c.args.id c.in-Some.first c.number-in-Some.result c.number-in-Some-2.result c.number-in-Some.ensures c.number-in-Some-2.ensures c.in-Some.ensures.live
    (λ differs. gone_at c.args.objects.now c.args.id.0 c.least_from.result c.live-live.ensures.population.rising
    (at_number c.args.objects.now c.number.result c.args.id.0 c.least_from.result c.number.ensures c.least_from.ensures.found.id)
    (other_number c.args.id.0 c.in-Some.first c.number-in-Some.result c.least_from.result c.in-Some.is c.number-in-Some.ensures
    (same_test c.number-in-Some.result c.number-in-Some-2.result c.args.id.0 c.number-in-Some-2.ensures differs)))
