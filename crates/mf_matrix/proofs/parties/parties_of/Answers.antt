use Rattle.std.proofs.Common.{arith, ap, ◌+◌}
use Rattle.mf_matrix.proofs.Walked.{all_walked, given_of, not_over, walked_more, walked_none}
use Rattle.mf_matrix.proofs.parties.parties_of.Goals as goal

pub loop-place-init : goal.loop-place-init
loop-place-init c = walked_none c.args.objects.now c.new-parties.result.items c.new-parties.ensures.items

pub unwrap-id-requires : goal.unwrap-id-requires
unwrap-id-requires c =
    not_over c.args.objects.now c.loop-place.parties.items c.loop-place.from c.loop-place._place c.least_from.result
    c.loop-place.invariant (omega arith) c.least_from.ensures.found.id

pub overflow_add-from : goal.overflow_add-from
overflow_add-from c =
    let given = given_of c.args.objects.now c.loop-place.from c.least_from.result c.unwrap-id.result c.live-place-end.ensures.population.rising c.unwrap-id.ensures
    c.least_from.ensures.found.id c.least_from.ensures.found.live in
    omega (arith, given, c.number-from.ensures, c.next_id-end.ensures, c.next_id-end.type_inv)

pub loop-place-preserved : goal.loop-place-preserved
loop-place-preserved c =
    walked_more c.args.objects.now c.loop-place.parties.items c.push_party.new.parties.items c.loop-place.from _ c.loop-place._place c.least_from.result
    c.unwrap-id.result c.live-place-end.ensures.population.rising c.loop-place.invariant (omega arith) c.unwrap-id.ensures
    c.least_from.ensures.found.id c.in_ok-push_party.ensures (ap (λ n. n + 1) c.number-from.ensures)

pub returns : goal.returns
returns c = all_walked c.args.objects.now c.loop-place.parties.items c.loop-place.from c.loop-place._place c.loop-place.invariant (omega arith)
