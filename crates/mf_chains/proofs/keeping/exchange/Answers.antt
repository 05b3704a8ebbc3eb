use Rattle.std.proofs.Common.{ℕ, nat_eq, cond, length, ap, arith, ◌∙◌}
use Rattle.std.proofs.lemmas.Result.{on_ok_weaker}
use Rattle.mf_chains.specs.Marks.{given_to, kept_at, kept_in, set_at}
use Rattle.mf_chains.proofs.Receiving.{given_same, kept_length, longer, same_at, two_kept}
use Rattle.mf_flow.proofs.Followed.{where_ok}
use Rattle.mf_chains.proofs.keeping.exchange.Goals as goal

pub returns-clause-kept : goal.returns-clause-kept
returns-clause-kept c =
    let x = c.args.occurrence.now in
    let before = c.args.links.now in
    let middle = c.received.new.links in
    let sets = c.args.sets.now in
    let g1 = given_to x (kept_at before sets) c.args.object c.args.subject in
    let g2 = given_to x (kept_at before sets) c.args.subject c.args.object in
    on_ok_weaker c.put-2.result (λ put n.
    two_kept before middle c.received-2.new.links sets c.put.new.self c.put-2.new.self c.number.result c.number-2.result c.in_ok-to_subject.to_subject c.in_ok-to_object.to_object g1 g2
    c.in_ok-to_subject.ensures.extends c.in_ok-to_object.ensures.extends c.requires c.in_ok-to_subject.ensures.there c.in_ok-to_subject.ensures.kept
    (c.in_ok-to_object.ensures.kept
    ∙ given_same x (kept_at middle sets) (kept_at before sets) c.args.subject c.args.object (λ q. same_at before middle sets q c.in_ok-to_subject.ensures.extends c.requires))
    c.in_ok-put.ensures put n
    ∙ ap (λ (k : ℕ). cond (nat_eq n k) g2 (cond (nat_eq n c.number.result) g1 (kept_in before (set_at sets n)))) c.number-2.ensures
    ∙ ap (λ (k : ℕ). cond (nat_eq n c.args.object.0) g2 (cond (nat_eq n k) g1 (kept_in before (set_at sets n)))) c.number.ensures) c.put-2.ensures

pub returns-clause-count : goal.returns-clause-count
returns-clause-count c =
    let x = c.args.occurrence.now in
    let before = c.args.links.now in
    let middle = c.received.new.links in
    let sets = c.args.sets.now in
    where_ok c.put-2.result
    (omega (
      arith,
      longer before middle c.in_ok-to_subject.ensures.extends,
      longer middle c.received-2.new.links c.in_ok-to_object.ensures.extends,
      c.in_ok-to_subject.ensures.count,
      c.in_ok-to_object.ensures.count,
      kept_length middle c.in_ok-to_subject.to_subject,
      ap length c.in_ok-to_subject.ensures.kept,
      kept_length c.received-2.new.links c.in_ok-to_object.to_object,
      ap length (c.in_ok-to_object.ensures.kept
          ∙ given_same x (kept_at middle sets) (kept_at before sets) c.args.subject c.args.object (λ q. same_at before middle sets q c.in_ok-to_subject.ensures.extends c.requires)),
    ))
