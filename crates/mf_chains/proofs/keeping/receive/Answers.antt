use Rattle.std.proofs.Common.{ℕ, List, nat_eq, cond, ap, ◌∙◌}
use Rattle.std.proofs.lemmas.Result.{on_ok_weaker}
use Rattle.mf_chains.specs.Kept.{Kept}
use Rattle.mf_chains.specs.Marks.{given_to, kept_at, kept_in, set_at}
use Rattle.mf_chains.proofs.Receiving.{put_kept}
use Rattle.mf_chains.proofs.keeping.receive.Goals as goal

pub returns-clause-kept : goal.returns-clause-kept
returns-clause-kept c =
    on_ok_weaker c.put.result (λ put n.
    put_kept c.args.links.now c.received.new.links c.args.sets.now c.put.new.self c.number-3.result c.in_ok-set.set c.in_ok-set.ensures.extends c.requires put n
    ∙ ap (λ (ks : List Kept). cond (nat_eq n c.number-3.result) ks (kept_in c.args.links.now (set_at c.args.sets.now n))) c.in_ok-set.ensures.kept
    ∙ ap (λ (k : ℕ). cond (nat_eq n k) (given_to c.args.occurrence.now (kept_at c.args.links.now c.args.sets.now) c.args.from c.args.to) (kept_in c.args.links.now (set_at c.args.sets.now n)))
    c.number-3.ensures) c.put.ensures
