use Rattle.std.proofs.Common.{◌≡◌, ℕ, take, sym, ◌∙◌, subst, arith}
use Rattle.std.proofs.lemmas.Bool.{false≢true}
use Rattle.std.proofs.lemmas.List.{get_or_default}
use Rattle.mf_audit.proofs.Booting.{agree_more, agree_until, agree_whole}
use Rattle.mf_audit.proofs.boots.agreeing.Goals as goal

pub returns-then-not-is_same : goal.returns-then-not-is_same
returns-then-not-is_same c =
    let ours = c.args.ours.now in
    let theirs = c.args.theirs.now in
    let place = c.loop-place.place in
    agree_until ours theirs place _ _ (omega arith) (omega arith) (get_or_default ours place _ _ (omega arith)) (get_or_default theirs place _ _ (omega arith))
    (λ same. false≢true (sym c.if-not-is_same.true ∙ c.is_same.ensures.1 same)) c.loop-place.invariant

pub loop-place-preserved : goal.loop-place-preserved
loop-place-preserved c =
    let ours = c.args.ours.now in
    let theirs = c.args.theirs.now in
    let place = c.loop-place.place in
    agree_more ours theirs place _ _ (omega arith) (omega arith) (get_or_default ours place _ _ (omega arith)) (get_or_default theirs place _ _ (omega arith))
    (c.is_same.ensures.0 c.if-not-is_same.false) c.loop-place.invariant

pub returns : goal.returns
returns c =
    let ours = c.args.ours.now in
    let theirs = c.args.theirs.now in
    let end : c.loop-place.place ≡ c.min-most.result = omega arith in
    agree_whole ours theirs c.min-most.result (omega arith) (omega arith) (λ own their. omega arith)
    (subst (λ (k : ℕ). take k ours ≡ take k theirs) end c.loop-place.invariant)
