use Rattle.std.proofs.Common.{refl, sym, ◌∙◌, arith}
use Rattle.std.specs.declared.cmp.Ordering.TheVariants.{Less, Equal}
use Rattle.mf_chains.proofs.Lacking.{is_at_one, walked_all, walked_equal, walked_less}
use Rattle.mf_chains.proofs.marks.lacks_none.Goals as goal

pub loop-theirs-preserved-in-Less : goal.loop-theirs-preserved-in-Less
loop-theirs-preserved-in-Less c =
    let m = c.loop-theirs.mine in
    let n = c.loop-theirs.theirs in
    let is = sym c.order_at.ensures ∙ c.in-Less.is in
    let mine = is_at_one c.args.set.now m _ Less is (λ no. cc) in
    walked_less c.args.set.now c.args.given.now m n _ _ mine (omega arith) refl c.loop-theirs.invariant is

pub loop-theirs-preserved : goal.loop-theirs-preserved
loop-theirs-preserved c =
    let m = c.loop-theirs.mine in
    let n = c.loop-theirs.theirs in
    let is = sym c.order_at.ensures ∙ c.in-Equal.is in
    let mine = is_at_one c.args.set.now m _ Equal is (λ no. cc) in
    walked_equal c.args.set.now c.args.given.now m n _ _ mine (omega arith) refl c.loop-theirs.invariant is

pub returns : goal.returns
returns c chains step is =
    walked_all c.args.set.now c.args.given.now c.loop-theirs.mine c.loop-theirs.theirs (omega (arith, c.loop-theirs-test.false)) c.loop-theirs.invariant chains step
