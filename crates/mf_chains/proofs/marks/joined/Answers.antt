use Rattle.std.proofs.Common.{◌++◌, ◌+◌, List, arith, refl, ap, sym, subst, ◌∙◌}
use Rattle.mf_chains.specs.declared.marks.Mark.{Mark}
use Rattle.mf_chains.proofs.Joining.{IsJoined, all_there, goes_on, joined_all, joined_equal, joined_greater, joined_less, rest_of}
use Rattle.std.specs.declared.cmp.Ordering.TheVariants.{Less, Equal}
use Rattle.mf_chains.proofs.marks.joined.Goals as goal

pub loop-theirs-preserved-in-Less : goal.loop-theirs-preserved-in-Less
loop-theirs-preserved-in-Less c =
    let so_far = c.loop-theirs.invariant in
    let m = c.loop-theirs.mine in
    let n = c.loop-theirs.theirs in
    let is = sym c.order_at.ensures ∙ c.in-Less.is in
    let on = goes_on c.args.links.now c.args.set.now c.args.given.now c.args.step c.requires.set c.requires.given c.loop-theirs.links c.loop-theirs.items.items m n _ _ (omega arith) refl so_far Less is (λ no. cc) in
    subst (λ (items : List Mark). IsJoined c.args.links.now c.args.set.now c.args.given.now c.args.step c.loop-theirs.links items (m + 1) n) (sym c.in_ok-push-in-Less.ensures.items)
    (joined_less c.args.links.now c.args.set.now c.args.given.now c.args.step c.requires.set c.requires.given c.loop-theirs.links c.loop-theirs.items.items m n _ _ (omega arith) refl so_far
    _ _ on refl is)

pub loop-theirs-preserved-in-Equal : goal.loop-theirs-preserved-in-Equal
loop-theirs-preserved-in-Equal c =
    let so_far = c.loop-theirs.invariant in
    let m = c.loop-theirs.mine in
    let n = c.loop-theirs.theirs in
    let is = sym c.order_at.ensures ∙ c.in-Equal.is in
    let on = goes_on c.args.links.now c.args.set.now c.args.given.now c.args.step c.requires.set c.requires.given c.loop-theirs.links c.loop-theirs.items.items m n _ _ (omega arith) refl so_far Equal is (λ no. cc) in
    subst (λ (items : List Mark). IsJoined c.args.links.now c.args.set.now c.args.given.now c.args.step c.loop-theirs.links items (m + 1) (n + 1)) (sym c.in_ok-push-in-Equal.ensures.items)
    (joined_equal c.args.links.now c.args.set.now c.args.given.now c.args.step c.requires.set c.requires.given c.loop-theirs.links c.loop-theirs.items.items m n _ _ (omega arith) refl so_far
    _ _ on refl is)

pub loop-theirs-preserved : goal.loop-theirs-preserved
loop-theirs-preserved c =
    let so_far = c.loop-theirs.invariant in
    let m = c.loop-theirs.mine in
    let n = c.loop-theirs.theirs in
    subst (λ (items : List Mark). IsJoined c.args.links.now c.args.set.now c.args.given.now c.args.step c.handed.new.links items m (n + 1)) (sym {A = List Mark} c.in_ok-push-in-Greater.ensures.items)
    (joined_greater c.args.links.now c.args.set.now c.args.given.now c.args.step c.requires.set c.requires.given c.loop-theirs.links c.loop-theirs.items.items m n _ _ (omega arith) refl so_far
    c.handed.new.links c.in_ok-handed-in-Greater.field-0 c.in_ok-handed-in-Greater.ensures.mark c.in_ok-handed-in-Greater.ensures.link (sym c.order_at.ensures ∙ c.in-Greater.is))

pub returns-clause-kept : goal.returns-clause-kept
returns-clause-kept c =
    joined_all c.args.links.now c.args.set.now c.args.given.now c.args.step c.requires.set c.loop-theirs.links c.loop-theirs.items.items c.from_vec.result c.loop-theirs.mine c.loop-theirs.theirs
    (omega (arith, c.loop-theirs-test.false)) c.loop-theirs.invariant
    (c.from_vec.ensures ∙ c.in_ok-extend_from_slice.ensures.items ∙ ap (λ (xs : List Mark). c.loop-theirs.items.items ++ xs) (rest_of c.args.set.now c.loop-theirs.mine))

pub returns-clause-there : goal.returns-clause-there
returns-clause-there c =
    all_there c.args.links.now c.args.set.now c.args.given.now c.args.step c.requires.set c.loop-theirs.links c.loop-theirs.items.items c.from_vec.result c.loop-theirs.mine c.loop-theirs.theirs
    (omega (arith, c.loop-theirs-test.false)) c.loop-theirs.invariant
    (c.from_vec.ensures ∙ c.in_ok-extend_from_slice.ensures.items ∙ ap (λ (xs : List Mark). c.loop-theirs.items.items ++ xs) (rest_of c.args.set.now c.loop-theirs.mine))
