use Rattle.std.proofs.Common.{◌≡◌, true, false, sym, refl, arith}
use Rattle.std.specs.FinSet as set
use Rattle.mf_elem.specs.Bounds.{AreWords}
use Rattle.mf_elem.proofs.CompsLaws.{covers_all, covered_word, numbers_of}
use Rattle.mf_elem.proofs.comps.is_covered.Goals as goal

pub returns-then-theirs-k : goal.returns-then-theirs-k
returns-then-theirs-k c =
    let mine = c.args.mine.now in
    let theirs = c.args.theirs.now in
    let are : AreWords theirs = record { four = c.requires.four; fit = λ k. omega (arith, c.type_inv.theirs k) } in
    elim (set.is_subset (numbers_of theirs) (numbers_of mine)) as (λ b. set.is_subset (numbers_of theirs) (numbers_of mine) ≡ b → false ≡ b) [
      | true ↦ λ e. absurd (c.if-theirs-k.true (covered_word mine theirs are e c.loop-k.k (omega arith)))
      | false ↦ λ e. refl
    ] refl

pub returns : goal.returns
returns c =
    let mine = c.args.mine.now in
    let theirs = c.args.theirs.now in
    sym (covers_all mine theirs (λ j h. c.loop-k.invariant j (omega (arith, h))))
