use Rattle.std.proofs.Common.{◌≡◌, ℕ, ◌^◌, ◌<◌, get_or, inl, inr, sym, ap, ◌∙◌, arith}
use Rattle.std.proofs.lemmas.Bool.{cases_lt}
use Rattle.mf_elem.specs.Bounds.{AreWords}
use Rattle.mf_elem.proofs.Comparing.{equal_words, first_difference, no_difference}
use Rattle.mf_elem.proofs.comps.compare_words.Goals as goal

pub loop-k-preserved : goal.loop-k-preserved
loop-k-preserved c = λ j l.
    let mine = c.args.mine.now in
    let theirs = c.args.theirs.now in
    let fits : (k : ℕ) → get_or mine k 0 < 2 ^ 64 = λ k. omega (arith, c.type_inv.mine k) in
    let fit_too : (k : ℕ) → get_or theirs k 0 < 2 ^ 64 = λ k. omega (arith, c.type_inv.theirs k) in
    elim (cases_lt j c.loop-k.k) [
      | inl below ↦ c.loop-k.invariant j below
      | inr not_below ↦
          let here : j ≡ c.loop-k.k = omega arith in
          ap (λ i. get_or mine i 0) here
          ∙ no_difference (get_or mine c.loop-k.k 0) (get_or theirs c.loop-k.k 0) (fits c.loop-k.k) (fit_too c.loop-k.k) c.if-unequal-ne0.false
          ∙ ap (λ i. get_or theirs i 0) (sym here)
    ]

pub compare_at-requires-clause-differ : goal.compare_at-requires-clause-differ
compare_at-requires-clause-differ c =
    let mine = c.args.mine.now in
    let theirs = c.args.theirs.now in
    let are : AreWords mine = record { four = c.requires.four; fit = λ k. omega (arith, c.type_inv.mine k) } in
    let are_too : AreWords theirs = record { four = c.requires.four_too; fit = λ k. omega (arith, c.type_inv.theirs k) } in
    first_difference mine theirs c.loop-k.k (omega arith) are are_too c.loop-k.invariant (omega (arith, c.if-unequal-ne0.true))

pub returns : goal.returns
returns c =
    let mine = c.args.mine.now in
    let theirs = c.args.theirs.now in
    let are : AreWords mine = record { four = c.requires.four; fit = λ k. omega (arith, c.type_inv.mine k) } in
    let are_too : AreWords theirs = record { four = c.requires.four_too; fit = λ k. omega (arith, c.type_inv.theirs k) } in
    equal_words mine theirs are are_too (λ j l. c.loop-k.invariant j (omega (arith, l)))
