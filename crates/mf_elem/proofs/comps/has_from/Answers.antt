use Rattle.std.proofs.Common.{ℕ, ◌/◌, ◌%◌, arith}
use Rattle.mf_elem.specs.Bounds.{AreWords}
use Rattle.mf_elem.proofs.Comparing.{none_from, some_from, some_word}
use Rattle.mf_elem.proofs.comps.has_from.Goals as goal

pub returns-then-words-place-ne0 : goal.returns-then-words-place-ne0
returns-then-words-place-ne0 c =
    let words = c.args.words.now in
    let place : ℕ = c.args.place in
    let are : AreWords words = record { four = c.requires.four; fit = λ k. omega (arith, c.type_inv.words k) } in
    some_from words place (place % 64) (place / 64) (omega arith) (omega (arith, c.requires.within)) are c.if-words-place-ne0.true

pub returns-then-words-k-ne0 : goal.returns-then-words-k-ne0
returns-then-words-k-ne0 c =
    let words = c.args.words.now in
    let are : AreWords words = record { four = c.requires.four; fit = λ k. omega (arith, c.type_inv.words k) } in
    some_word words c.args.place c.loop-k.k (omega arith) (omega arith) are c.if-words-k-ne0.true

pub returns : goal.returns
returns c = none_from c.args.words.now c.args.place c.requires.within c.if-words-place-ne0.false (λ j later within. c.loop-k.invariant j later (omega (arith, within)))
