use Rattle.std.proofs.Common.{get_or, inl, inr, sym, ◌∙◌, arith}
use Rattle.std.proofs.lemmas.Bool.{cases_lt}
use Rattle.mf_flow.proofs.NumberBits.{beyond_words, bits_of_either, or_nothing}
use Rattle.mf_flow.proofs.bits.Bits.add_all.Goals as goal

pub returns-clause-ok : goal.returns-clause-ok
returns-clause-ok c =
    let mine = c.args.self.now in
    let theirs = c.args.other.now in
    bits_of_either mine theirs c.loop-k.self (λ k. elim (cases_lt k c.loop-k.k) [
      | inl l ↦ c.loop-k.invariant.done k l
      | inr g ↦
          c.loop-k.invariant.left k g
          ∙ sym (or_nothing (get_or mine k 0) (get_or theirs k 0) (beyond_words theirs k (omega (arith, g, c.loop-k-test.false, c.words-k-end.ensures))))
    ])
