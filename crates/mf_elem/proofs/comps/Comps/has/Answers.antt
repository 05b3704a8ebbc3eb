use Rattle.std.proofs.Common.{◌≡◌, ℕ, ◌+◌, ◌-◌, ◌/◌, ◌%◌, ap, sym, ◌∙◌, arith, eqb, get_or}
use Rattle.std.proofs.lemmas.Nat.Bits.{shr_and_one}
use Rattle.std.specs.FinSet as set
use Rattle.mf_elem.proofs.CompsLaws.{contains_number, numbers_of}
use Rattle.mf_elem.proofs.comps.Comps.has.Goals as goal

pub returns : goal.returns
returns c =
    let m : ℕ = c.args.n - 1 in
    let words = c.args.self.now.words in
    let next : m + 1 ≡ c.args.n = omega arith in
    ap (λ b. eqb b 1) (shr_and_one (get_or words (m / 64) 0) (m % 64))
    ∙ sym (contains_number words m (omega arith))
    ∙ ap (λ k. set.contains (numbers_of words) k) next
