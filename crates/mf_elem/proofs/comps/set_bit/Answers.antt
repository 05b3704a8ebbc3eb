use Rattle.std.proofs.Common.{ℕ, ◌*◌, ◌/◌, ◌%◌, ◌^◌, refl, sym, get_or, bit_or}
use Rattle.mf_elem.proofs.CompsLaws.{SetsBit, numbers_with, with_is}
use Rattle.mf_elem.proofs.comps.set_bit.Goals as goal

pub returns-clause-set : goal.returns-clause-set
returns-clause-set c =
    let m = c.args.place in
    let words = c.args.words.now in
    let w : ℕ = bit_or (get_or words (m / 64) 0) (1 * 2 ^ (m % 64) % 2 ^ 64) in
    let sets : SetsBit words m w = record { within = c.requires.within; four = c.requires.four; is = refl } in
    numbers_with words m w sets

pub returns-clause-value : goal.returns-clause-value
returns-clause-value c =
    let m = c.args.place in
    let words = c.args.words.now in
    sym (with_is (record { words = words }) m (bit_or (get_or words (m / 64) 0) (1 * 2 ^ (m % 64) % 2 ^ 64)) refl)
