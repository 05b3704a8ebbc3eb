use Rattle.std.proofs.Common.{◌≡◌, length, ap, sym, ◌∙◌, arith}
use Rattle.mf_rule.specs.Reading.{whole}
use Rattle.mf_rule.proofs.ReadingWords.{then_rest, read_more, read_end}
use Rattle.mf_rule.proofs.reading.read_words.Goals as goal

pub returns-in-Err : goal.returns-in-Err
returns-in-Err c =
    let words = c.args.words.now in
    let place = c.loop-place.place in
    ap (then_rest place words) c.in-Err.ensures ∙ sym (read_more words place c.loop-place.begun _ c.loop-place-test.true) ∙ c.loop-place.invariant

pub loop-place-preserved : goal.loop-place-preserved
loop-place-preserved c =
    let words = c.args.words.now in
    let place = c.loop-place.place in
    ap (then_rest place words) c.in-Ok.ensures ∙ sym (read_more words place c.loop-place.begun _ c.loop-place-test.true) ∙ c.loop-place.invariant

pub returns : goal.returns
returns c =
    let words = c.args.words.now in
    let place = c.loop-place.place in
    let begun = c.loop-place.begun in
    let end : length words ≡ place = omega (arith, c.loop-place-test.false, c.loop-place.auto.place-end) in
    c.whole.ensures ∙ ap (λ n. whole n begun.next begun.rule) end ∙ sym (read_end words place begun c.loop-place-test.false) ∙ c.loop-place.invariant
