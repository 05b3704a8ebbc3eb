use Rattle.std.proofs.Common.{◌≡◌, ℕ, ◌+◌, ◌-◌, length, lit<, ap, sym, ◌∙◌, arith}
use Rattle.mf_labeltext.specs.Reading.{parts, elements_in}
use Rattle.mf_labeltext.proofs.Cutting.{text_behind}
use Rattle.mf_labeltext.proofs.ElementsReading.{behind, elements_more, elements_end}
use Rattle.mf_labeltext.proofs.reading.read_elements.Goals as goal

pub returns-in-Err : goal.returns-in-Err
returns-in-Err c =
    let rest = c.loop-element.rest.now in
    let place : ℕ = length c.args.text.now - length rest in
    let element = c.in-Some.element.now in
    let after = c.in-Some.after.now in
    let split = c.in-Some.ensures in
    ap (behind (place + length element + 1) after) c.in-Err.ensures
    ∙ sym (elements_more place c.loop-element.request rest element after split.cut)
    ∙ c.loop-element.invariant.read

pub loop-element-preserved : goal.loop-element-preserved
loop-element-preserved c =
    let rest = c.loop-element.rest.now in
    let place : ℕ = length c.args.text.now - length rest in
    let element = c.in-Some.element.now in
    let after = c.in-Some.after.now in
    let split = c.in-Some.ensures in
    let next : length c.args.text.now - length after ≡ place + length element + 1 = omega (arith, split.whole) in
    record {
      read = ap (λ n. elements_in n c.in-Ok.next (parts 44 after)) next
          ∙ ap (behind (place + length element + 1) after) c.in-Ok.ensures
          ∙ sym (elements_more place c.loop-element.request rest element after split.cut)
          ∙ c.loop-element.invariant.read;
      within = omega (arith, split.whole);
      text = text_behind 44 rest element after (lit< tt) c.loop-element.invariant.text split.cut;
    }

pub returns : goal.returns
returns c =
    let rest = c.loop-element.rest.now in
    let place : ℕ = length c.args.text.now - length rest in
    let split = c.in_default.ensures in
    c.read_element-2.ensures ∙ sym (elements_end place c.loop-element.request rest split.cut) ∙ c.loop-element.invariant.read
