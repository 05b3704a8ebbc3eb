use Rattle.std.proofs.Common.{◌≡◌, ℕ, Option, Some, IfSome, subst}
use Rattle.mf_verdict.specs.Pieces.{pieces}
use Rattle.mf_verdict.specs.Verdict.{IsFirstWrong}
use Rattle.mf_verdict.proofs.FirstLines.{wrong_with_rest}
use Rattle.mf_verdict.proofs.front.wrong_in_front.Goals as goal

pub returns-in-Some-wrong : goal.returns-in-Some-wrong
returns-in-Some-wrong c =
    let s = c.args.script.now in
    let front = c.first_lines.result.now in
    let n = c.in-Some-wrong.line in
    let is : c.in_ok-wrong.wrong ≡ Some n = c.in-Some-wrong.is in
    wrong_with_rest s c.args.text.now front c.in-Some.count c.first_lines.ensures.lines n c.if-line-count.true
    (subst (λ (found : Option ℕ). IfSome found (IsFirstWrong s (pieces front))) is c.in_ok-wrong.ensures)
