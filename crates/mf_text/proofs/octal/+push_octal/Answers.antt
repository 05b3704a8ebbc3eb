use Rattle.std.proofs.Common.{◌++◌, ◌∷◌, [], ◌+◌, ◌/◌, ◌%◌, List, ℕ, ◌∙◌, ap, append_assoc, arith, false, string_bytes, sym}
use Rattle.std.proofs.lemmas.Result.{on_ok_weaker}
use Rattle.std.specs.Fmt.{digits}
use Rattle.mf_text.proofs.OctalDigits.{digit_more}
use Rattle.mf_text.proofs.octal.+push_octal.Goals as goal

pub returns-clause-ok : goal.returns-clause-ok
returns-clause-ok t c =
    let n = c.args.number in
    let out = string_bytes c.args.out.now in
    let last : List ℕ = (48 + n % 8) ∷ [] in
    on_ok_weaker c.push_octal_digit-2.result (λ pushed.
    pushed
    ∙ ap (λ (front : List ℕ). front ++ last) c.in_ok-push_octal.ensures.ok
    ∙ append_assoc out (digits 8 false (n / 8)) last
    ∙ ap (λ (back : List ℕ). out ++ back) (sym (digit_more n (omega (arith, c.if-number-lt8.false)) (omega (arith, c.ranges.number.fits))))) c.push_octal_digit-2.ensures.ok
