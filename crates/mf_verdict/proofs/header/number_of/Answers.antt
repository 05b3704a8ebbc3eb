use Rattle.std.proofs.Common.{◌≡◌, decimal, IsUtf8, sym, ap, ◌∙◌, subst, arith}
use Rattle.std.proofs.lemmas.Fmt.{IsAscii-decimal, parse-decimal}
use Rattle.std.proofs.lemmas.Slice.Eq.{bytes_eq-Decides}
use Rattle.std.proofs.lemmas.Str.{IsUtf8-from_ascii}
use Rattle.mf_verdict.proofs.header.number_of.Goals as goal
use Rattle.mf_verdict.proofs.header.number_of.Goals.{else-number-le-SCRIPT_LIMIT-via-then-number-le-SCRIPT_LIMIT+else-eq, else-number-le-SCRIPT_LIMIT-via-else-number-le-SCRIPT_LIMIT}

pub returns-in_default : goal.returns-in_default
returns-in_default c = λ n le is. c.in_default.ensures.cases.0 (subst IsUtf8 (sym is) (IsUtf8-from_ascii (decimal n) (IsAscii-decimal n (omega (arith, le)))))

pub returns-in_default-parse : goal.returns-in_default-parse
returns-in_default-parse c = λ n le is.
    let back = parse-decimal 64 n c.in-Ok.text.now c.parse.result (omega (arith, le)) (omega (arith, le)) (c.in-Ok.ensures.cases.0 ∙ is) c.parse.ensures.value.0 in
    cc (back, c.in_default-parse.is)

pub returns-else-number-le-SCRIPT_LIMIT : goal.returns-else-number-le-SCRIPT_LIMIT
returns-else-number-le-SCRIPT_LIMIT c = λ n le is.
    let back = parse-decimal 64 n c.in-Ok.text.now c.parse.result (omega (arith, le)) (omega (arith, le)) (c.in-Ok.ensures.cases.0 ∙ is) c.parse.ensures.value.0 in
    let same : c.in-Ok-parse.number ≡ n = cc (back, c.in-Ok-parse.is) in
    elim c.else-number-le-SCRIPT_LIMIT.branch [
      | else-number-le-SCRIPT_LIMIT-via-then-number-le-SCRIPT_LIMIT+else-eq w ↦
          cc ((bytes_eq-Decides w.as_bytes.result.now c.args.digits.now).1 (w.as_bytes.ensures.value ∙ w.format.ensures.text ∙ ap decimal same ∙ sym is), w.if-eq.ensures)
      | else-number-le-SCRIPT_LIMIT-via-else-number-le-SCRIPT_LIMIT w ↦ omega (arith, same, le, w.if-number-le-SCRIPT_LIMIT.false)
    ]
