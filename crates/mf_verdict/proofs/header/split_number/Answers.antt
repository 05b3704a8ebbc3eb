use Rattle.std.specs.Str.{byte}
use Rattle.std.proofs.Common.{decimal, sym, ◌∙◌, arith}
use Rattle.mf_hist.proofs.Words.{first_cut, no_such}
use Rattle.mf_verdict.proofs.Newlines.{decimal_lacks}
use Rattle.mf_verdict.proofs.header.split_number.Goals as goal

pub returns-in_err-digits : goal.returns-in_err-digits
returns-in_err-digits c = rw c.from_residual.ensures (λ n rest le is. no_such c.args.text.now (decimal n) rest (byte "\n") (c.in_err-digits.ensures {u = tt}) is)

pub returns-in_err-number : goal.returns-in_err-number
returns-in_err-number c = rw c.from_residual-in_err-number.ensures (λ n rest le is.
    c.in_err-number.ensures {u = tt} n le
    (first_cut c.in_ok-digits.digits.now (decimal n) c.in_ok-digits.rest.now rest (byte "\n") c.in_ok-digits.ensures.1 (decimal_lacks n (omega (arith, le))) (sym c.in_ok-digits.ensures.0 ∙ is)).0)
