use Rattle.std.proofs.Common.{◌≡◌, ◌==◌, true, length, arith}
use Rattle.std.specs.Prelude.{nat_lt}
use Rattle.std.proofs.lemmas.Bool.Decides.{nat_tests}
use Rattle.mf_script.specs.Calls.{calls}
use Rattle.mf_script.proofs.Lengths.{of_its_length}
use Rattle.mf_script.proofs.calls.call.Goals as goal

pub returns-in-0-to-4 : goal.returns-in-0-to-4
returns-in-0-to-4 c =
    let fits : nat_lt (length c.args.name.now) 5 ≡ true = grind (arith, nat_tests) in
    of_its_length (λ n. nat_lt n 5) calls c.args.name.now _ _ _ fits c.short_call.ensures

pub returns-in-5 : goal.returns-in-5
returns-in-5 c =
    let fits : (length c.args.name.now == 5) ≡ true = grind (arith, nat_tests) in
    of_its_length (λ n. n == 5) calls c.args.name.now _ _ _ fits c.five_letter_call.ensures

pub returns-in-6 : goal.returns-in-6
returns-in-6 c =
    let fits : (length c.args.name.now == 6) ≡ true = grind (arith, nat_tests) in
    of_its_length (λ n. n == 6) calls c.args.name.now _ _ _ fits c.six_letter_call.ensures

pub returns-in_default : goal.returns-in_default
returns-in_default c =
    let fits : nat_lt 6 (length c.args.name.now) ≡ true = grind (arith, nat_tests) in
    of_its_length (λ n. nat_lt 6 n) calls c.args.name.now _ _ _ fits c.long_call.ensures
