use Rattle.std.proofs.Common.{◌≡◌, ◌++◌, Some, codes, arith}
use Rattle.std.proofs.lemmas.Bool.Decides.{Decides-eqb}
use Rattle.std.proofs.lemmas.Slice.Eq.{strip_prefix_is}
use Rattle.mf_verdict.proofs.Split.{too_short}
use Rattle.mf_verdict.proofs.header.split_input.Goals as goal

pub returns-else-length-rest : goal.returns-else-length-rest
returns-else-length-rest c = λ script text input.
    let is : c.args.bytes.now ≡ codes "script " ++ c.in_ok-behind.behind.now = strip_prefix_is Decides-eqb c.args.bytes.now (codes "script ") (Some c.in_ok-behind.behind) c.in_ok-behind.ensures.cases in
    too_short c.args.bytes.now c.in_ok-behind.behind.now c.in_ok-length.rest.now script text c.in_ok-length.length is c.in_ok-length.ensures.0 c.in_ok-length.ensures.1 (omega arith) input
