use Rattle.std.proofs.Common.{rules}
use Rattle.mf_top.specs.Outcomes.{bytes_of_outcome}
use Rattle.mf_top.proofs.Checked.{judged}
use Rattle.mf_top.proofs.check.check_input.Goals as goal

pub returns : goal.returns
returns c =
    judged c.args.bytes.now c.in-Some.script.now c.in-Some.text.now c.in_ok-script.script c.requires c.in-Some.ensures (search rules)
    (bytes_of_outcome c.judge.result) c.judge.ensures
