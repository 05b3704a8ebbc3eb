use Rattle.std.proofs.Common.{MatchOption, arith}
use Rattle.mf_verdict.specs.Judging.{IsJudged}
use Rattle.mf_verdict.specs.Verdict.{FailsAt, IsAccepted}
use Rattle.mf_verdict.proofs.Judged.{few_with_rest, if_ok, judged}
use Rattle.mf_verdict.proofs.verdict.verdict_on.Goals as goal

pub judge-requires-clause-within : goal.judge-requires-clause-within
judge-requires-clause-within c =
    omega (
      arith,
      c.requires.within,
      few_with_rest c.args.script.now c.in-Ok.history c.args.text.now c.split_sources.result.0.now c.split_sources.result.1.now
          c.in-Ok.ensures.found.0 c.in-Ok.ensures.found.1 c.split_sources.ensures.parts,
    )

pub returns-in-Ok : goal.returns-in-Ok
returns-in-Ok c =
    if_ok (IsJudged c.args.script.now c.in-Ok.history c.split_sources.result.1.now) (λ verdict. MatchOption verdict (IsAccepted c.args.script.now c.args.text.now) (FailsAt c.args.script.now c.args.text.now))
    c.judge.result
    (judged c.args.script.now c.in-Ok.history c.args.text.now c.split_sources.result.0.now c.split_sources.result.1.now c.in-Ok.ensures.found.0 c.in-Ok.ensures.found.1 c.split_sources.ensures.parts
    c.split_sources.ensures.history c.split_sources.ensures.sources)
    c.judge.ensures
