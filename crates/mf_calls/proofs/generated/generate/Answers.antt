use Rattle.std.proofs.Common.{sym, subst}
use Rattle.mf_calls.specs.WellFormed.{IsWellFormed}
use Rattle.mf_calls.proofs.Loads.{generated_formed}
use Rattle.mf_calls.proofs.LoadSteps.{generated_is}
use Rattle.mf_calls.proofs.generated.generate.Goals as goal

pub returns-clause-formed : goal.returns-clause-formed
returns-clause-formed c =
    subst IsWellFormed
    (sym (generated_is c.args.lines c.args.tasks c.in_ok-boots.boots c.in_ok-files.files c.in_ok-tasks.tasks c.new.result c.in_ok-boots.ensures c.in_ok-files.ensures c.in_ok-tasks.ensures c.new.ensures))
    (generated_formed c.args.lines c.args.tasks c.requires.lines c.requires.tasks)
