use Rattle.std.proofs.Common.{Some}
use Rattle.mf_top.specs.declared.command.Command.TheVariants as command
use Rattle.mf_top.specs.declared.command.Order.TheVariants as order
use Rattle.mf_top.specs.declared.command.Telling.TheVariants as telling
use Rattle.mf_top.specs.Outcomes.{bytes_of_outcome}
use Rattle.mf_top.proofs.Complete.{complete}
use Rattle.mf_top.proofs.Told.{told_cause}
use Rattle.mf_top.proofs.Wrote.{wrote_told}
use Rattle.mf_top.proofs.steps.run_steps.Goals as goal

pub returns-clause-steps : goal.returns-clause-steps
returns-clause-steps g c zero =
    let told = c.write_outcome.ensures in
    wrote_told _ _ told.0 c.write_outcome.result zero told.2 order.Steps telling.Sources
    (told_cause (Some (command.Tell order.Steps telling.Sources)) _ (bytes_of_outcome c.step_source_alone.result) told.0 told.1 c.step_source_alone.ensures)

pub returns-clause-cause : goal.returns-clause-cause
returns-clause-cause g c =
    let told = c.write_outcome.ensures in
    (told.0, told_cause (Some (command.Tell order.Steps telling.Sources)) _ (bytes_of_outcome c.step_source_alone.result) told.0 told.1 c.step_source_alone.ensures, told.2)

pub returns-clause-complete : goal.returns-clause-complete
returns-clause-complete g c faultless =
    let told = c.write_outcome.ensures in
    complete (Some (command.Tell order.Steps telling.Sources)) _ _ told.0 c.write_outcome.result faultless.can faultless.source_stays faultless.sink_stays
    (told_cause (Some (command.Tell order.Steps telling.Sources)) _ (bytes_of_outcome c.step_source_alone.result) told.0 told.1 c.step_source_alone.ensures) told.2
