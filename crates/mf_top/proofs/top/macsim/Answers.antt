use Rattle.std.proofs.Common.{map, string_bytes}
use Rattle.mf_top.specs.Commands.{command_of}
use Rattle.mf_top.specs.Outcomes.{bytes_of_outcome}
use Rattle.mf_top.proofs.Complete.{complete}
use Rattle.mf_top.proofs.Told.{told_cause}
use Rattle.mf_top.proofs.Wrote.{check_asked, history_asked, summary_asked, told_asked, too_many_asked}
use Rattle.mf_top.proofs.top.macsim.Goals as goal

pub returns-clause-headline : goal.returns-clause-headline
returns-clause-headline g c asked zero =
    let told = c.write_outcome.ensures in
    history_asked _ _ told.0 c.write_outcome.result zero told.2 (command_of (map string_bytes c.args.words.now)) asked
    (told_cause _ _ (bytes_of_outcome c.outcome_of-outcome.result) told.0 told.1 c.outcome_of-outcome.ensures)

pub returns-clause-told : goal.returns-clause-told
returns-clause-told g c o t asked zero =
    let told = c.write_outcome.ensures in
    told_asked _ _ told.0 c.write_outcome.result zero told.2 o t (command_of (map string_bytes c.args.words.now)) asked
    (told_cause _ _ (bytes_of_outcome c.outcome_of-outcome.result) told.0 told.1 c.outcome_of-outcome.ensures)

pub returns-clause-too_many : goal.returns-clause-too_many
returns-clause-too_many g c o asked eleven =
    let told = c.write_outcome.ensures in
    too_many_asked _ _ told.0 c.write_outcome.result eleven told.2 o (command_of (map string_bytes c.args.words.now)) asked
    (told_cause _ _ (bytes_of_outcome c.outcome_of-outcome.result) told.0 told.1 c.outcome_of-outcome.ensures)

pub returns-clause-check : goal.returns-clause-check
returns-clause-check g c asked zero =
    let told = c.write_outcome.ensures in
    check_asked _ _ told.0 c.write_outcome.result zero told.2 (command_of (map string_bytes c.args.words.now)) asked
    (told_cause _ _ (bytes_of_outcome c.outcome_of-outcome.result) told.0 told.1 c.outcome_of-outcome.ensures)

pub returns-clause-load : goal.returns-clause-load
returns-clause-load g c lines tasks asked zero =
    let told = c.write_outcome.ensures in
    summary_asked _ _ told.0 c.write_outcome.result zero told.2 (command_of (map string_bytes c.args.words.now)) lines tasks asked
    (told_cause _ _ (bytes_of_outcome c.outcome_of-outcome.result) told.0 told.1 c.outcome_of-outcome.ensures)

pub returns-clause-cause : goal.returns-clause-cause
returns-clause-cause g c =
    let told = c.write_outcome.ensures in
    (told.0, told_cause _ _ (bytes_of_outcome c.outcome_of-outcome.result) told.0 told.1 c.outcome_of-outcome.ensures, told.2)

pub returns-clause-complete : goal.returns-clause-complete
returns-clause-complete g c faultless =
    let told = c.write_outcome.ensures in
    complete (command_of (map string_bytes c.args.words.now)) _ _ told.0 c.write_outcome.result
    faultless.can faultless.source_stays faultless.sink_stays
    (told_cause _ _ (bytes_of_outcome c.outcome_of-outcome.result) told.0 told.1 c.outcome_of-outcome.ensures) told.2
