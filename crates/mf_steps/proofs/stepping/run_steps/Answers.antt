use Rattle.std.proofs.Common.{string_bytes}
use Rattle.mf_steps.proofs.Loop.{all_taken}
use Rattle.mf_steps.proofs.stepping.run_steps.Goals as goal

pub returns : goal.returns
returns g c =
    all_taken c.args.script.now c.take_steps.new.stepper c.into_core-core.result (string_bytes c.take_steps.new.text) c.in_ok-number.field-0 c.in_default.is c.in_ok-number.ensures.steps
    c.take_steps.ensures.script c.into_core-core.ensures.core c.into_core-core.ensures.boots
