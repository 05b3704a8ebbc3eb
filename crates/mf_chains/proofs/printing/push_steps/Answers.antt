use Rattle.std.proofs.Common.{List, ℕ, take, string_bytes}
use Rattle.std.specs.List.{flat_map}
use Rattle.mf_text.proofs.Appending.{extends_behind, on_err}
use Rattle.mf_chains.specs.ChainsText.{step_text}
use Rattle.mf_chains.proofs.printing.push_steps.Goals as goal

pub returns-in_err-push_step-clause-err : goal.returns-in_err-push_step-clause-err
returns-in_err-push_step-clause-err c =
    let front : List ℕ = string_bytes c.args.text.now in
    let so_far : List ℕ = flat_map step_text (take c.loop-step.step-index c.args.steps.now) in
    on_err c.from_residual.result
    (extends_behind front so_far (string_bytes c.loop-step.text) (string_bytes c.push_step.new.text) c.loop-step.invariant c.in_err-push_step.ensures.err)
