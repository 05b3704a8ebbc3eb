use Rattle.std.proofs.Common.{List, ℕ, take, string_bytes}
use Rattle.mf_text.proofs.Appending.{extends_behind, on_err}
use Rattle.mf_spelling.specs.Spelling.{step_pieces}
use Rattle.mf_spelling.specs.Canonical.{lines_text}
use Rattle.mf_spelling.proofs.printing.push_each_step.Goals as goal

pub returns-in_err-push_step-clause-err : goal.returns-in_err-push_step-clause-err
returns-in_err-push_step-clause-err c =
    let front : List ℕ = string_bytes c.args.out.now in
    let so_far : List ℕ = lines_text step_pieces (take c.loop-step.step-index c.args.steps.now) in
    on_err c.from_residual.result
    (extends_behind front so_far (string_bytes c.loop-step.out) (string_bytes c.push_step.new.out) c.loop-step.invariant c.in_err-push_step.ensures.err)
