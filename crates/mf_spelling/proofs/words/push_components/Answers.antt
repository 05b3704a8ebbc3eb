use Rattle.std.proofs.Common.{string_bytes}
use Rattle.mf_text.proofs.Appending.{on_err}
use Rattle.mf_spelling.proofs.Texts.{extends_through}
use Rattle.mf_spelling.proofs.words.push_components.Goals as goal

pub returns-in_err-push_component-clause-err : goal.returns-in_err-push_component-clause-err
returns-in_err-push_component-clause-err c =
    on_err c.from_residual.result
    (extends_through (string_bytes c.args.out.now) (string_bytes c.loop-name.out) (string_bytes c.push_component.new.out) c.loop-name.invariant.1 c.in_err-push_component.ensures.err)
