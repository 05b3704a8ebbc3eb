use Rattle.std.proofs.Common.{List, ℕ, take, string_bytes}
use Rattle.mf_text.proofs.Appending.{extends_behind, on_err}
use Rattle.mf_spelling.specs.Spelling.{line_pieces}
use Rattle.mf_spelling.specs.Canonical.{lines_text}
use Rattle.mf_spelling.proofs.printing.push_lines.Goals as goal

pub returns-in_err-push_line-clause-err : goal.returns-in_err-push_line-clause-err
returns-in_err-push_line-clause-err c =
    let front : List ℕ = string_bytes c.args.out.now in
    let so_far : List ℕ = lines_text line_pieces (take c.loop-line.line-index c.args.lines.now) in
    on_err c.from_residual.result
    (extends_behind front so_far (string_bytes c.loop-line.out) (string_bytes c.push_line.new.out) c.loop-line.invariant c.in_err-push_line.ensures.err)
