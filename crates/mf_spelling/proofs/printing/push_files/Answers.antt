use Rattle.std.proofs.Common.{List, ℕ, take, string_bytes}
use Rattle.mf_text.proofs.Appending.{extends_behind, on_err}
use Rattle.mf_spelling.specs.Spelling.{file_pieces}
use Rattle.mf_spelling.specs.Canonical.{lines_text}
use Rattle.mf_spelling.proofs.printing.push_files.Goals as goal

pub returns-in_err-push_file-clause-err : goal.returns-in_err-push_file-clause-err
returns-in_err-push_file-clause-err c =
    let front : List ℕ = string_bytes c.args.out.now in
    let so_far : List ℕ = lines_text file_pieces (take c.loop-file.file-index c.args.files.now) in
    on_err c.from_residual.result
    (extends_behind front so_far (string_bytes c.loop-file.out) (string_bytes c.push_file.new.out) c.loop-file.invariant c.in_err-push_file.ensures.err)
