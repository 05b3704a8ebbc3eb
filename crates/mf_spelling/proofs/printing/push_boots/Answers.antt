use Rattle.std.proofs.Common.{List, ℕ, take, string_bytes}
use Rattle.mf_text.proofs.Appending.{extends_behind, on_err}
use Rattle.mf_spelling.specs.Spelling.{boot_pieces}
use Rattle.mf_spelling.specs.Canonical.{lines_text}
use Rattle.mf_spelling.proofs.printing.push_boots.Goals as goal

pub returns-in_err-push_boot-clause-err : goal.returns-in_err-push_boot-clause-err
returns-in_err-push_boot-clause-err c =
    let front : List ℕ = string_bytes c.args.out.now in
    let so_far : List ℕ = lines_text boot_pieces (take c.loop-module.module-index c.args.boots.now) in
    on_err c.from_residual.result
    (extends_behind front so_far (string_bytes c.loop-module.out) (string_bytes c.push_boot.new.out) c.loop-module.invariant c.in_err-push_boot.ensures.err)
