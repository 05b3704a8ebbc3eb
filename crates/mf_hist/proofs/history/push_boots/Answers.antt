use Rattle.std.proofs.Common.{List, ℕ, take, string_bytes}
use Rattle.std.specs.List.{flat_map}
use Rattle.mf_text.proofs.Appending.{extends_behind, on_err}
use Rattle.mf_hist.specs.HistoryText.{boot_text}
use Rattle.mf_hist.proofs.history.push_boots.Goals as goal

pub returns-in_err-push_boot-clause-err : goal.returns-in_err-push_boot-clause-err
returns-in_err-push_boot-clause-err c =
    let front : List ℕ = string_bytes c.args.out.now in
    let so_far : List ℕ = flat_map boot_text (take c.loop-boot.boot-index c.args.boots.now) in
    on_err c.from_residual.result
    (extends_behind front so_far (string_bytes c.loop-boot.out) (string_bytes c.push_boot.new.out) c.loop-boot.invariant c.in_err-push_boot.ensures.err)
