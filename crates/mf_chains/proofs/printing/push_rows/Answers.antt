use Rattle.std.proofs.Common.{List, ℕ, take, string_bytes}
use Rattle.std.specs.List.{flat_map}
use Rattle.mf_text.proofs.Appending.{extends_behind, on_err}
use Rattle.mf_chains.specs.ChainsText.{chain_row_text}
use Rattle.mf_chains.proofs.printing.push_rows.Goals as goal

pub returns-in_err-push_row-clause-err : goal.returns-in_err-push_row-clause-err
returns-in_err-push_row-clause-err c =
    let front : List ℕ = string_bytes c.args.text.now in
    let so_far : List ℕ = flat_map chain_row_text (take c.loop-row.row-index c.args.rows.now) in
    on_err c.from_residual.result
    (extends_behind front so_far (string_bytes c.loop-row.text) (string_bytes c.push_row.new.text) c.loop-row.invariant c.in_err-push_row.ensures.err)
