use Rattle.std.proofs.Common.{List, ℕ, take, string_bytes}
use Rattle.std.specs.List.{flat_map}
use Rattle.mf_text.proofs.Appending.{extends_behind, on_err}
use Rattle.mf_hist.specs.HistoryText.{event_text}
use Rattle.mf_hist.proofs.history.push_events.Goals as goal

pub returns-in_err-push_known-clause-err : goal.returns-in_err-push_known-clause-err
returns-in_err-push_known-clause-err c =
    let front : List ℕ = string_bytes c.args.out.now in
    let so_far : List ℕ = flat_map (event_text c.args.script.now) (take c.loop-event.event-index c.args.events.now) in
    on_err c.from_residual-in_err-push_known.result
    (extends_behind front so_far (string_bytes c.loop-event.out) (string_bytes c.push_known.new.out) c.loop-event.invariant c.in_err-push_known.ensures.err)
