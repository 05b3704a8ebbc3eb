use Rattle.std.proofs.Common.{◌≡◌, take, fold}
use Rattle.std.specs.Option.{option_copied}
use Rattle.mf_flow.specs.Rows.{rows_counted}
use Rattle.mf_flow.proofs.moving.move_all.Given as goal

abbrev pub invariant-loop-check : goal.invariant-loop-check
invariant-loop-check l = l.sets ≡ fold (rows_counted l.registration l.state (option_copied l.fd)) l.initial.sets (take l.check-index l.checks)
