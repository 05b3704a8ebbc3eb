use Rattle.std.proofs.Common.{◌≡◌, take}
use Rattle.mf_compose.specs.Composition.{composition}
use Rattle.mf_list.specs.Asked.{answers}
use Rattle.mf_audit.proofs.answering.composed.Given as goal

abbrev pub invariant-loop-place : goal.invariant-loop-place
invariant-loop-place l = l.selected ≡ composition (take l.place (answers l.listed l.item))
