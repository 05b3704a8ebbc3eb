use Rattle.std.proofs.Common.{◌≡◌, take}
use Rattle.mf_compose.specs.Composition.{composition}
use Rattle.mf_compose.proofs.composition.fold.Given as goal

abbrev pub invariant-loop-answer : goal.invariant-loop-answer
invariant-loop-answer l = l.selected ≡ composition (take l.answer-index l.answers)
