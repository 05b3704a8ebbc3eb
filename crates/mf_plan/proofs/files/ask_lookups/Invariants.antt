use Rattle.std.proofs.Common.{◌≡◌, length, map, take}
use Rattle.mf_item.specs.declared.operation.CheckOp.TheVariants as op
use Rattle.mf_plan.specs.Checks.{on}
use Rattle.mf_plan.specs.Outline.{IsAsking}
use Rattle.mf_plan.proofs.files.ask_lookups.Given as goal

abbrev pub invariant-loop-dir : goal.invariant-loop-dir
invariant-loop-dir l =
    (l.checks ≡ map (on l.caller op.VnodeLookup) (take l.dir-index l.dirs)) × (length l.checks ≡ l.dir-index) × IsAsking l.objects l.caller l.checks
