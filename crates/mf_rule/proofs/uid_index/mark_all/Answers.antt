use Rattle.std.proofs.Common.{arith, get_or}
use Rattle.std.proofs.lemmas.List.{get_or_default}
use Rattle.std.proofs.lemmas.List.Edits.{map_over_more}
use Rattle.mf_rule.specs.RuleBits.{no_bits}
use Rattle.mf_rule.specs.UidIndex.{stretch_with}
use Rattle.mf_rule.specs.declared.uid_index.Stretch.{Stretch}
use Rattle.mf_rule.proofs.uid_index.mark_all.Goals as goal

pub loop-stretch-preserved : goal.loop-stretch-preserved
loop-stretch-preserved c =
    let items = c.loop-stretch.stretch-items in
    let place = c.loop-stretch.stretch-index in
    let none : Stretch = record { from = 0; rules = no_bits } in
    rw (c.put.ensures, c.is_within-is_in.ensures)
    (map_over_more (stretch_with c.args.number c.args.range.now) _ items place (get_or items place none) (omega arith) c.loop-stretch.invariant (get_or_default items place none (get_or items place none) (omega arith)))
