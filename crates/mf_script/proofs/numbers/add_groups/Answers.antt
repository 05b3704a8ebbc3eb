use Rattle.mf_script.specs.Parts.{with_group, all_added}
use Rattle.mf_script.proofs.Added.{part_fails, part_adds, last_part}
use Rattle.mf_script.proofs.numbers.add_groups.Goals as goal

pub returns-in-Err : goal.returns-in-Err
unfolding all_added
returns-in-Err c = part_fails with_group c.loop-group.groups _ c.in-Some.group.now _ c.in-Err.error _ c.in-Some.ensures.parted c.loop-group.invariant.so_far c.in-Err.ensures

pub returns : goal.returns
returns c = last_part with_group c.loop-group.groups _ c.loop-group.rest.now _ c.add_group-2.new.groups c.add_group-2.result c.in_default.ensures.parted c.loop-group.invariant.so_far c.add_group-2.ensures

pub loop-group-preserved : goal.loop-group-preserved
unfolding all_added
loop-group-preserved c = record {
  so_far = part_adds with_group c.loop-group.groups _ c.in-Some.group.now _ _ _ c.in-Some.ensures.parted c.loop-group.invariant.so_far c.in-Ok.ensures;
  text = search;
}
