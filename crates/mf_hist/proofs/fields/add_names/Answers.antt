use Rattle.mf_hist.specs.Reading.{with_name, parts_added}
use Rattle.mf_hist.proofs.Added.{part_fails, part_adds, last_part}
use Rattle.mf_hist.proofs.fields.add_names.Goals as goal

pub returns-in-Err : goal.returns-in-Err
unfolding parts_added
returns-in-Err c = part_fails with_name c.loop-name.names _ c.in-Some.name.now _ c.in-Err.unread _ c.in-Some.ensures.parted c.loop-name.invariant.so_far c.in-Err.ensures

pub returns : goal.returns
returns c = last_part with_name c.loop-name.names _ c.loop-name.rest.now _ c.add_name-2.new.names c.add_name-2.result c.in_default.ensures.parted c.loop-name.invariant.so_far c.add_name-2.ensures

pub loop-name-preserved : goal.loop-name-preserved
unfolding parts_added
loop-name-preserved c = record {
  so_far = part_adds with_name c.loop-name.names _ c.in-Some.name.now _ _ _ c.in-Some.ensures.parted c.loop-name.invariant.so_far c.in-Ok.ensures;
  text = search;
}
