use Rattle.mf_hist.specs.Reading.{with_loaded, parts_added}
use Rattle.mf_hist.proofs.Added.{part_fails, part_adds, last_part}
use Rattle.mf_hist.proofs.fields.add_modules.Goals as goal

pub returns-in-Err : goal.returns-in-Err
unfolding parts_added
returns-in-Err c = part_fails with_loaded c.loop-loaded.modules _ c.in-Some.loaded.now _ c.in-Err.unread _ c.in-Some.ensures.parted c.loop-loaded.invariant.so_far c.in-Err.ensures

pub returns : goal.returns
returns c = last_part with_loaded c.loop-loaded.modules _ c.loop-loaded.rest.now _ c.add_loaded-2.new.modules c.add_loaded-2.result c.in_default.ensures.parted c.loop-loaded.invariant.so_far c.add_loaded-2.ensures

pub loop-loaded-preserved : goal.loop-loaded-preserved
unfolding parts_added
loop-loaded-preserved c = record {
  so_far = part_adds with_loaded c.loop-loaded.modules _ c.in-Some.loaded.now _ _ _ c.in-Some.ensures.parted c.loop-loaded.invariant.so_far c.in-Ok.ensures;
  text = search;
}
