use Rattle.std.proofs.Common.{List, arith, sym, subst}
use Rattle.std.proofs.lemmas.List.{get_or_default}
use Rattle.std.proofs.lemmas.Option.{slice_get-get_or}
use Rattle.mf_errno.specs.declared.module.Module.{Module}
use Rattle.mf_calls.specs.WellFormed.{AreBoots}
use Rattle.mf_calls.proofs.FewBoots.{slot_left}
use Rattle.mf_core.proofs.Booted.{loaded_more}
use Rattle.mf_core.proofs.run.list_booted.Goals as goal

pub load-requires : goal.load-requires
load-requires c =
    let modules = c.as_slice-wanted-items.result.now in
    let P : List Module → Type 0 = λ ms. AreBoots ms in
    record {
      slots = λ wants.
          let left = slot_left modules c.loop-wanted.wanted-index _ (subst P (sym c.as_slice-wanted-items.ensures) c.requires.formed.boots)
          (slice_get-get_or modules c.loop-wanted.wanted-index _ (omega arith)) wants in
          omega (arith, c.loop-wanted.invariant.numbers_are, left);
    }

pub loop-wanted-preserved : goal.loop-wanted-preserved
loop-wanted-preserved c =
    let modules = c.as_slice-wanted-items.result.now in
    loaded_more modules c.loop-wanted.wanted-index _ c.loop-wanted.specs c.loop-wanted.numbers _ _ (omega arith)
    (get_or_default modules c.loop-wanted.wanted-index _ _ (omega arith)) c.loop-wanted.invariant c.in_ok-load.ensures.specs c.in_ok-load.ensures.numbers
