use Rattle.std.proofs.Common.{sym, subst, List, arith}
use Rattle.std.proofs.lemmas.List.{get_or_default}
use Rattle.mf_errno.specs.declared.module.Module.{Module}
use Rattle.mf_calls.specs.WellFormed.{AreBoots}
use Rattle.mf_core.proofs.Boots.{booting_more, can_boot}
use Rattle.mf_core.proofs.SameLists.{held_once}
use Rattle.mf_core.proofs.booting.register_boots.Goals as goal

pub register_boot-registration-requires-clause-once : goal.register_boot-registration-requires-clause-once
register_boot-registration-requires-clause-once g c κs within =
    held_once _ c.loop-booted.fixed c.loop-booted.list c.loop-booted.catalogue c.loop-booted.invariant.policies

pub register_boot-registration-requires-clause-can : goal.register_boot-registration-requires-clause-can
register_boot-registration-requires-clause-can g c κs within =
    let modules = c.as_slice-booted-items.result.now in
    let P : List Module → Type 0 = λ ms. AreBoots ms in
    can_boot modules c.loop-booted.booted-index _ c.loop-booted.boots _ c.loop-booted.fixed c.loop-booted.list c.loop-booted.catalogue
    (subst P (sym c.as_slice-booted-items.ensures) c.requires.boots) (omega arith)
    (get_or_default modules c.loop-booted.booted-index _ _ (omega arith)) c.loop-booted.invariant

pub loop-booted-preserved : goal.loop-booted-preserved
loop-booted-preserved g c =
    let modules = c.as_slice-booted-items.result.now in
    let P : List Module → Type 0 = λ ms. AreBoots ms in
    let registered = c.register_boot-registration in
    rw c.in_ok-push.ensures.ok (booting_more modules c.loop-booted.booted-index _ c.loop-booted.boots _ c.loop-booted.fixed c.loop-booted.list c.loop-booted.catalogue
    (subst P (sym c.as_slice-booted-items.ensures) c.requires.boots) (omega arith)
    (get_or_default modules c.loop-booted.booted-index _ _ (omega arith)) c.loop-booted.invariant
    _ _ _ _ _ registered.ensures.registration registered.ensures.moves)
