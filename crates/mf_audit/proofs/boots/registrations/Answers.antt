use Rattle.std.proofs.Common.{[], ◌∷◌, ◌++◌, arith, ap, ◌∙◌}
use Rattle.std.proofs.lemmas.List.{get_or_default}
use Rattle.std.proofs.lemmas.Option.{slice_get-get_or}
use Rattle.mf_policy.specs.declared.registration.Registration.{Registration}
use Rattle.mf_calls.proofs.FewBoots.{slot_left}
use Rattle.mf_audit.proofs.Booting.{registered_more}
use Rattle.mf_audit.proofs.boots.registrations.Goals as goal

pub given_after-given-requires : goal.given_after-given-requires
given_after-given-requires c = λ wants.
    let modules = c.args.modules.now in
    let left = slot_left modules c.loop-booted.booted-index _ c.requires (slice_get-get_or modules c.loop-booted.booted-index _ (omega arith)) wants in
    omega (arith, c.loop-booted.invariant.numbers, left)

pub loop-booted-preserved : goal.loop-booted-preserved
loop-booted-preserved c =
    let modules = c.args.modules.now in
    registered_more modules c.loop-booted.booted-index _ c.loop-booted.registrations.items _ c.loop-booted.given _ (omega arith)
    (get_or_default modules c.loop-booted.booted-index _ _ (omega arith)) c.loop-booted.invariant
    (c.in_ok-push.ensures.items ∙ ap (λ (r : Registration). c.loop-booted.registrations.items ++ r ∷ []) c.registration_of.ensures)
    c.given_after-given.ensures
