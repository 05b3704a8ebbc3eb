use Rattle.std.proofs.Common.{◌≡◌, ap, arith, ◌∙◌}
use Rattle.std.specs.List.{sum_by}
use Rattle.mf_policy.specs.declared.registration.Registration.{Registration}
use Rattle.mf_chains.specs.declared.chain.ChainFault.TheVariants.{TooMany}
use Rattle.mf_chains.specs.Happenings.{happenings_of}
use Rattle.mf_chains.specs.Histories.{past_of}
use Rattle.mf_chains.specs.Kept.{additions}
use Rattle.mf_chains.proofs.Listing.{err_and_also, keepers_more, keepers_over}
use Rattle.mf_chains.proofs.Walking.{all_taken, past_at, pasts_are, slots_at_first}
use Rattle.mf_chains.proofs.table.keepers_for.Goals as goal

pub happenings-requires-clause-slots : goal.happenings-requires-clause-slots
happenings-requires-clause-slots c = slots_at_first c.args.booted.now c.in_ok-pasts.pasts.items c.in_ok-pasts.ensures c.requires.slots

pub loop-past-preserved : goal.loop-past-preserved
loop-past-preserved c =
    let s = c.args.script.now in
    let h = c.args.history.now in
    let f = λ (r : Registration). happenings_of s r h.events.list in
    let p = c.past-item.result in
    let at = past_at f c.args.booted.now c.deref-past-items.result.now c.loop-past.past-index p
    (c.deref-past-items.ensures.value ∙ pasts_are f c.args.booted.now c.in_ok-pasts.pasts.items c.happenings.new.pasts.items c.in_ok-pasts.ensures c.in_ok-_run.ensures.pasts) (omega arith)
    c.past-item.is in
    keepers_more s h c.args.booted.now c.loop-past.past-index c.loop-past.most c.len-most.result p c.in_ok-keeper.keeper c.loop-past.keepers c.push.new.self at.0 at.1 at.2
    c.in_ok-keeper.ensures.registration c.in_ok-keeper.ensures.keeper c.in_ok-keeper.ensures.count c.in_ok-keeper.ensures.few c.len-most.ensures c.in_ok-push.ensures.ok c.loop-past.invariant

pub returns-in_err-keeper-clause-fault : goal.returns-in_err-keeper-clause-fault
returns-in_err-keeper-clause-fault c =
    let s = c.args.script.now in
    let h = c.args.history.now in
    let f = λ (r : Registration). happenings_of s r h.events.list in
    let p = c.past-item.result in
    let at = past_at f c.args.booted.now c.deref-past-items.result.now c.loop-past.past-index p
    (c.deref-past-items.ensures.value ∙ pasts_are f c.args.booted.now c.in_ok-pasts.pasts.items c.happenings.new.pasts.items c.in_ok-pasts.ensures c.in_ok-_run.ensures.pasts) (omega arith)
    c.past-item.is in
    err_and_also c.from_residual-in_err-keeper.result _ _ (λ f same is.
    let here : c.in_err-keeper.field-0.0 ≡ TooMany = cc in
    keepers_over s h c.args.booted.now c.loop-past.past-index c.loop-past.most p c.loop-past.keepers at.0 at.1 at.2 c.loop-past.invariant (c.in_err-keeper.ensures.fault here))
    c.from_residual-in_err-keeper.ensures.1

pub returns-clause-registrations : goal.returns-clause-registrations
returns-clause-registrations c =
    let f = λ (r : Registration). happenings_of c.args.script.now r c.args.history.now.events.list in
    c.loop-past.invariant.registrations
    ∙ all_taken f c.args.booted.now c.happenings.new.pasts.items c.loop-past.past-index
    (pasts_are f c.args.booted.now c.in_ok-pasts.pasts.items c.happenings.new.pasts.items c.in_ok-pasts.ensures c.in_ok-_run.ensures.pasts) (omega arith)

pub returns-clause-keepers : goal.returns-clause-keepers
returns-clause-keepers c = c.loop-past.invariant.keepers

pub returns-clause-few : goal.returns-clause-few
returns-clause-few c =
    let s = c.args.script.now in
    let h = c.args.history.now in
    let f = λ (r : Registration). happenings_of s r h.events.list in
    omega (
      arith,
      c.loop-past.invariant.left,
      ap (sum_by (λ (r : Registration). additions (past_of s h r)))
          (all_taken f c.args.booted.now c.happenings.new.pasts.items c.loop-past.past-index
          (pasts_are f c.args.booted.now c.in_ok-pasts.pasts.items c.happenings.new.pasts.items c.in_ok-pasts.ensures c.in_ok-_run.ensures.pasts) (omega arith)),
    )
