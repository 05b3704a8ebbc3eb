use Rattle.std.proofs.Common.{◌≤◌, refl, sym, subst}
use Rattle.std.specs.Prelude.{fold}
use Rattle.mf_policy.specs.Registration.{given_after}
use Rattle.mf_plan.specs.declared.state.State.{State}
use Rattle.mf_core.specs.declared.limits.TheConstants.{MOST_AT_OPENING}
use Rattle.mf_core.specs.Opening.{booted_specs, opening_objects, opening_state}
use Rattle.mf_core.specs.RunView.{IsReached}
use Rattle.mf_core.proofs.Reached.{opening_reached}
use Rattle.mf_audit.proofs.player.Player.new.Goals as goal

pub returns-clause-reached : goal.returns-clause-reached
returns-clause-reached c =
    let s = c.args.script.now in
    let standings = c.in_ok-standings.standings in
    let ids : (opening_state s).objects.next ≤ MOST_AT_OPENING = subst (λ (x : State). x.objects.next ≤ MOST_AT_OPENING) c.in_ok-kernel.ensures.state c.in_ok-kernel.ensures.ids in
    subst (λ (x : State). IsReached s (record { state = x; progress = standings })) (sym c.in_ok-kernel.ensures.state)
    (opening_reached s (opening_objects (booted_specs s) s) (booted_specs s) (fold given_after 0 s.boots) standings c.requires refl refl refl ids c.in_ok-standings.ensures)
