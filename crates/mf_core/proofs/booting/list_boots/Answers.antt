use Rattle.mf_core.proofs.Apart.{static_apart}
use Rattle.mf_core.proofs.Booted.{tuned}
use Rattle.mf_core.proofs.booting.list_boots.Goals as goal

pub returns-clause-policies : goal.returns-clause-policies
returns-clause-policies g c =
    tuned c.args.script.now _ _ _ _ _ _ _ c.in_ok-boots.ensures.boots c.in_ok-boots.ensures.policies c.may_leave.ensures c.tunable_of.ensures
    c.in_ok-_answer.ensures.ok

pub returns-clause-fixed : goal.returns-clause-fixed
returns-clause-fixed g c =
    let lists =
    tuned c.args.script.now _ _ _ _ _ _ _ c.in_ok-boots.ensures.boots c.in_ok-boots.ensures.policies c.may_leave.ensures c.tunable_of.ensures
    c.in_ok-_answer.ensures.ok in
    static_apart _ _ _ lists.listed c.are_pinned.ensures c.may_leave.ensures
