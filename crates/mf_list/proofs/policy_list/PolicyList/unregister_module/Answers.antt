use Rattle.std.proofs.Common.{◌≡◌, List, true, subst}
use Rattle.mf_policy.specs.Registration.{Entry, is_listed}
use Rattle.mf_list.proofs.Walk.{listed_where_it_leaves}
use Rattle.mf_list.proofs.policy_list.PolicyList.unregister_module.Goals as goal

pub detach-requires-clause-listed : goal.detach-requires-clause-listed
detach-requires-clause-listed g c κs within =
    listed_where_it_leaves c.args.wanted c.args.fixed.now c.args.self.now c.are_pinned.ensures c.in_ok-registration.ensures.unload_ok
    (subst (λ (es : List Entry). is_listed c.args.wanted es ≡ true) c.new.ensures.entries c.in_ok-registration.ensures.listed)
