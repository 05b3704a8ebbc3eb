use Rattle.std.proofs.Common.{◌∙◌}
use Rattle.mf_chains.proofs.Receiving.{first_kept, if_ok_also}
use Rattle.mf_chains.proofs.keeping.first_set.Goals as goal

pub returns-in_ok-link-in-Some-clause-kept : goal.returns-in_ok-link-in-Some-clause-kept
returns-in_ok-link-in-Some-clause-kept c =
    if_ok_also c.joined.result _ _
    (λ new is. is ∙ first_kept c.args.links.now c.begin.new.self c.args.sets.now c.args.step c.in-Some.element c.args.own c.args.maker c.in_ok-link-in-Some.link c.held_by.result.now
    c.in-Some.is c.in_ok-link-in-Some.ensures.ok c.in_ok-link-in-Some.ensures.place c.requires c.held_by.ensures) c.joined.ensures.kept
