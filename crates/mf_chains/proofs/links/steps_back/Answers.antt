use Rattle.std.proofs.Common.{arith, ap, sym, get_or, refl, ◌∙◌}
use Rattle.mf_chains.specs.Links.{chains_of, no_chain}
use Rattle.mf_chains.proofs.Linking.{at_origin, going_on, names_before, no_link, none_if, one_back}
use Rattle.mf_chains.proofs.links.steps_back.Goals as goal

pub loop-at-smaller : goal.loop-at-smaller
loop-at-smaller c = names_before c.args.links.now c.loop-at.at c.in-Some.before _ no_link c.requires.linked c.loop-at.invariant.0 refl c.in-Some.is

pub loop-at-preserved : goal.loop-at-preserved
loop-at-preserved c =
    let links = c.args.links.now in
    let smaller = names_before links c.loop-at.at c.in-Some.before _ no_link c.requires.linked c.loop-at.invariant.0 refl c.in-Some.is in (
      omega (arith, smaller, c.loop-at.invariant.0),
      ap (going_on (get_or (chains_of links) c.in-Some.before no_chain)) c.in_ok-push.ensures.items
          ∙ sym (one_back links c.loop-at.at c.in-Some.before _ no_link c.loop-at.steps.items c.requires.linked c.loop-at.invariant.0 refl c.in-Some.is)
          ∙ c.loop-at.invariant.1,
    )

pub returns : goal.returns
returns c =
    sym (at_origin c.args.links.now c.loop-at.at _ no_link c.loop-at.steps.items c.requires.linked c.loop-at.invariant.0 refl (none_if _ c.in_default.not-Some))
    ∙ c.loop-at.invariant.1
