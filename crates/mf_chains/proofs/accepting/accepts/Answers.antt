use Rattle.std.proofs.Common.{◌≡◌, ◌<◌, List, [], ◌∷◌, ap, sym, subst, reverse, ◌∙◌}
use Rattle.mf_errno.specs.Same.{same_module}
use Rattle.mf_elem.specs.declared.label.TheConstants.{SLOTS}
use Rattle.mf_list.specs.Asked.{slot_of}
use Rattle.mf_flow.proofs.Followed.{slots_within}
use Rattle.mf_chains.specs.declared.happening.Occurrence.{Occurrence}
use Rattle.mf_chains.specs.Happenings.{happenings_of}
use Rattle.mf_chains.specs.Tracing.{AreApart}
use Rattle.mf_chains.proofs.Apart.{happenings_apart}
use Rattle.mf_chains.proofs.Judging.{judged, policy_is}
use Rattle.mf_chains.proofs.Listing.{found_at}
use Rattle.mf_chains.proofs.Walking.{only_past, slots_at_first}
use Rattle.mf_chains.proofs.accepting.accepts.Goals as goal

pub happenings-requires-clause-slots : goal.happenings-requires-clause-slots
happenings-requires-clause-slots c =
    let booted = c.deref.result.now in
    slots_at_first (c.in-Some.registration.now ∷ []) c.in_ok-pasts-in-Some.pasts.items c.in_ok-pasts-in-Some.ensures (
      found_at (λ r. slot_of r < SLOTS) booted (λ r. same_module c.args.module r.module) c.in-Some.registration.now (sym c.in-Some.ensures)
          (slots_within c.args.script.now c.args.history.now booted c.requires.formed c.requires.legal (c.deref.ensures.value ∙ c.in_ok-booted.ensures)),
      tt,
    )

pub leads-requires : goal.leads-requires
leads-requires c =
    let s = c.args.script.now in
    let es = c.args.history.now.events.list in
    let r = c.in-Some.registration.now in
    let past_is : c.as_slice-past.result.now ≡ happenings_of s r es =
    c.as_slice-past.ensures
    ∙ only_past (λ r. happenings_of s r es) r c.in_ok-pasts-in-Some.pasts.items c.happenings.new.pasts.items c.index.result.now
    c.in_ok-pasts-in-Some.ensures c.in_ok-run-in-Some.ensures.pasts c.index.ensures in
    subst (λ (xs : List Occurrence). AreApart (reverse xs)) (sym past_is) (happenings_apart s r es)

pub returns : goal.returns
returns c =
    let s = c.args.script.now in
    let es = c.args.history.now.events.list in
    let r = c.in-Some.registration.now in
    let past_is : c.as_slice-past.result.now ≡ happenings_of s r es =
    c.as_slice-past.ensures
    ∙ only_past (λ r. happenings_of s r es) r c.in_ok-pasts-in-Some.pasts.items c.happenings.new.pasts.items c.index.result.now
    c.in_ok-pasts-in-Some.ensures c.in_ok-run-in-Some.ensures.pasts c.index.ensures in
    judged s c.args.history.now c.args.module r c.args.party c.args.element.now c.args.chain.now c.lives.result c.leads.result c.as_slice-past.result.now
    c.state.result.now
    (policy_is c.args.history.now.boots c.deref.result.now c.args.module r (c.deref.ensures.value ∙ c.in_ok-booted.ensures) (sym c.in-Some.ensures))
    past_is (c.state.ensures ∙ ap (λ x. x.state) c.in_ok-run-in-Some.ensures.run) c.if-not-lives.false c.lives.ensures c.leads.ensures
