use Rattle.std.proofs.Common.{◌≡◌, ◌<◌, None, length, get_or, sym, ◌∙◌, arith}
use Rattle.mf_rule.proofs.Candidates.{decision, within_slots, undecided, left_within, done_more, first_decides, none_decides}
use Rattle.mf_rule.proofs.rule_list.by_candidates.Goals as goal

pub loop-number-init : goal.loop-number-init
loop-number-init c =
    record {
      within = within_slots c.args.slots.now c.args.cred.now c.args.file.now.dir c.args.candidates c.requires.candidates;
      done = undecided c.args.first_match c.args.slots.now c.args.cred.now c.args.file.now c.args.wanted c.args.candidates c.requires.candidates;
    }

pub loop-number-preserved : goal.loop-number-preserved
loop-number-preserved c =
    let slots = c.args.slots.now in
    let found = c.in-Some.ensures in
    let here = sym c.decision.ensures ∙ c.in_default-decision.is in
    rw (found.1)
    (record {
      within = left_within (λ n. n < length slots) _ _ found.0.within c.loop-number.invariant.within;
      done = done_more (λ n. decision c.args.first_match c.args.cred.now c.args.file.now c.args.wanted (get_or slots n None) ≡ None) _ _ found.0.within here c.loop-number.invariant.done;
    })

pub returns-in-Some-decision : goal.returns-in-Some-decision
returns-in-Some-decision c =
    let least = c.in-Some.ensures.0 in
    let w = least.within in
    let below = c.loop-number.invariant.within _ least.within least.there in
    first_decides c.args.first_match c.args.slots.now c.args.cred.now c.args.file.now c.args.wanted _ c.in-Some-decision.gives below (sym c.decision.ensures ∙ c.in-Some-decision.is)
    (λ m k. c.loop-number.invariant.done m (omega (arith, w, k)) (least.least m k))

pub returns : goal.returns
returns c =
    let len = c.requires.len in
    none_decides c.args.first_match c.args.slots.now c.args.cred.now c.args.file.now c.args.wanted (λ m k. c.loop-number.invariant.done m (omega (arith, len, k)) (c.in_default.ensures m))
