use Rattle.std.proofs.Common.{◌≡◌, true, false, get_or, Some, option_map, ap, arith, sym, ◌∙◌}
use Rattle.mf_errno.specs.Same.{is_same}
use Rattle.mf_list.specs.Asked.{answer_of}
use Rattle.mf_policy.specs.declared.registration.Registration.{Registration}
use Rattle.mf_policy.specs.Registration.{Entry}
use Rattle.mf_audit.proofs.Answers.{found_here, found_later, none_left, some_entry}
use Rattle.mf_audit.proofs.answering.first_with.Goals as goal

pub returns-then-is_same : goal.returns-then-is_same
returns-then-is_same c =
    let passes : is_same c.args.errno (answer_of c.args.item.now (get_or c.args.listed.now c.loop-place.place some_entry)) ≡ true =
    ap (is_same c.args.errno) (sym (c.answer_at.ensures some_entry)) ∙ sym c.is_same.ensures ∙ c.if-is_same.true in
    ap (λ (r : Registration). Some r.module) (c.registration.ensures some_entry)
    ∙ sym (ap (option_map (λ (entry : Entry). entry.0.module)) (c.loop-place.invariant
    ∙ found_here (λ (entry : Entry). is_same c.args.errno (answer_of c.args.item.now entry)) c.args.listed.now c.loop-place.place some_entry (omega arith) passes))

pub loop-place-preserved : goal.loop-place-preserved
loop-place-preserved c =
    let fails : is_same c.args.errno (answer_of c.args.item.now (get_or c.args.listed.now c.loop-place.place some_entry)) ≡ false =
    ap (is_same c.args.errno) (sym (c.answer_at.ensures some_entry)) ∙ sym c.is_same.ensures ∙ c.if-is_same.false in
    c.loop-place.invariant
    ∙ found_later (λ (entry : Entry). is_same c.args.errno (answer_of c.args.item.now entry)) c.args.listed.now c.loop-place.place some_entry (omega arith) fails

pub returns : goal.returns
returns c =
    sym (ap (option_map (λ (entry : Entry). entry.0.module)) (c.loop-place.invariant
    ∙ none_left (λ (entry : Entry). is_same c.args.errno (answer_of c.args.item.now entry)) c.args.listed.now c.loop-place.place (omega arith)))
