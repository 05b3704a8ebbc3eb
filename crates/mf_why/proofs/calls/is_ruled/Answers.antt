use Rattle.std.proofs.Common.{Bool, ◌||◌, get_or, ap, arith, sym, ◌∙◌}
use Rattle.std.proofs.lemmas.List.Folds.{list_any_at, list_any_more}
use Rattle.mf_policy.specs.Registration.{Entry}
use Rattle.mf_why.specs.Ruled.{has_rules}
use Rattle.mf_why.proofs.Entries.{some_entry}
use Rattle.mf_why.proofs.calls.is_ruled.Goals as goal

pub returns-then-has_rules : goal.returns-then-has_rules
returns-then-has_rules c =
    sym (list_any_at (λ (entry : Entry). has_rules entry.1) c.args.listed.now c.loop-place.place some_entry (omega arith)
    (sym (ap has_rules (c.spec.ensures some_entry)) ∙ sym c.has_rules.ensures ∙ c.if-has_rules.true))

pub loop-place-preserved : goal.loop-place-preserved
loop-place-preserved c =
    let ruled : Bool = has_rules (get_or c.args.listed.now c.loop-place.place some_entry).1 in
    list_any_more (λ (entry : Entry). has_rules entry.1) c.args.listed.now c.loop-place.place some_entry (omega arith)
    ∙ ap (λ b. b || ruled) c.loop-place.invariant
    ∙ sym (ap has_rules (c.spec.ensures some_entry)) ∙ sym c.has_rules.ensures ∙ c.if-has_rules.false
