use Rattle.std.proofs.Common.{◌≡◌, true, false, ◌&&◌, get_or, ap, arith, sym, ◌∙◌}
use Rattle.std.proofs.lemmas.List.Folds.{list_all_at, list_all_more}
use Rattle.mf_matrix.specs.Passing.{lets_pass}
use Rattle.mf_matrix.proofs.Composed.{some_entry}
use Rattle.mf_matrix.proofs.passing.all_let_pass.Goals as goal

pub returns-then-not-lets_pass : goal.returns-then-not-lets_pass
returns-then-not-lets_pass c =
    let fails : lets_pass c.args.item.now (get_or c.args.listed.now c.loop-place.place some_entry) ≡ false =
    sym (c.lets_pass.ensures some_entry) ∙ c.if-not-lets_pass.true in
    sym (list_all_at (lets_pass c.args.item.now) c.args.listed.now c.loop-place.place some_entry (omega arith) fails)

pub loop-place-preserved : goal.loop-place-preserved
loop-place-preserved c =
    let holds : lets_pass c.args.item.now (get_or c.args.listed.now c.loop-place.place some_entry) ≡ true =
    sym (c.lets_pass.ensures some_entry) ∙ c.if-not-lets_pass.false in
    list_all_more (lets_pass c.args.item.now) c.args.listed.now c.loop-place.place some_entry (omega arith)
    ∙ ap (λ b. b && lets_pass c.args.item.now (get_or c.args.listed.now c.loop-place.place some_entry)) c.loop-place.invariant
    ∙ holds
