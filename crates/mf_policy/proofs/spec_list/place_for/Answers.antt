use Rattle.std.proofs.Common.{◌∙◌, ap}
use Rattle.std.specs.List.{insert}
use Rattle.mf_policy.proofs.Places.{insert_dynamic, insert_static}
use Rattle.mf_policy.proofs.spec_list.place_for.Goals as goal

pub returns-then-fixed-clause-place : goal.returns-then-fixed-clause-place
returns-then-fixed-clause-place c = λ e h. insert_static e c.args.entries.now (h ∙ c.if-fixed.true)

pub returns-else-fixed-clause-place : goal.returns-else-fixed-clause-place
returns-else-fixed-clause-place c = λ e h.
    let dynamic = insert_dynamic e c.args.entries.now (h ∙ c.if-fixed.false) in
    ap (λ k. insert c.args.entries.now k e) c.static_len.ensures.value ∙ dynamic
