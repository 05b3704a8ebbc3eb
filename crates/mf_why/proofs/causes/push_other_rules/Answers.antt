use Rattle.std.proofs.Common.{◌++◌, List, ℕ, ap, ◌∙◌, string_bytes}
use Rattle.std.specs.List.{flat_map, range_with_len}
use Rattle.mf_text.proofs.Appending.{extends_behind, on_err}
use Rattle.mf_why.specs.Deniers.{other_reason}
use Rattle.mf_why.specs.Lines.{other_text}
use Rattle.mf_why.proofs.Texts.{numbers_more}
use Rattle.mf_why.proofs.causes.push_other_rules.Goals as goal

pub loop-number-preserved : goal.loop-number-preserved
loop-number-preserved c =
    let told = other_text c.args.place.now c.args.module in
    let one = other_reason c.args.rules.now c.args.item.now c.args.told in
    c.in_ok-push_other_rule.ensures.ok
    ∙ ap (λ text. text ++ flat_map told (one c.loop-number.number)) c.loop-number.invariant
    ∙ numbers_more told one (string_bytes c.args.text.now) c.loop-number.number

pub returns-in_err-push_other_rule-clause-err : goal.returns-in_err-push_other_rule-clause-err
returns-in_err-push_other_rule-clause-err c =
    let so_far : List ℕ =
    flat_map (other_text c.args.place.now c.args.module) (flat_map (other_reason c.args.rules.now c.args.item.now c.args.told) (range_with_len 0 c.loop-number.number)) in
    on_err c.from_residual.result
    (extends_behind (string_bytes c.args.text.now) so_far (string_bytes c.loop-number.text) (string_bytes c.push_other_rule.new.text) c.loop-number.invariant
    c.in_err-push_other_rule.ensures.err)
