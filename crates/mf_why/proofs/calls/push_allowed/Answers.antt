use Rattle.std.proofs.Common.{◌++◌, List, ℕ, ◌+◌, take, get_or, ap, arith, ◌∙◌, string_bytes}
use Rattle.mf_text.proofs.Appending.{extends_behind, on_err}
use Rattle.mf_item.specs.Item.{Item}
use Rattle.mf_why.specs.Lines.{each_check, permits_text}
use Rattle.mf_why.proofs.Texts.{check_more}
use Rattle.mf_why.proofs.calls.push_allowed.Goals as goal

pub loop-check-preserved : goal.loop-check-preserved
loop-check-preserved c =
    let told : ℕ → Item → List ℕ = permits_text c.args.listed.now c.args.place.now in
    let items : List Item = c.args.plan.now.items in
    let item : Item = c.item-item.result in
    let n = c.loop-check.check in
    c.in_ok-push_permits.ensures.ok
    ∙ ap (λ (i : Item). string_bytes c.loop-check.text ++ told (n + 1) i) (c.item-item.ensures item)
    ∙ ap (λ text. text ++ told (n + 1) (get_or items n item)) c.loop-check.invariant
    ∙ check_more told (string_bytes c.args.text.now) items n item (omega arith)

pub returns-in_err-push_permits-clause-err : goal.returns-in_err-push_permits-clause-err
returns-in_err-push_permits-clause-err c =
    on_err c.from_residual.result
    (extends_behind (string_bytes c.args.text.now) (each_check (permits_text c.args.listed.now c.args.place.now) 1 (take c.loop-check.check c.args.plan.now.items))
    (string_bytes c.loop-check.text) (string_bytes c.push_permits.new.text) c.loop-check.invariant c.in_err-push_permits.ensures.err)
