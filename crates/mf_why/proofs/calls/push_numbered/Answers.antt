use Rattle.std.proofs.Common.{◌≡◌, ◌++◌, List, [], ap, sym, ◌∙◌, string_bytes, ◌-◌, Option, Some, slice_get, arith}
use Rattle.std.specs.Option.{option_map_or}
use Rattle.std.proofs.lemmas.Option.{slice_get-get_or}
use Rattle.std.proofs.lemmas.Result.{on_ok_weaker}
use Rattle.mf_item.specs.Item.{Item}
use Rattle.mf_why.specs.Lines.{denial_text}
use Rattle.mf_why.proofs.calls.push_numbered.Goals as goal

pub returns-clause-ok : goal.returns-clause-ok
returns-clause-ok c =
    let items : List Item = c.args.plan.now.items in
    let item : Item = c.item-item.result in
    let place : c.args.number - 1 ≡ c.saturating_sub-check.result = omega arith in
    let at : slice_get items (c.args.number - 1) ≡ Some item =
    ap (slice_get items) place ∙ slice_get-get_or items c.saturating_sub-check.result item (omega arith) ∙ ap (λ (i : Item). Some i) (sym (c.item-item.ensures item)) in
    on_ok_weaker c.push_denial.result
    (λ h. h ∙ sym (ap (λ (o : Option Item). string_bytes c.args.text.now ++ option_map_or (denial_text c.args.state.now c.args.place.now c.args.number c.args.by) o []) at))
    c.push_denial.ensures.ok
