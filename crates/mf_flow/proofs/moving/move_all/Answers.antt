use Rattle.std.proofs.Common.{◌≡◌, Bool, true, false, cond, List, [], ◌∷◌, Option, take_all, arith, refl, ap, ◌∙◌}
use Rattle.std.specs.Option.{option_copied}
use Rattle.std.specs.Prelude.{filter, fold, map}
use Rattle.mf_policy.specs.declared.registration.Registration.{Registration}
use Rattle.mf_item.specs.Item.{Item}
use Rattle.mf_list.specs.Asked.{slot_of}
use Rattle.mf_objects.specs.declared.descriptors.Fd.{Fd}
use Rattle.mf_plan.specs.declared.outline.Check.{Check}
use Rattle.mf_plan.specs.declared.state.State.{State}
use Rattle.mf_plan.specs.Outline.{item_of}
use Rattle.mf_flow.specs.Rows.{Rows, rows_by, rows_counted, rows_moved}
use Rattle.mf_flow.specs.Transfers.{counts}
use Rattle.mf_flow.proofs.Placing.{fold_more}
use Rattle.mf_flow.proofs.moving.move_all.Goals as goal

-- going over all checks, and over those that count
counted_fold : (r : Registration) (s : State) (fd : Option Fd) (rows : Rows) (checks : List Check)
    → fold (rows_counted r s fd) rows checks ≡ fold (rows_moved (slot_of r) s.objects) rows (filter (counts r s.specs fd) (map (item_of s.objects) checks))
counted_fold r s fd rows [] = refl
counted_fold r s fd rows (check ∷ checks) = one (counts r s.specs fd (item_of s.objects check)) (λ after. counted_fold r s fd after checks)
  where
    some : List Item
    some = filter (counts r s.specs fd) (map (item_of s.objects) checks)

    one : (b : Bool) → ((after : Rows) → fold (rows_counted r s fd) after checks ≡ fold (rows_moved (slot_of r) s.objects) after some)
        → fold (rows_counted r s fd) (cond b (rows_by (slot_of r) s.objects rows check) rows) checks
        ≡ fold (rows_moved (slot_of r) s.objects) rows (cond b (item_of s.objects check ∷ some) some)
    one true rest = rest (rows_by (slot_of r) s.objects rows check)
    one false rest = rest rows

pub loop-check-preserved : goal.loop-check-preserved
loop-check-preserved c =
    fold_more (rows_counted c.args.registration.now c.args.state.now (option_copied c.args.fd)) c.args.sets.now c.loop-check.sets c.move_counted.new.sets c.args.checks.now c.loop-check.check-index
    _ _ (omega arith) c.loop-check.invariant c.in_ok-move_counted.ensures refl

pub returns : goal.returns
returns c =
    let step : Rows → Check → Rows = rows_counted c.args.registration.now c.args.state.now (option_copied c.args.fd) in
    c.loop-check.invariant
    ∙ ap (fold step c.args.sets.now) (take_all c.loop-check.check-index c.args.checks.now (omega (arith, c.loop-check-test.false)))
    ∙ counted_fold c.args.registration.now c.args.state.now (option_copied c.args.fd) c.args.sets.now c.args.checks.now
