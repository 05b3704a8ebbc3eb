use Rattle.std.proofs.Common.{◌≡◌, ℕ, List, Option, Some, sym, ap, ◌∙◌}
use Rattle.mf_elem.specs.declared.elem.Elem.{Elem}
use Rattle.mf_elem.specs.declared.elem.Elem.TheVariants.{Equal}
use Rattle.mf_flow.specs.Listed.{has_bit, listed}
use Rattle.mf_flow.specs.Sources.{held_by, own_source}
use Rattle.mf_flow.specs.Order.{union}
use Rattle.mf_flow.proofs.SetRows.{no_row}
use Rattle.mf_flow.proofs.set_list.with_own.Goals as goal

pub returns-in-None-clause-ok : goal.returns-in-None-clause-ok
returns-in-None-clause-ok c =
    ap (λ (ws : List ℕ). listed (has_bit ws) c.args.known.now) c.new.ensures
    ∙ no_row c.args.known.now
    ∙ sym (ap (λ (own : Option Elem). held_by own (union (own_source own) (listed (has_bit c.args.inherited) c.args.known.now))) c.in-None.is)

pub returns-in-Some-Equal-clause-ok : goal.returns-in-Some-Equal-clause-ok
returns-in-Some-Equal-clause-ok c =
    let equal : c.in-Some-Equal.field-0 ≡ Equal = rw c.in-Some-Equal.is at c.in-Some-Equal.field-0-is in
    ap (λ (ws : List ℕ). listed (has_bit ws) c.args.known.now) c.new-in-Some-Equal.ensures
    ∙ no_row c.args.known.now
    ∙ sym (ap (λ (own : Option Elem). held_by own (union (own_source own) (listed (has_bit c.args.inherited) c.args.known.now)))
    (c.in-Some-Equal.is ∙ ap (λ (e : Elem). Some e) equal))
