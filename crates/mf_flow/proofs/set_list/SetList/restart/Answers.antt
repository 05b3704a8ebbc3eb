use Rattle.std.proofs.Common.{◌≡◌, ℕ, List, [], set, sym, subst, ap, ◌∙◌}
use Rattle.mf_elem.specs.declared.elem.Elem.{Elem}
use Rattle.mf_flow.specs.Order.{union}
use Rattle.mf_flow.specs.Sources.{held_by, own_source}
use Rattle.mf_flow.specs.Listed.{AreSets, has_bit, listed, rows_of}
use Rattle.mf_flow.proofs.SetRows.{no_row, own_alone, rows_put, sets_put}
use Rattle.mf_flow.proofs.set_list.SetList.restart.Goals as goal

pub invariant_of-self-2 : goal.invariant_of-self-2
invariant_of-self-2 c =
    subst (AreSets c.with_own.new.known) (sym c.put_at.ensures)
    (sets_put c.self.inside.known c.with_own.new.known c.self.inside.sets.items c.args.number c.in_ok-set.set c.with_own.ensures.kept c.self.invariant c.in_ok-set.ensures.within)

pub returns : goal.returns
returns c =
    let known = c.self.inside.known in
    let new = c.with_own.new.known in
    let sets : List (List ℕ) = c.self.inside.sets.items in
    let none : listed (has_bit c.new.result) known ≡ [] = ap (λ (ws : List ℕ). listed (has_bit ws) known) c.new.ensures ∙ no_row known in
    ap (rows_of new) c.put_at.ensures
    ∙ rows_put known new sets c.args.number c.in_ok-set.set c.with_own.ensures.kept c.self.invariant
    ∙ ap (set (rows_of known sets) c.args.number)
    (c.in_ok-set.ensures.ok ∙ ap (λ (row : List Elem). held_by c.args.own (union (own_source c.args.own) row)) none ∙ own_alone c.args.own)
    ∙ ap (λ (rows : List (List Elem)). set rows c.args.number (own_source c.args.own)) c.self.view_is
