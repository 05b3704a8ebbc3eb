use Rattle.std.proofs.Common.{ℕ, List, [], ◌∷◌, set, ap, ◌∙◌}
use Rattle.mf_elem.specs.declared.elem.Elem.{Elem}
use Rattle.mf_flow.specs.Listed.{rows_of}
use Rattle.mf_flow.proofs.SetRows.{kept_itself, no_row, rows_put}
use Rattle.mf_flow.proofs.set_list.SetList.clear.Goals as goal

pub returns : goal.returns
returns c =
    let known = c.self.inside.known in
    let sets : List (List ℕ) = c.self.inside.sets.items in
    ap (rows_of known) (c.put_at.ensures ∙ ap (set sets c.args.number) c.new.ensures)
    ∙ rows_put known known sets c.args.number (0 ∷ []) (kept_itself known c.self.invariant.numbered) c.self.invariant
    ∙ ap (set (rows_of known sets) c.args.number) (no_row known)
    ∙ ap (λ (rows : List (List Elem)). set rows c.args.number []) c.self.view_is
