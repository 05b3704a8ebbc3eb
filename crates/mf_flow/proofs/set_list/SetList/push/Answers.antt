use Rattle.std.proofs.Common.{◌≡◌, ℕ, List, [], ◌∷◌, ◌++◌, sym, subst, ap, ◌∙◌}
use Rattle.mf_elem.specs.declared.elem.Elem.{Elem}
use Rattle.mf_flow.specs.Order.{union}
use Rattle.mf_flow.specs.Sources.{held_by, own_source}
use Rattle.mf_flow.specs.Listed.{AreSets, has_bit, listed, row_numbered, rows_of, words_at}
use Rattle.mf_flow.proofs.SetRows.{row_at, rows_push, sets_kept, sets_push}
use Rattle.mf_flow.proofs.set_list.SetList.push.Goals as goal

pub invariant_of-self-in_err-push : goal.invariant_of-self-in_err-push
invariant_of-self-in_err-push c =
    subst (AreSets c.with_own.new.known) (sym c.in_err-push.ensures.items) (sets_kept c.self.inside.known c.with_own.new.known c.self.inside.sets.items c.with_own.ensures.kept c.self.invariant)

pub invariant_of-self-2 : goal.invariant_of-self-2
invariant_of-self-2 c =
    subst (AreSets c.with_own.new.known) (sym c.in_ok-push.ensures.items)
    (sets_push c.self.inside.known c.with_own.new.known c.self.inside.sets.items c.in_ok-set.set c.with_own.ensures.kept c.self.invariant c.in_ok-set.ensures.within)

pub returns : goal.returns
returns c =
    let known = c.self.inside.known in
    let new = c.with_own.new.known in
    let sets : List (List ℕ) = c.self.inside.sets.items in
    let inherited : List ℕ = c.in_ok-inherited.inherited in
    let is : inherited ≡ words_at sets c.args.maker = c.in_ok-inherited.ensures ∙ ap (λ (ss : List (List ℕ)). words_at ss c.args.maker) c.as_slice.ensures.value in
    let maker : listed (has_bit inherited) known ≡ row_numbered c.args.self.now c.args.maker =
    ap (λ (ws : List ℕ). listed (has_bit ws) known) is ∙ row_at known sets c.args.maker ∙ ap (λ (rows : List (List Elem)). row_numbered rows c.args.maker) c.self.view_is in
    ap (rows_of new) c.in_ok-push.ensures.items
    ∙ rows_push known new sets c.in_ok-set.set c.with_own.ensures.kept c.self.invariant
    ∙ ap (λ (row : List Elem). rows_of known sets ++ row ∷ []) (c.in_ok-set.ensures.ok ∙ ap (λ (row : List Elem). held_by c.args.own (union (own_source c.args.own) row)) maker)
    ∙ ap (λ (rows : List (List Elem)). rows ++ held_by c.args.own (union (own_source c.args.own) (row_numbered c.args.self.now c.args.maker)) ∷ []) c.self.view_is
