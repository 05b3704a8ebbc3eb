use Rattle.std.proofs.Common.{◌≡◌, ℕ, List, [], ◌∷◌, get_or, ◌∙◌, arith}
use Rattle.std.proofs.lemmas.List.{get_or_default}
use Rattle.mf_flow.proofs.SetRows.{all_there_rows, none_from}
use Rattle.mf_flow.proofs.set_list.SetList.has_all.Goals as goal

pub returns-then-from-len : goal.returns-then-from-len
returns-then-from-len c = λ _.
    none_from c.self.inside.known c.self.inside.sets.items c.args.self.now c.args.to c.args.from c.self.invariant.numbered c.self.view_is
    (omega (arith, c.if-from-len.true, c.len-2.ensures, c.self.inside.sets.ok.0))

pub returns : goal.returns
returns c = λ all.
    let sets : List (List ℕ) = c.self.inside.sets.items in
    let mine : List ℕ = c.index.result.now in
    let theirs : List ℕ = c.index-2.result.now in
    let mine_is : mine ≡ get_or sets c.args.to (0 ∷ []) =
    c.index.ensures ∙ get_or_default sets c.args.to mine (0 ∷ []) (omega (arith, c.if-to-len.false, c.len.ensures, c.self.inside.sets.ok.0)) in
    let theirs_is : theirs ≡ get_or sets c.args.from (0 ∷ []) =
    c.index-2.ensures ∙ get_or_default sets c.args.from theirs (0 ∷ []) (omega (arith, c.if-from-len.false, c.len-2.ensures, c.self.inside.sets.ok.0)) in
    all_there_rows c.self.inside.known sets c.args.self.now c.args.to c.args.from mine theirs c.self.invariant.numbered c.self.view_is mine_is theirs_is (c.has_all.ensures.0 all)
