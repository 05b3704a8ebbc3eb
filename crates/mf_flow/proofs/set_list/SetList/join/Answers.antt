use Rattle.std.proofs.Common.{◌≡◌, ℕ, List, Some, sym, subst, ap, ◌∙◌}
use Rattle.std.proofs.lemmas.Result.{on_ok_weaker}
use Rattle.mf_flow.specs.Listed.{AreSets, IsJoinedBy, words_at}
use Rattle.mf_flow.proofs.SetRows.{either_way, join_rows, joined_sets}
use Rattle.mf_flow.proofs.set_list.SetList.join.Goals as goal

pub invariant_of-self : goal.invariant_of-self
invariant_of-self c =
    let known = c.self.inside.known in
    let sets : List (List ℕ) = c.self.inside.sets.items in
    let given : List ℕ = c.in_ok-given.given in
    let is : given ≡ words_at sets (Some c.args.from) = c.in_ok-given.ensures ∙ ap (λ (ss : List (List ℕ)). words_at ss (Some c.args.from)) c.as_slice.ensures.value in
    either_way c.join_at.result (IsJoinedBy given c.args.to sets c.join_at.new.sets.items) (c.join_at.new.sets.items ≡ sets) (AreSets known c.join_at.new.sets.items) c.join_at.ensures.ok c.join_at.ensures.err
    (λ joined. joined_sets known sets c.join_at.new.sets.items given (Some c.args.from) c.args.to c.self.invariant is joined)
    (λ same. subst (AreSets known) (sym same) c.self.invariant)

pub returns : goal.returns
returns c =
    let known = c.self.inside.known in
    let sets : List (List ℕ) = c.self.inside.sets.items in
    let given : List ℕ = c.in_ok-given.given in
    let is : given ≡ words_at sets (Some c.args.from) = c.in_ok-given.ensures ∙ ap (λ (ss : List (List ℕ)). words_at ss (Some c.args.from)) c.as_slice.ensures.value in
    on_ok_weaker c.join_at.result
    (λ (joined : IsJoinedBy given c.args.to sets c.join_at.new.sets.items).
    join_rows known sets c.join_at.new.sets.items c.args.self.now given c.args.to c.args.from c.self.invariant.numbered c.self.view_is is joined) c.join_at.ensures.ok
