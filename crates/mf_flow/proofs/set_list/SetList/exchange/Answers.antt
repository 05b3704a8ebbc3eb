use Rattle.std.proofs.Common.{◌≡◌, ℕ, List, Some, length, sym, subst, ap, ◌∙◌}
use Rattle.std.proofs.lemmas.Result.{on_ok_weaker}
use Rattle.mf_flow.specs.Listed.{AreSets, IsJoinedBy, IsWithin, words_at}
use Rattle.mf_flow.proofs.SetRows.{either_way, exchange_rows, joined_sets, sets_joined, words_within}
use Rattle.mf_flow.proofs.set_list.SetList.exchange.Goals as goal

pub invariant_of-self-2 : goal.invariant_of-self-2
invariant_of-self-2 c =
    let known = c.self.inside.known in
    let sets : List (List ℕ) = c.self.inside.sets.items in
    let mid : List (List ℕ) = c.join_at.new.sets.items in
    let mine : List ℕ = c.in_ok-mine.mine in
    let theirs : List ℕ = c.in_ok-theirs.theirs in
    let mine_is : mine ≡ words_at sets (Some c.args.one) = c.in_ok-mine.ensures ∙ ap (λ (ss : List (List ℕ)). words_at ss (Some c.args.one)) c.as_slice.ensures.value in
    let theirs_is : theirs ≡ words_at sets (Some c.args.other) = c.in_ok-theirs.ensures ∙ ap (λ (ss : List (List ℕ)). words_at ss (Some c.args.other)) c.as_slice-2.ensures.value in
    let first : AreSets known mid = joined_sets known sets mid theirs (Some c.args.other) c.args.one c.self.invariant theirs_is c.in_ok-join_at.ensures.ok in
    either_way c.join_at-2.result (IsJoinedBy mine c.args.other mid c.join_at-2.new.sets.items) (c.join_at-2.new.sets.items ≡ mid) (AreSets known c.join_at-2.new.sets.items)
    c.join_at-2.ensures.ok c.join_at-2.ensures.err
    (λ joined. sets_joined known mid c.join_at-2.new.sets.items c.args.other mine first
    (subst (IsWithin (length known)) (sym mine_is) (words_within (length known) sets (Some c.args.one) c.self.invariant.within)) joined)
    (λ same. subst (AreSets known) (sym same) first)

pub returns : goal.returns
returns c =
    let known = c.self.inside.known in
    let sets : List (List ℕ) = c.self.inside.sets.items in
    let mid : List (List ℕ) = c.join_at.new.sets.items in
    let mine : List ℕ = c.in_ok-mine.mine in
    let theirs : List ℕ = c.in_ok-theirs.theirs in
    let mine_is : mine ≡ words_at sets (Some c.args.one) = c.in_ok-mine.ensures ∙ ap (λ (ss : List (List ℕ)). words_at ss (Some c.args.one)) c.as_slice.ensures.value in
    let theirs_is : theirs ≡ words_at sets (Some c.args.other) = c.in_ok-theirs.ensures ∙ ap (λ (ss : List (List ℕ)). words_at ss (Some c.args.other)) c.as_slice-2.ensures.value in
    on_ok_weaker c.join_at-2.result
    (λ (joined : IsJoinedBy mine c.args.other mid c.join_at-2.new.sets.items).
    exchange_rows known sets mid c.join_at-2.new.sets.items c.args.self.now mine theirs c.args.one c.args.other c.self.invariant.numbered c.self.view_is mine_is theirs_is
    c.in_ok-join_at.ensures.ok joined) c.join_at-2.ensures.ok
