use Rattle.std.proofs.Common.{◌≡◌, ◌++◌, ℕ, List, None, ap, sym, ◌∙◌, arith, append_assoc, append-nil}
use Rattle.std.specs.List.{flat_map, range_with_len}
use Rattle.mf_chains.specs.declared.happening.Occurrence.{Occurrence}
use Rattle.mf_chains.specs.Happenings.{coming_at}
use Rattle.mf_chains.proofs.Telling.{flat_range_more}
use Rattle.mf_chains.proofs.happened.push_opening.Goals as goal

pub loop-number-init : goal.loop-number-init
loop-number-init c = sym (append-nil c.args.past.now)

pub loop-number-preserved : goal.loop-number-preserved
loop-number-preserved c =
    let come : ℕ → List Occurrence = coming_at c.args.registration.now c.args.objects.now 0 None in
    c.in_ok-push_coming.ensures ∙ ap (λ (xs : List Occurrence). xs ++ come c.loop-number.number) c.loop-number.invariant
    ∙ append_assoc c.args.past.now (flat_map come (range_with_len 0 c.loop-number.number)) (come c.loop-number.number)
    ∙ ap (λ (xs : List Occurrence). c.args.past.now ++ xs) (sym (flat_range_more come c.loop-number.number))

pub returns : goal.returns
returns c =
    let all : c.loop-number.number ≡ c.args.objects.now.next = omega (arith, c.next_id-number-end.ensures, c.loop-number-test.false) in
    c.loop-number.invariant
    ∙ ap (λ (n : ℕ). c.args.past.now ++ flat_map (coming_at c.args.registration.now c.args.objects.now 0 None) (range_with_len 0 n)) all
