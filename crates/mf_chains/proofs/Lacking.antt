-- That a party lacks nothing of what another holds.
use Rattle.std.proofs.Common.{◌≡◌, ℕ, zero, suc, ◌<◌, ◌≤◌, ◌+◌, List, [], ◌∷◌, length, drop, get_or, map, refl, ap, sym, ◌∙◌, arith}
use Rattle.std.proofs.lemmas.List.{drop_all, length-map}
use Rattle.std.proofs.Math.Seq.{drop-cons}
use Rattle.std.specs.declared.cmp.Ordering.{Ordering}
use Rattle.std.specs.declared.cmp.Ordering.TheVariants.{Less, Equal, Greater}
use Rattle.mf_flow.specs.Order.{elem_cmp}
use Rattle.mf_chains.specs.declared.chain.Step.{Step}
use Rattle.mf_chains.specs.declared.chain.Chain.{Chain}
use Rattle.mf_chains.specs.declared.marks.Mark.{Mark}
use Rattle.mf_chains.specs.Kept.{Kept, stepped, with_lacking}
use Rattle.mf_chains.specs.Marks.{kept_in, kept_of, order_from}
use Rattle.mf_chains.proofs.Joining.{from_cons, lacking_nothing, mine_from, next_equal, next_less, theirs_from}

-- what another hands on with a step
abbrev theirs_of : List Chain → List Mark → Step → List Kept
theirs_of chains given step = map (stepped step) (kept_in chains given)

-- Where nothing is lacking from these places on, nothing is lacking at all.
pub record IsWalked (set given : List Mark) (m n : ℕ) : Type 0 where
  pub mine : m ≤ length set
  pub theirs : n ≤ length given
  pub rest : (chains : List Chain) (step : Step)
      → with_lacking (drop m (kept_in chains set)) (drop n (map (stepped step) (kept_in chains given))) ≡ drop m (kept_in chains set)
      → with_lacking (kept_in chains set) (map (stepped step) (kept_in chains given)) ≡ kept_in chains set

pub walked_none : (set given : List Mark) → IsWalked set given 0 0
walked_none set given = record { mine = omega arith; theirs = omega arith; rest = λ chains step same. same }

-- the set isn't at its end
pub is_at_one : (set : List Mark) (m : ℕ) (y : Mark) (o : Ordering) → order_from (drop m set) y ≡ o → (o ≡ Greater → ⊥) → m < length set
is_at_one set m y o is other = one set m is
  where
    one : (xs : List Mark) (k : ℕ) → order_from (drop k xs) y ≡ o → k < length xs
    one [] zero none = absurd (other (sym none))
    one [] (suc k) none = absurd (other (sym none))
    one (x ∷ xs) zero some = omega arith
    one (x ∷ xs) (suc k) some = omega (arith, one xs k some)

module _ (set given : List Mark) (m n : ℕ) (y e : Mark) (mine : m < length set) (theirs : n < length given) (y_is : y ≡ get_or given n e)
    (so_far : IsWalked set given m n) where
  -- the next of the set
  abbrev x : Mark
  x = get_or set m y

  compared : order_from (drop m set) y ≡ elem_cmp x.element y.element
  compared = ap (λ (xs : List Mark). order_from xs y) (from_cons set m x y mine refl)

  -- the next of both
  heads : (chains : List Chain) (step : Step)
      → with_lacking (drop m (kept_in chains set)) (drop n (theirs_of chains given step))
      ≡ with_lacking (kept_of chains x ∷ drop (m + 1) (kept_in chains set)) (stepped step (kept_of chains y) ∷ drop (n + 1) (theirs_of chains given step))
  heads chains step =
      ap (λ (ks : List Kept). with_lacking ks (drop n (theirs_of chains given step))) (mine_from chains set given step m x y mine refl)
      ∙ ap (with_lacking (kept_of chains x ∷ drop (m + 1) (kept_in chains set))) (theirs_from chains set given step n y e theirs y_is)

  pub walked_less : order_from (drop m set) y ≡ Less → IsWalked set given (m + 1) n
  walked_less less =
      record {
        mine = omega (arith, mine);
        theirs = so_far.theirs;
        rest = λ chains step same. so_far.rest chains step
            (heads chains step
            ∙ next_less (kept_of chains x) (drop (m + 1) (kept_in chains set)) (stepped step (kept_of chains y)) (drop (n + 1) (theirs_of chains given step)) (sym compared ∙ less)
            ∙ ap (λ (ks : List Kept). kept_of chains x ∷ with_lacking (drop (m + 1) (kept_in chains set)) ks) (sym (theirs_from chains set given step n y e theirs y_is))
            ∙ ap (λ (ks : List Kept). kept_of chains x ∷ ks) same ∙ sym (mine_from chains set given step m x y mine refl));
      }

  pub walked_equal : order_from (drop m set) y ≡ Equal → IsWalked set given (m + 1) (n + 1)
  walked_equal equal =
      record {
        mine = omega (arith, mine);
        theirs = omega (arith, theirs);
        rest = λ chains step same. so_far.rest chains step
            (heads chains step
            ∙ next_equal (kept_of chains x) (drop (m + 1) (kept_in chains set)) (stepped step (kept_of chains y)) (drop (n + 1) (theirs_of chains given step)) (sym compared ∙ equal)
            ∙ ap (λ (ks : List Kept). kept_of chains x ∷ ks) same ∙ sym (mine_from chains set given step m x y mine refl));
      }

-- at the end of what is handed on, nothing was lacking
pub walked_all : (set given : List Mark) (m n : ℕ) → length given ≤ n → IsWalked set given m n → (chains : List Chain) (step : Step)
    → with_lacking (kept_in chains set) (map (stepped step) (kept_in chains given)) ≡ kept_in chains set
walked_all set given m n over walked chains step =
    walked.rest chains step
    (ap (with_lacking (drop m (kept_in chains set)))
    (drop_all n (theirs_of chains given step) (omega (arith, over, length-map (kept_in chains given) (stepped step), length-map given (kept_of chains))))
    ∙ lacking_nothing (drop m (kept_in chains set)))
