-- The lines in front of a text: where they fail, the text fails.
use Rattle.std.proofs.Common.{◌≡◌, ℕ, zero, suc, ◌-◌, ◌≤◌, Bool, true, false, ◌==◌, if◌then◌else◌, List, [], ◌∷◌, take, refl, ap, sym, ◌∙◌, arith}
use Rattle.std.proofs.lemmas.List.{take-take}
use Rattle.std.specs.List.{concat, onto_first}
use Rattle.std.specs.Str.{byte}
use Rattle.mf_calls.specs.declared.script.Script.{Script}
use Rattle.mf_verdict.specs.Pieces.{pieces}
use Rattle.mf_verdict.specs.Verdict.{IsFirstWrong, TextBegins}

take_none : (n : ℕ) (lines : List (List ℕ)) → lines ≡ [] → take n lines ≡ []
take_none zero lines is = refl
take_none (suc n) [] is = refl
take_none (suc n) (line ∷ lines) is = absurd (cc)

-- they are the lines of a text of their own
pub front_pieces : (n : ℕ) (text : List ℕ) → pieces (concat (take n (pieces text))) ≡ take n (pieces text)
front_pieces zero text = refl
front_pieces (suc n) [] = refl
front_pieces (suc n) (b ∷ bs) = by_test (b == byte "\n") refl (front_pieces n bs) (front_pieces (suc n) bs) where
  by_lines : (lines : List (List ℕ)) → (b == byte "\n") ≡ false → pieces (concat (take (suc n) lines)) ≡ take (suc n) lines
      → pieces (concat (take (suc n) (onto_first b lines))) ≡ take (suc n) (onto_first b lines)
  by_lines [] other more = rw (take_none n [] refl) (rw other refl)
  by_lines (line ∷ lines) other more = rw other (ap (onto_first b) more)

  by_test : (t : Bool) → (b == byte "\n") ≡ t → pieces (concat (take n (pieces bs))) ≡ take n (pieces bs)
      → pieces (concat (take (suc n) (pieces bs))) ≡ take (suc n) (pieces bs)
      → pieces (concat (take (suc n) (if t then (b ∷ []) ∷ pieces bs else onto_first b (pieces bs)))) ≡ take (suc n) (if t then (b ∷ []) ∷ pieces bs else onto_first b (pieces bs))
  by_test true is fewer more = rw is (ap (λ (lines : List (List ℕ)). (b ∷ []) ∷ lines) fewer)
  by_test false is fewer more = by_lines (pieces bs) is more

module _ (s : Script) (text front : List ℕ) (count : ℕ) (is : front ≡ concat (take count (pieces text))) where
  same : (m : ℕ) → m ≤ count → take m (pieces front) ≡ take m (pieces text)
  same m within =
      ap (λ (t : List ℕ). take m (pieces t)) is ∙ ap (take m) (front_pieces count text) ∙ take-take m count (pieces text) within

  begins : (m : ℕ) → m ≤ count → TextBegins s (pieces front) m → TextBegins s (pieces text) m
  begins m within front = (front.0, front.1, sym (same m within) ∙ front.2)

  also : (m : ℕ) → m ≤ count → TextBegins s (pieces text) m → TextBegins s (pieces front) m
  also m within text = (text.0, text.1, same m within ∙ text.2)

  pub wrong_with_rest : (line : ℕ) → line ≤ count → IsFirstWrong s (pieces front) line → IsFirstWrong s (pieces text) line
  wrong_with_rest line within wrong =
      let before : line - 1 ≤ count = omega (arith, within) in
      (wrong.0, begins (line - 1) before wrong.1, λ longer. wrong.2 (also line within longer))
