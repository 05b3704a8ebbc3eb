-- A header is split in one way.
use Rattle.std.proofs.Common.{◌≡◌, ℕ, ◌≤◌, ◌<◌, List, ◌∷◌, ◌++◌, length, take, refl, ap, sym, ◌∙◌, arith, append_assoc, length-append}
use Rattle.std.proofs.lemmas.Fmt.{decimal_injective}
use Rattle.std.proofs.lemmas.List.{append_cancel_left, take_at}
use Rattle.std.specs.Prelude.{codes}
use Rattle.std.specs.Fmt.{decimal}
use Rattle.std.specs.Str.{byte}
use Rattle.mf_names.specs.declared.limits.TheConstants.{SCRIPT_LIMIT}
use Rattle.mf_verdict.specs.Header.{IsCheckInput}
use Rattle.mf_hist.proofs.Words.{first_cut}
use Rattle.mf_verdict.proofs.Newlines.{decimal_lacks}

-- an input by its parts, from the front on
pub input_parts : (n : ℕ) (script text : List ℕ) → codes "script " ++ decimal n ++ codes "\n" ++ script ++ text ≡ codes "script " ++ (decimal n ++ byte "\n" ∷ (script ++ text))
input_parts n script text = simp append_assoc

pub behind_word : (bytes behind script text : List ℕ) → bytes ≡ codes "script " ++ behind → IsCheckInput bytes script text → behind ≡ decimal (length script) ++ byte "\n" ∷ (script ++ text)
behind_word bytes behind script text is input =
    append_cancel_left (codes "script ") behind (decimal (length script) ++ byte "\n" ∷ (script ++ text)) (sym is ∙ input.split ∙ input_parts (length script) script text)

-- two numbers in front of one text
pub one_number : (n m : ℕ) (rest other : List ℕ) → n ≤ SCRIPT_LIMIT → m ≤ SCRIPT_LIMIT → decimal n ++ byte "\n" ∷ rest ≡ decimal m ++ byte "\n" ∷ other → (n ≡ m) × (rest ≡ other)
one_number n m rest other ln lm e =
    let cut = first_cut (decimal n) (decimal m) rest other (byte "\n") (decimal_lacks n (omega (arith, ln))) (decimal_lacks m (omega (arith, lm))) e in
    (decimal_injective n m (omega (arith, ln)) (omega (arith, lm)) cut.0, cut.1)

pub input_of : (bytes behind rest script text : List ℕ) (n : ℕ) → bytes ≡ codes "script " ++ behind → n ≤ SCRIPT_LIMIT → behind ≡ decimal n ++ byte "\n" ∷ rest
    → rest ≡ script ++ text → length script ≡ n → IsCheckInput bytes script text
input_of bytes behind rest script text n is within number parts len = record {
  split = is ∙ ap (λ (b : List ℕ). codes "script " ++ b) (number ∙ ap (λ (r : List ℕ). decimal n ++ byte "\n" ∷ r) parts)
      ∙ ap (λ (k : ℕ). codes "script " ++ (decimal k ++ byte "\n" ∷ (script ++ text))) (sym len) ∙ sym (input_parts (length script) script text);
  within = omega (arith, len, within);
}

pub too_short : (bytes behind rest script text : List ℕ) (n : ℕ) → bytes ≡ codes "script " ++ behind → n ≤ SCRIPT_LIMIT → behind ≡ decimal n ++ byte "\n" ∷ rest
    → length rest < n → IsCheckInput bytes script text → ⊥
too_short bytes behind rest script text n is within number short input =
    let cut = one_number n (length script) rest (script ++ text) within input.within (sym number ∙ behind_word bytes behind script text is input) in
    omega (arith, cut.0, ap length cut.1, length-append script text)

pub one_split : (bytes script text others other : List ℕ) → IsCheckInput bytes script text → IsCheckInput bytes others other → (script ≡ others) × (text ≡ other)
one_split bytes script text others other a b =
    let behind = decimal (length script) ++ byte "\n" ∷ (script ++ text) in
    let is : bytes ≡ codes "script " ++ behind = a.split ∙ input_parts (length script) script text in
    let cut = one_number (length script) (length others) (script ++ text) (others ++ other) a.within b.within (behind_word bytes behind others other is b) in
    let same : script ≡ others = sym (take_at script text (length script) refl) ∙ ap (take (length script)) cut.1 ∙ take_at others other (length script) (sym cut.0) in
    (same, append_cancel_left others text other (ap (λ (s : List ℕ). s ++ text) (sym same) ∙ cut.1))
