-- No word for an element begins with a digit.
use Rattle.std.proofs.Common.{◌≡◌, IsTrue, ℕ, Bool, ◌≤◌, true, false, List, [], ◌∷◌, Some, refl, arith}
use Rattle.std.specs.Bool.{MatchBool}
use Rattle.std.specs.Char.{IsAsciiDigit, IsNotAsciiDigit}
use Rattle.std.specs.List.{slice_get}
use Rattle.std.specs.Str.{bytes_eq}
use Rattle.mf_labeltext.specs.Reading.{elem_in, grade_in}
use Rattle.mf_labeltext.proofs.Requests.{differs}

-- texts that begin otherwise are not the same
begins_otherwise : (c d : ℕ) (cs ds : List ℕ) → c ≤ 57 → 58 ≤ d → bytes_eq (c ∷ cs) (d ∷ ds) ≡ false
begins_otherwise c d cs ds small great = differs (c ∷ cs) (d ∷ ds) (λ same. let e : c ≡ d = cc in omega arith)

no_word : (c : ℕ) (cs : List ℕ) → c ≤ 57 → elem_in (c ∷ cs) ≡ grade_in (c ∷ cs)
unfolding elem_in
no_word c cs small =
    rw (
      begins_otherwise c 108 cs (111 ∷ 119 ∷ []) small (omega arith),
      begins_otherwise c 108 cs (111 ∷ []) small (omega arith),
      begins_otherwise c 104 cs (105 ∷ 103 ∷ 104 ∷ []) small (omega arith),
      begins_otherwise c 104 cs (105 ∷ []) small (omega arith),
      begins_otherwise c 101 cs (113 ∷ 117 ∷ 97 ∷ 108 ∷ []) small (omega arith),
      begins_otherwise c 101 cs (113 ∷ []) small (omega arith),
    ) refl

pub elem_of_digit : (text : List ℕ) (c : ℕ) → slice_get text 0 ≡ Some c → c ≤ 57 → elem_in text ≡ grade_in text
elem_of_digit [] c is small = absurd cc
elem_of_digit (d ∷ ds) c is small = let e : d ≡ c = cc in no_word d ds (omega arith)

pub digit_at_most : (b : Bool) (c : ℕ) → MatchBool b (IsAsciiDigit c) (IsNotAsciiDigit c) → IsTrue b → c ≤ 57
digit_at_most true c cases is = cases.1
digit_at_most false c cases is = absurd cc
