-- Bytes that go from the front of a list to the front of a buffer.
use Rattle.std.proofs.Common.{◌≡◌, ℕ, ◌+◌, ◌-◌, ◌≤◌, List, [], ◌∷◌, ◌++◌, length, take, drop, min, Some, refl, sym, ◌∙◌, ap, subst, arith, length-take, length-drop}
use Rattle.std.proofs.lemmas.List.{take-append-drop, drop-drop}
use Rattle.std.proofs.Math.Seq.{take-append_seam, take-length}
use Rattle.mf_io.specs.Causes.{Gave}

none_long : (left : List ℕ) → length left ≡ 0 → left ≡ []
none_long [] e = refl
none_long (b ∷ left) e = absurd (omega (arith, e))

take_front : (n : ℕ) (left rest : List ℕ) → n ≤ length left → take n (take n left ++ rest) ≡ take n left
take_front n left rest le =
    let e : length (take n left) ≡ n = omega (arith, length-take n left) in
    sym (ap (λ k. take k (take n left ++ rest)) e) ∙ take-append_seam (take n left) rest

pub gave_front : (left rest buffer : List ℕ) (most n : ℕ) → 1 ≤ most → n ≡ min (min most (length buffer)) (length left) → rest ≡ drop n left
    → Gave (Some left) (Some rest) (length buffer) n (take n left ++ drop n buffer)
gave_front left rest buffer most n some count leaves = record {
  fits = omega arith;
  bytes =
      let fits : n ≤ length left = omega arith in
      sym (ap (λ k. k ++ rest) (take_front n left (drop n buffer) fits) ∙ (ap (λ r. take n left ++ r) leaves ∙ take-append-drop n left));
  last = λ room. (
    λ z. none_long left (omega (arith, room, z)),
    λ e. let z : length left ≡ 0 = ap length e in omega (arith, z),
  );
}

pub rest_whole : (d : ℕ) (text : List ℕ) → take (length text - d) (drop d text) ≡ drop d text
rest_whole d text =
    let n : length (drop d text) ≡ length text - d = length-drop d text in
    rw (← n) (take-length (drop d text))

-- the same where what is left stands behind a start
pub gave_from : (bytes lent : List ℕ) (start : ℕ) (left buffer after : List ℕ) (most limit n : ℕ)
    → drop start bytes ≡ left → lent ≡ bytes → limit ≡ most → 1 ≤ most
    → n ≡ min (min limit (length buffer)) (length (take (length lent - start) (drop start lent)))
    → after ≡ take n (take (length lent - start) (drop start lent)) ++ drop n buffer
    → Gave (Some left) (Some (drop (start + n) bytes)) (length buffer) n after
gave_from bytes lent start left buffer after most limit n from same limits some count copied =
    let front : take (length lent - start) (drop start lent) ≡ left = rest_whole start lent ∙ (ap (drop start) same ∙ from) in
    let leaves : drop (start + n) bytes ≡ drop n left = sym (drop-drop n start bytes) ∙ ap (drop n) from in
    let counts : n ≡ min (min most (length buffer)) (length left) =
    count ∙ (ap (λ xs. min (min limit (length buffer)) (length xs)) front ∙ ap (λ m. min (min m (length buffer)) (length left)) limits) in
    let copies : after ≡ take n left ++ drop n buffer = copied ∙ ap (λ xs. take n xs ++ drop n buffer) front in
    let Q : List ℕ → Type 0 = λ a. Gave (Some left) (Some (drop (start + n) bytes)) (length buffer) n a in
    subst Q (sym copies) (gave_front left (drop (start + n) bytes) buffer most n some counts leaves)
