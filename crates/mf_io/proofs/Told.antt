-- What a sink tells after a piece.
use Rattle.std.proofs.Common.{◌≡◌, ℕ, ◌+◌, ◌≤◌, ◌<◌, Bool, true, false, List, ◌++◌, length, Option, Some, None, if◌then◌else◌, sym, ◌∙◌, ap, arith, length-append}
use Rattle.std.proofs.lemmas.Bool.Decides.{nat_tests}
use Rattle.mf_io.specs.Sure.{SureStore}
use Rattle.mf_io.specs.SureCalls.{told_within, told_after, stored}

abbrev pub told : Bool → List ℕ → Option (List ℕ)
told tells bytes = if tells then Some bytes else None

within : (room : ℕ) (bytes : List ℕ) → length bytes ≤ room → told_within room bytes ≡ Some bytes
within room bytes fits = grind (arith, nat_tests)

past : (room : ℕ) (bytes : List ℕ) → room < length bytes → told_within room bytes ≡ None
past room bytes more = grind (arith, nat_tests)

pub after_fit : (s : SureStore) (bytes piece after : List ℕ) (room : ℕ) (tells : Bool) → record { taken = told tells bytes; room = room } ≡ s
    → tells ≡ true → after ≡ bytes ++ piece → length bytes + length piece ≤ room
    → record { taken = told tells after; room = room } ≡ stored s piece
after_fit s bytes piece after room tells view tells_is longer fits =
    let le : length (bytes ++ piece) ≤ room = omega (arith, length-append bytes piece, fits) in
    let some : told tells after ≡ told_after room (told tells bytes) piece =
    ap (λ t. told t after) tells_is ∙ (ap Some longer ∙ (sym (within room (bytes ++ piece) le) ∙ sym (ap (λ t. told_after room (told t bytes) piece) tells_is))) in
    ap (λ (t : Option (List ℕ)). record { taken = t; room = room }) some ∙ ap (λ (x : SureStore). stored x piece) view

pub after_past : (s : SureStore) (bytes piece : List ℕ) (room : ℕ) (tells : Bool) → record { taken = told tells bytes; room = room } ≡ s
    → tells ≡ true → room < length bytes + length piece → record { taken = None; room = room } ≡ stored s piece
after_past s bytes piece room tells view tells_is more =
    let lt : room < length (bytes ++ piece) = omega (arith, length-append bytes piece, more) in
    let none : None ≡ told_after room (told tells bytes) piece =
    sym (past room (bytes ++ piece) lt) ∙ sym (ap (λ t. told_after room (told t bytes) piece) tells_is) in
    ap (λ (t : Option (List ℕ)). record { taken = t; room = room }) none ∙ ap (λ (x : SureStore). stored x piece) view

pub after_none : (s : SureStore) (bytes piece : List ℕ) (room : ℕ) (tells : Bool) → record { taken = told tells bytes; room = room } ≡ s
    → tells ≡ false → record { taken = None; room = room } ≡ stored s piece
after_none s bytes piece room tells view no_more =
    let none : None ≡ told_after room (told tells bytes) piece = sym (ap (λ t. told_after room (told t bytes) piece) no_more) in
    ap (λ (t : Option (List ℕ)). record { taken = t; room = room }) none ∙ ap (λ (x : SureStore). stored x piece) view
