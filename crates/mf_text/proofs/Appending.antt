-- A text that was only appended to can be cut back.
use Rattle.std.proofs.Common.{◌++◌, List, ◌≡◌, ℕ, ◌≤◌, length, take, sym, ◌∙◌, ap, subst, arith, rules, String, string_bytes, string_len, Result, Ok, Err, true, OnErr}
use Rattle.std.proofs.lemmas.Str.{IsUtf8-string_bytes, IsCharBoundary-from_take}
use Rattle.std.proofs.lemmas.List.{length-take, take-take, take-append-le, take_all}
use Rattle.std.specs.Result.{is_err}
use Rattle.std.specs.Str.{IsUtf8}
use Rattle.std.specs.String.Boundary.{IsSplitPoint}
use Rattle.mf_text.specs.Appending.{Extends}

counted : {Z : Type 0} (text : String Z) → length (string_bytes text) ≡ string_len text
counted text = search rules

-- the end of what was there before is a place where the text may be cut
seam : {Z : Type 0} (front text : String Z) (n : ℕ) → n ≡ string_len front → n ≤ string_len text → Extends (string_bytes front) (string_bytes text) → IsSplitPoint (string_bytes text) n
seam front text n is within extends =
    let end : n ≡ length (string_bytes front) = is ∙ sym (counted front) in
    let inside : n ≤ length (string_bytes text) = omega (arith, counted text) in
    let cut : IsUtf8 (take n (string_bytes text)) = subst IsUtf8 (sym (ap (λ n. take n (string_bytes text)) end ∙ extends)) (IsUtf8-string_bytes front) in
    (inside, λ some. (IsCharBoundary-from_take (string_bytes text) n (IsUtf8-string_bytes text) inside cut).1)

-- so an appending that failed can be undone
pub can_be_undone : {Z A E : Type 0} (front text : String Z) (n : ℕ) (appended : Result A E) → n ≡ string_len front → true ≡ is_err appended → OnErr appended (Extends (string_bytes front) (string_bytes text))
    → n ≤ string_len text → IsSplitPoint (string_bytes text) n
can_be_undone front text n (Ok done) is failed extends within = absurd cc
can_be_undone front text n (Err error) is failed extends within = seam front text n is within extends

-- a text extends what its beginning extends
extends_through : (front middle text : List ℕ) → Extends front middle → Extends middle text → Extends front text
extends_through front middle text one other =
    let within : length front ≤ length middle = omega (arith, length-take (length front) middle, ap length one) in
    sym (take-take (length front) (length middle) text within) ∙ ap (take (length front)) other ∙ one

append_extends : (front more : List ℕ) → Extends front (front ++ more)
append_extends front more = take-append-le (length front) front more (omega arith) ∙ take_all (length front) front (omega arith)

-- what was appended behind more that is there already leaves the front too
pub extends_behind : (front more middle text : List ℕ) → middle ≡ front ++ more → Extends middle text → Extends front text
extends_behind front more middle text is extends = extends_through front middle text (subst (Extends front) (sym is) (append_extends front more)) extends

-- the same where the appending may have failed
pub fails_behind : {A E : Type 0} (front more middle text : List ℕ) (appended : Result A E) → middle ≡ front ++ more → OnErr appended (Extends middle text) → OnErr appended (Extends front text)
fails_behind front more middle text (Ok done) is extends = tt
fails_behind front more middle text (Err error) is extends = extends_behind front more middle text is extends

pub on_err : {A E P : Type 0} (appended : Result A E) → P → OnErr appended P
on_err (Ok done) proof = tt
on_err (Err error) proof = proof
