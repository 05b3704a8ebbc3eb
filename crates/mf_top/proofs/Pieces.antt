-- Pieces of a text, one after another.
use Rattle.std.proofs.Common.{◌≡◌, ℕ, ◌+◌, ◌≤◌, List, ◌++◌, length, take, drop, Option, Some, None, sym, ◌∙◌, ap, subst, arith, append_assoc, length-take}
use Rattle.std.proofs.lemmas.List.{take-append-drop}
use Rattle.std.proofs.Math.Seq.{take-append-add}
use Rattle.mf_io.specs.Outside.{Took}

pub take_on : (d n : ℕ) (text : List ℕ) → d ≤ length text → take (d + n) text ≡ take d text ++ take n (drop d text)
take_on d n text le =
    let front : length (take d text) ≡ d = omega (arith, length-take d text) in
    let whole = take-append-drop d text in
    let e = take-append-add (take d text) (drop d text) n in
    sym (ap (λ k. take (k + n) text) front) ∙ (sym (ap (take (length (take d text) + n)) whole) ∙ e)

pub took_on : (before mid now : Option (List ℕ)) (d n : ℕ) (text : List ℕ) → d ≤ length text
    → Took before mid (take d text) → Took mid now (take n (drop d text)) → Took before now (take (d + n) text)
took_on None mid now d n text le first next =
    let P : Option (List ℕ) → Type 0 = λ m. Took m now (take n (drop d text)) in
    subst P first next
took_on (Some all) None now d n text le first next =
    let P : Option (List ℕ) → Type 0 = λ m. Took (Some all) m (take (d + n) text) in
    subst P (sym next) tt
took_on (Some all) (Some more) None d n text le first next = tt
took_on (Some all) (Some more) (Some most) d n text le first next =
    next ∙ (ap (λ m. m ++ take n (drop d text)) first
    ∙ (append_assoc all (take d text) (take n (drop d text)) ∙ ap (λ piece. all ++ piece) (sym (take_on d n text le))))
