-- Union with nothing, and folding one by one.
use Rattle.std.proofs.Common.{◌≡◌, ℕ, ◌+◌, ◌<◌, List, [], ◌∷◌, ◌++◌, length, take, get_or, refl, ap, sym, ◌∙◌}
use Rattle.std.specs.Prelude.{fold}
use Rattle.std.proofs.lemmas.List.{take_more}
use Rattle.std.proofs.lemmas.List.Sums.{fold-append}
use Rattle.mf_elem.specs.declared.elem.Elem.{Elem}
use Rattle.mf_flow.specs.Order.{union}

pub union_nothing : (set : List Elem) → union set [] ≡ set
union_nothing [] = refl
union_nothing (x ∷ set) = refl

-- one element more is folded
pub fold_more : {A B : Type 0} (f : B → A → B) (start before after : B) (xs : List A) (n : ℕ) (x d : A) → n < length xs → before ≡ fold f start (take n xs) → after ≡ f before x
    → x ≡ get_or xs n d → after ≡ fold f start (take (n + 1) xs)
fold_more {A} {B} f start before after xs n x d within so_far next is =
    next ∙ ap (λ (b : B). f b x) so_far
    ∙ sym (fold-append f start (take n xs) (x ∷ []))
    ∙ ap (fold f start) (ap (λ (y : A). take n xs ++ y ∷ []) is ∙ sym (take_more xs n d within))
