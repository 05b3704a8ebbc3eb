-- What stands in the static list and in the dynamic one.
use Rattle.std.proofs.Common.{◌≡◌, Bool, true, false, cond, List, [], ◌∷◌, ◌++◌, refl, ap, sym, ◌∙◌}
use Rattle.std.specs.Prelude.{All}
use Rattle.std.proofs.lemmas.List.Elements.{All-head, All-tail, filter-append}
use Rattle.std.proofs.lemmas.List.{append-nil}
use Rattle.mf_policy.specs.Registration.{Entry}
use Rattle.mf_list.specs.Lists.{IsPinned, MayLeave}
use Rattle.mf_core.specs.Policies.{static_among}

-- Those of the static list are the static ones

all_static : (fixed : List Entry) → All IsPinned fixed → static_among fixed ≡ fixed
all_static [] pinned = refl
all_static (x ∷ xs) pinned =
    let here : x.0.fixed ≡ true = (All-head IsPinned x xs pinned).0 in
    ap (λ (b : Bool). cond b (x ∷ static_among xs) (static_among xs)) here ∙ ap (λ (es : List Entry). x ∷ es) (all_static xs (All-tail IsPinned x xs pinned))

none_static : (list : List Entry) → All MayLeave list → static_among list ≡ []
none_static [] leaving = refl
none_static (x ∷ xs) leaving =
    let here : x.0.fixed ≡ false = (All-head MayLeave x xs leaving).0 in
    ap (λ (b : Bool). cond b (x ∷ static_among xs) (static_among xs)) here ∙ none_static xs (All-tail MayLeave x xs leaving)

pub static_apart : (specs fixed list : List Entry) → fixed ++ list ≡ specs → All IsPinned fixed → All MayLeave list → fixed ≡ static_among specs
static_apart specs fixed list listed pinned leaving =
    sym (ap static_among (sym listed)
    ∙ filter-append (λ (e : Entry). e.0.fixed) fixed list
    ∙ ap (λ (es : List Entry). es ++ static_among list) (all_static fixed pinned)
    ∙ ap (λ (es : List Entry). fixed ++ es) (none_static list leaving)
    ∙ append-nil fixed)
