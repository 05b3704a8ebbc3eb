-- That the running selection over a list of answers is their composition.
use Rattle.std.proofs.Common.{◌<◌, length, take, get_or, ◌≡◌, ℕ, ◌+◌, Bool, true, false, cond, not, ◌&&◌, ◌||◌, List, [], ◌∷◌, ◌++◌, None, refl, ap, sym, ◌∙◌, arith, inl, inr, ◌⊎◌}
use Rattle.std.specs.List.{list_all, position}
use Rattle.std.proofs.lemmas.Grind.{common_steps}
use Rattle.std.proofs.lemmas.List.{take_more}
use Rattle.mf_errno.specs.declared.errno.Errno.{Errno}
use Rattle.mf_errno.specs.declared.errno.Errno.TheVariants.{Success}
use Rattle.mf_errno.specs.Same.{is_same}
use Rattle.mf_errno.specs.Selection.{precedence, first_standing}
use Rattle.mf_errno.proofs.Standing.{stands_in}
use Rattle.mf_errno.specs.OfTwo.{select}
use Rattle.mf_errno.proofs.Errors.{is_same-is, is_same-refl}
use Rattle.mf_compose.specs.Composition.{last_failure, composition, decider}

-- sameness of errors is an equality
same_itself : (e : Errno) → is_same e e ≡ true
same_itself e = is_same-refl e

same_as_both : (e f g : Errno) → is_same e f ≡ true → is_same e g ≡ is_same f g
same_as_both e f g same = rw (is_same-is e f same) refl

-- whether an error stands in a list with one more answer
stands_with_one_more : (e : Errno) (xs : List Errno) (x : Errno) → stands_in e (xs ++ x ∷ []) ≡ (stands_in e xs || is_same e x)
stands_with_one_more e [] x = grind (arith, common_steps)
stands_with_one_more e (y ∷ xs) x =
    elim (is_same e y) as (λ b. (b || stands_in e (xs ++ x ∷ [])) ≡ ((b || stands_in e xs) || is_same e x)) [
      | true ↦ refl
      | false ↦ stands_with_one_more e xs x
    ]

-- the last failure with one more answer
last_of_one : (x : Errno) → x ≡ cond (is_same Success x) Success x
last_of_one Success = refl
last_of_one x = refl

last_with_one_more : (xs : List Errno) (x : Errno) → last_failure (xs ++ x ∷ []) ≡ cond (is_same Success x) (last_failure xs) x
last_with_one_more [] x = last_of_one x
last_with_one_more (y ∷ xs) x =
    let last : Errno = last_failure xs in
    ap (λ l. cond (is_same Success l) y l) (last_with_one_more xs x)
    ∙ (elim (is_same Success x) as (λ b. is_same Success x ≡ b → cond (is_same Success (cond b last x)) y (cond b last x) ≡ cond b (cond (is_same Success last) y last) x) [
      | true ↦ λ _. refl
      | false ↦ λ failure. ap (λ c. cond c y x) failure
    ] refl)

or_true : (a b : Bool) → b ≡ true → (a || b) ≡ true
or_true true b holds = refl
or_true false b holds = holds

-- the last failure stands in the list, or is success
last_stands : (xs : List Errno) → (stands_in (last_failure xs) xs ≡ true) ⊎ (last_failure xs ≡ Success)
last_stands [] = inr refl
last_stands (y ∷ xs) =
    let last : Errno = last_failure xs in
    elim (is_same Success last) as (λ b. ((is_same (cond b y last) y || stands_in (cond b y last) xs) ≡ true) ⊎ (cond b y last ≡ Success)) [
      | true ↦ inl (ap (λ b. b || stands_in y xs) (same_itself y))
      | false ↦ elim (last_stands xs) [ inl stands ↦ inl (or_true (is_same last y) (stands_in last xs) stands) | inr none ↦ inr none ]
    ]

-- two errors that are the same stand in the same lists
stands_alike : (e f : Errno) (xs : List Errno) → is_same e f ≡ true → stands_in e xs ≡ stands_in f xs
stands_alike e f [] same = refl
stands_alike e f (y ∷ xs) same =
    ap (λ b. b || stands_in e xs) (same_as_both e f y same) ∙ ap (λ b. is_same f y || b) (stands_alike e f xs same)

-- an error that does not stand in the list differs from one that does, and so from what is picked
differs : (e f : Errno) (xs : List Errno) → stands_in e xs ≡ false → stands_in f xs ≡ true → is_same e f ≡ false
differs e f xs absent present =
    elim (is_same e f) as (λ b. is_same e f ≡ b → b ≡ false) [
      | true ↦ λ same. sym present ∙ sym (stands_alike e f xs same) ∙ absent
      | false ↦ λ other. refl
    ] refl

not_picked : (e : Errno) (es xs : List Errno) (d : Errno) → stands_in e xs ≡ false → is_same e d ≡ false → is_same e (first_standing es xs d) ≡ false
not_picked e [] xs d absent other = other
not_picked e (f ∷ es) xs d absent other =
    elim (stands_in f xs) as (λ b. stands_in f xs ≡ b → is_same e (cond b f (first_standing es xs d)) ≡ false) [
      | true ↦ λ present. differs e f xs absent present
      | false ↦ λ _. not_picked e es xs d absent other
    ] refl

and_left : (a b : Bool) → (a && b) ≡ true → a ≡ true
and_left true b both = refl
and_left false b both = both

and_right : (a b : Bool) → (a && b) ≡ true → b ≡ true
and_right true b both = both
and_right false b both = cc

not_true : (a : Bool) → not a ≡ true → a ≡ false
not_true true negated = sym negated
not_true false negated = refl

picked_of_two : (a b : Bool) (e z : Errno) → b ≡ true → e ≡ cond (a || (b || false)) e z
picked_of_two true b e z holds = refl
picked_of_two false b e z holds = ap (λ c. cond (c || false) e z) (sym holds)

-- for any list of errors without success: the first standing with one more answer is that of the answer and of the one so far
picked_with_one_more : (es xs : List Errno) (x d d' : Errno) → d' ≡ cond (is_same Success x) d x
    → list_all (λ e. not (is_same e Success)) es ≡ true
    → (stands_in d xs ≡ true) ⊎ (d ≡ Success)
    → first_standing es (xs ++ x ∷ []) d' ≡ first_standing es (x ∷ first_standing es xs d ∷ []) (cond (is_same Success x) (first_standing es xs d) x)
picked_with_one_more [] xs x d d' last failures stands = last
picked_with_one_more (e ∷ es) xs x d d' last failures stands =
    let so_far : Errno = first_standing es xs d in
    let full : Errno = first_standing es (xs ++ x ∷ []) d' in
    let of_two : Errno → Errno = λ k. first_standing es (x ∷ k ∷ []) (cond (is_same Success x) k x) in
    let later : full ≡ of_two so_far = picked_with_one_more es xs x d d' last (and_right (not (is_same e Success)) (list_all (λ e. not (is_same e Success)) es) failures) stands in
    let no_success : is_same e Success ≡ false = not_true (is_same e Success) (and_left (not (is_same e Success)) (list_all (λ e. not (is_same e Success)) es) failures) in
    ap (λ b. cond b e full) (stands_with_one_more e xs x)
    ∙ (elim (stands_in e xs) as (λ b. stands_in e xs ≡ b → cond (b || is_same e x) e full ≡ cond (is_same e x || (is_same e (cond b e so_far) || false)) e (of_two (cond b e so_far))) [
      | true ↦ λ _. picked_of_two (is_same e x) (is_same e e) e (of_two e) (same_itself e)
      | false ↦ λ absent.
          let other : is_same e d ≡ false = elim stands [ inl t ↦ differs e d xs absent t | inr t ↦ ap (λ k. is_same e k) t ∙ no_success ] in
          let miss : is_same e so_far ≡ false = not_picked e es xs d absent other in
          (elim (is_same e x) as (λ b. cond b e full ≡ cond (b || (is_same e so_far || false)) e (of_two so_far)) [
            | true ↦ refl
            | false ↦ later ∙ ap (λ b. cond (b || false) e (of_two so_far)) (sym miss)
          ])
    ] refl)

-- the composition with one more answer is the selection of that answer and the composition so far
pub composition_with_one_more : (xs : List Errno) (x : Errno) → composition (xs ++ x ∷ []) ≡ select x (composition xs)
unfolding composition select
composition_with_one_more xs x =
    picked_with_one_more precedence xs x (last_failure xs) (last_failure (xs ++ x ∷ [])) (last_with_one_more xs x) refl (last_stands xs)

pub composition_of_none : composition [] ≡ Success
unfolding composition
composition_of_none = refl

-- the same by the index of the answer
pub composition_more : (xs : List Errno) (i : ℕ) (d : Errno) → i < length xs → composition (take (i + 1) xs) ≡ select (get_or xs i d) (composition (take i xs))
composition_more xs i d within = ap composition (take_more xs i d within) ∙ composition_with_one_more (take i xs) (get_or xs i d)

-- the decider, with the composition in sight
pub decider_by_place : (xs : List Errno) → decider xs ≡ cond (is_same Success (composition xs)) None (position (is_same (composition xs)) xs)
unfolding decider
decider_by_place xs = refl
