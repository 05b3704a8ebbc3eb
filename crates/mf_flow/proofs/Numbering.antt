-- Elements listed by their numbers: of either set, of one number, and where one more comes.
use Rattle.std.proofs.Common.{◌≡◌, ◌≢◌, ◌⊎◌, ℕ, ◌+◌, ◌-◌, ◌<◌, ◌≤◌, zero, suc, Bool, true, false, cond, ◌||◌, eqb, List, [], ◌∷◌, ◌++◌, filter, length, get_or, map, take, inl, inr, refl, sym, ap, ◌∙◌, subst, arith}
use Rattle.std.specs.List.{AllByRecursion, insert}
use Rattle.std.specs.Ordering.{is_eq, match_ordering, ordering_reverse}
use Rattle.std.specs.declared.cmp.Ordering.{Ordering}
use Rattle.std.specs.declared.cmp.Ordering.TheVariants.{Less, Equal, Greater}
use Rattle.std.specs.Cmp.{tied_itself}
use Rattle.std.specs.Cmp.Lexicographic.{nat_list_cmp_total}
use Rattle.std.proofs.lemmas.Bool.{cases_eq, cases_lt, eq-eqb, false≢true, ne_eqb}
use Rattle.std.proofs.lemmas.List.{get_or_default, take_more}
use Rattle.std.proofs.lemmas.List.Edits.{get_or-insert_above, get_or-insert_at, get_or-insert_below, length-insert}
use Rattle.mf_elem.specs.declared.elem.Elem.{Elem}
use Rattle.mf_flow.specs.declared.known.Numbered.{Numbered}
use Rattle.mf_flow.specs.Order.{elem_cmp, place_of, union}
use Rattle.mf_flow.specs.Listed.{AreApart, AreNumbered, IsNumberIn, IsPlaceOf, listed}
use Rattle.mf_flow.proofs.Placing.{union_nothing}

-- each is apart from those behind it
abbrev AreOrdered : List Numbered → Type 0
AreOrdered [] = Unit {0}
AreOrdered (x ∷ xs) = AllByRecursion (λ y. AreApart x y) xs × AreOrdered xs

all_at : (P : Numbered → Type 0) (xs : List Numbered) → ((j : ℕ) (d : Numbered) → j < length xs → P (get_or xs j d)) → AllByRecursion P xs
all_at P [] each = tt
all_at P (x ∷ xs) each = (each 0 x (omega arith), all_at P xs (λ j d l. each (suc j) d (omega (arith, l))))

all_get : (P : Numbered → Type 0) (xs : List Numbered) (j : ℕ) (d : Numbered) → AllByRecursion P xs → j < length xs → P (get_or xs j d)
all_get P [] j d all l = absurd (omega arith)
all_get P (x ∷ xs) zero d all l = all.0
all_get P (x ∷ xs) (suc j) d all l = all_get P xs j d all.1 (omega arith)

ordered_from : (known : List Numbered) → ((i j : ℕ) (d : Numbered) → i < j → j < length known → AreApart (get_or known i d) (get_or known j d)) → AreOrdered known
ordered_from [] apart = tt
ordered_from (x ∷ xs) apart =
    (all_at (λ y. AreApart x y) xs (λ j d l. apart 0 (suc j) d (omega arith) (omega (arith, l))), ordered_from xs (λ i j d before l. apart (suc i) (suc j) d (omega (arith, before)) (omega (arith, l))))

-- ---- the elements of either set
all_listed : (e : Elem) (test : ℕ → Bool) (xs : List Numbered) → AllByRecursion (λ y. elem_cmp e y.element ≡ Less) xs → AllByRecursion (λ y. elem_cmp e y ≡ Less) (listed test xs)
all_listed e test [] all = tt
all_listed e test (x ∷ xs) all = one (test x.number) (all_listed e test xs all.1)
  where
    one : (b : Bool) → AllByRecursion (λ y. elem_cmp e y ≡ Less) (listed test xs)
        → AllByRecursion (λ y. elem_cmp e y ≡ Less) (map (λ (k : Numbered). k.element) (cond b (x ∷ filter (λ (k : Numbered). test k.number) xs) (filter (λ (k : Numbered). test k.number) xs)))
    one true rest = (all.0, rest)
    one false rest = rest

less_all : (x : Numbered) (xs : List Numbered) → AllByRecursion (λ y. AreApart x y) xs → AllByRecursion (λ y. elem_cmp x.element y.element ≡ Less) xs
less_all x [] all = tt
less_all x (y ∷ xs) all = (all.0.0, less_all x xs all.1)

mine_front : (e : Elem) (mine theirs : List Elem) → AllByRecursion (λ y. elem_cmp e y ≡ Less) theirs → union (e ∷ mine) theirs ≡ e ∷ union mine theirs
mine_front e mine [] all = ap (λ (xs : List Elem). e ∷ xs) (sym (union_nothing mine))
mine_front e mine (y ∷ theirs) all =
    ap (λ (o : Ordering). match_ordering o (e ∷ union mine (y ∷ theirs)) (e ∷ union mine theirs) (y ∷ union (e ∷ mine) theirs)) all.0

theirs_front : (e : Elem) (mine theirs : List Elem) → AllByRecursion (λ y. elem_cmp e y ≡ Less) mine → union mine (e ∷ theirs) ≡ e ∷ union mine theirs
theirs_front e [] theirs all = refl
theirs_front e (x ∷ mine) theirs all =
    ap (λ (o : Ordering). match_ordering o (x ∷ union mine (e ∷ theirs)) (x ∷ union mine theirs) (e ∷ union (x ∷ mine) theirs))
    (nat_list_cmp_total.antisymm (place_of x) (place_of e) ∙ ap ordering_reverse all.0)

both_front : (e : Elem) (mine theirs : List Elem) → union (e ∷ mine) (e ∷ theirs) ≡ e ∷ union mine theirs
both_front e mine theirs =
    ap (λ (o : Ordering). match_ordering o (e ∷ union mine (e ∷ theirs)) (e ∷ union mine theirs) (e ∷ union (e ∷ mine) theirs)) (tied_itself nat_list_cmp_total (place_of e))

union_ordered : (f g : ℕ → Bool) (known : List Numbered) → AreOrdered known → union (listed f known) (listed g known) ≡ listed (λ n. f n || g n) known
union_ordered f g [] ordered = refl
union_ordered f g (x ∷ xs) ordered = one (f x.number) (g x.number) (union_ordered f g xs ordered.1)
  where
    behind : (test : ℕ → Bool) → AllByRecursion (λ y. elem_cmp x.element y ≡ Less) (listed test xs)
    behind test = all_listed x.element test xs (less_all x xs ordered.0)

    part : Bool → (ℕ → Bool) → List Elem
    part b test = map (λ (k : Numbered). k.element) (cond b (x ∷ filter (λ (k : Numbered). test k.number) xs) (filter (λ (k : Numbered). test k.number) xs))

    one : (b c : Bool) → union (listed f xs) (listed g xs) ≡ listed (λ n. f n || g n) xs
        → union (map (λ (k : Numbered). k.element) (cond b (x ∷ filter (λ (k : Numbered). f k.number) xs) (filter (λ (k : Numbered). f k.number) xs)))
        (map (λ (k : Numbered). k.element) (cond c (x ∷ filter (λ (k : Numbered). g k.number) xs) (filter (λ (k : Numbered). g k.number) xs)))
        ≡ map (λ (k : Numbered). k.element) (cond (b || c) (x ∷ filter (λ (k : Numbered). f k.number || g k.number) xs) (filter (λ (k : Numbered). f k.number || g k.number) xs))
    one true true rest = both_front x.element (listed f xs) (listed g xs) ∙ ap (λ (es : List Elem). x.element ∷ es) rest
    one true false rest = mine_front x.element (listed f xs) (listed g xs) (behind g) ∙ ap (λ (es : List Elem). x.element ∷ es) rest
    one false true rest = theirs_front x.element (listed f xs) (listed g xs) (behind f) ∙ ap (λ (es : List Elem). x.element ∷ es) rest
    one false false rest = rest

pub union_listed : (f g : ℕ → Bool) (known : List Numbered) → AreNumbered known → union (listed f known) (listed g known) ≡ listed (λ n. f n || g n) known
union_listed f g known are = union_ordered f g known (ordered_from known are.apart)

pub listed_same : (f g : ℕ → Bool) (known : List Numbered) → ((n : ℕ) → f n ≡ g n) → listed f known ≡ listed g known
listed_same f g [] same = refl
listed_same f g (x ∷ xs) same = one (f x.number) (g x.number) (same x.number) (listed_same f g xs same)
  where
    one : (b c : Bool) → b ≡ c → listed f xs ≡ listed g xs
        → map (λ (k : Numbered). k.element) (cond b (x ∷ filter (λ (k : Numbered). f k.number) xs) (filter (λ (k : Numbered). f k.number) xs))
        ≡ map (λ (k : Numbered). k.element) (cond c (x ∷ filter (λ (k : Numbered). g k.number) xs) (filter (λ (k : Numbered). g k.number) xs))
    one true true same rest = ap (λ (es : List Elem). x.element ∷ es) rest
    one false false same rest = rest
    one true false same rest = cc
    one false true same rest = cc

pub none_listed : (f : ℕ → Bool) (known : List Numbered) → ((n : ℕ) → f n ≡ false) → listed f known ≡ []
none_listed f [] none = refl
none_listed f (x ∷ xs) none = rw (none x.number) (none_listed f xs none)

-- ---- one number
other_numbers : (n : ℕ) (xs : List Numbered) → AllByRecursion (λ y. y.number ≢ n) xs → listed (λ m. eqb m n) xs ≡ []
other_numbers n [] all = refl
other_numbers n (x ∷ xs) all = rw (ne_eqb x.number n all.0) (other_numbers n xs all.1)

apart_all : (x : Numbered) (xs : List Numbered) → AllByRecursion (λ y. AreApart x y) xs → AllByRecursion (λ y. y.number ≢ x.number) xs
apart_all x [] all = tt
apart_all x (y ∷ xs) all = (λ e. all.0.1 (sym e), apart_all x xs all.1)

alone_ordered : (known : List Numbered) (p : ℕ) (d : Numbered) → AreOrdered known → p < length known → listed (λ m. eqb m (get_or known p d).number) known ≡ (get_or known p d).element ∷ []
alone_ordered [] p d ordered within = absurd (omega arith)
alone_ordered (x ∷ xs) zero d ordered within =
    rw (eq-eqb x.number x.number refl) (ap (λ (es : List Elem). x.element ∷ es) (other_numbers x.number xs (apart_all x xs ordered.0)))
alone_ordered (x ∷ xs) (suc p) d ordered within =
    let other : eqb x.number (get_or xs p d).number ≡ false =
    ne_eqb x.number (get_or xs p d).number (all_get (λ y. AreApart x y) xs p d ordered.0 (omega arith)).1 in
    rw other (alone_ordered xs p d ordered.1 (omega arith))

pub alone : (known : List Numbered) (p : ℕ) (d : Numbered) → AreNumbered known → p < length known → listed (λ m. eqb m (get_or known p d).number) known ≡ (get_or known p d).element ∷ []
alone known p d are within = alone_ordered known p d (ordered_from known are.apart) within

-- the element that stands at its place is known
pub known_already : (element : Elem) (known : List Numbered) (p : ℕ) (x : Numbered) → AreNumbered known → p < length known → x ≡ get_or known p x → x.element ≡ element → IsNumberIn element x.number known known
known_already element known p x are within is same =
    record {
      more = omega arith;
      kept = λ test none. refl;
      alone = subst (λ (y : Numbered). listed (λ m. eqb m y.number) known ≡ y.element ∷ []) (sym is) (alone known p x are within) ∙ ap (λ (e : Elem). e ∷ []) same;
      within = subst (λ (y : Numbered). y.number < length known) (sym is) (are.below p x within);
    }

-- ---- one element more
insert_unseen : (test : ℕ → Bool) (xs : List Numbered) (p : ℕ) (x : Numbered) → test x.number ≡ false → listed test (insert xs p x) ≡ listed test xs
insert_unseen test xs zero x none = rw none refl
insert_unseen test [] (suc p) x none = rw none refl
insert_unseen test (y ∷ xs) (suc p) x none = one (test y.number) (insert_unseen test xs p x none)
  where
    one : (b : Bool) → listed test (insert xs p x) ≡ listed test xs
        → map (λ (k : Numbered). k.element) (cond b (y ∷ filter (λ (k : Numbered). test k.number) (insert xs p x)) (filter (λ (k : Numbered). test k.number) (insert xs p x)))
        ≡ map (λ (k : Numbered). k.element) (cond b (y ∷ filter (λ (k : Numbered). test k.number) xs) (filter (λ (k : Numbered). test k.number) xs))
    one true rest = ap (λ (es : List Elem). y.element ∷ es) rest
    one false rest = rest

-- the new one comes before those from its place on
pub record GoesIn (known : List Numbered) (p : ℕ) (x : Numbered) : Type 0 where
  pub place : IsPlaceOf x.element known p
  pub behind : (k : ℕ) (d : Numbered) → p ≤ k → k < length known → elem_cmp x.element (get_or known k d).element ≡ Less
  pub new : x.number ≡ length known

module _ (known : List Numbered) (p : ℕ) (x : Numbered) (are : AreNumbered known) (goes : GoesIn known p x) where
  most : p ≤ length known
  most = goes.place.within

  at_below : (k : ℕ) (d : Numbered) → k < p → get_or (insert known p x) k d ≡ get_or known k d
  at_below k d l = get_or-insert_below known p x d k l most

  at_here : (k : ℕ) (d : Numbered) → k ≡ p → get_or (insert known p x) k d ≡ x
  at_here k d is = ap (λ n. get_or (insert known p x) n d) is ∙ get_or-insert_at known p x d most

  at_above : (k : ℕ) (d : Numbered) → p < k → get_or (insert known p x) k d ≡ get_or known (k - 1) d
  at_above k d l =
      let next : k ≡ k - 1 + 1 = omega arith in
      ap (λ n. get_or (insert known p x) n d) next ∙ get_or-insert_above known p x d (k - 1) (omega arith) most

  old_number : (k : ℕ) (d : Numbered) → k < length known → (get_or known k d).number ≢ x.number
  old_number k d l e = absurd (omega (arith, are.below k d l, goes.new, e))

  -- in front of the place, at it and behind it
  data Where (k : ℕ) : Type 0 where
    front : k < p → Where k
    here : k ≡ p → Where k
    back : p < k → Where k

  lies : (k : ℕ) → Where k
  lies k = elim (cases_lt k p) [
    | inl l ↦ front l
    | inr g ↦ elim (cases_eq k p) [ inl e ↦ here e | inr n ↦ back (omega (arith, g, n)) ]
  ]

  apart_more : (i j : ℕ) (d : Numbered) → i < j → j < length known + 1 → AreApart (get_or (insert known p x) i d) (get_or (insert known p x) j d)
  apart_more i j d before within = one (lies i) (lies j)
    where
      both : (a b : Numbered) → get_or (insert known p x) i d ≡ a → get_or (insert known p x) j d ≡ b → AreApart a b → AreApart (get_or (insert known p x) i d) (get_or (insert known p x) j d)
      both a b ea eb h =
          subst (λ (y : Numbered). AreApart y (get_or (insert known p x) j d)) (sym ea) (subst (λ (y : Numbered). AreApart a y) (sym eb) h)

      one : Where i → Where j → AreApart (get_or (insert known p x) i d) (get_or (insert known p x) j d)
      one (front li) (front lj) = both (get_or known i d) (get_or known j d) (at_below i d li) (at_below j d lj) (are.apart i j d before (omega (arith, lj, most)))
      one (front li) (here ej) = both (get_or known i d) x (at_below i d li) (at_here j d ej) (goes.place.less i d li, old_number i d (omega (arith, li, most)))
      one (front li) (back gj) = both (get_or known i d) (get_or known (j - 1) d) (at_below i d li) (at_above j d gj) (are.apart i (j - 1) d (omega (arith, li, gj)) (omega (arith, within, gj)))
      one (here ei) (front lj) = absurd (omega (arith, ei, lj, before))
      one (here ei) (here ej) = absurd (omega (arith, ei, ej, before))
      one (here ei) (back gj) =
          both x (get_or known (j - 1) d) (at_here i d ei) (at_above j d gj)
          (goes.behind (j - 1) d (omega (arith, gj)) (omega (arith, within, gj)), λ e. old_number (j - 1) d (omega (arith, within, gj)) (sym e))
      one (back gi) (front lj) = absurd (omega (arith, gi, lj, before))
      one (back gi) (here ej) = absurd (omega (arith, gi, ej, before))
      one (back gi) (back gj) =
          both (get_or known (i - 1) d) (get_or known (j - 1) d) (at_above i d gi) (at_above j d gj) (are.apart (i - 1) (j - 1) d (omega (arith, gi, before)) (omega (arith, within, gj)))

  below_more : (i : ℕ) (d : Numbered) → i < length known + 1 → (get_or (insert known p x) i d).number < length known + 1
  below_more i d within = one (lies i)
    where
      by : (a : Numbered) → get_or (insert known p x) i d ≡ a → a.number < length known + 1 → (get_or (insert known p x) i d).number < length known + 1
      by a e h = subst (λ (y : Numbered). y.number < length known + 1) (sym e) h

      one : Where i → (get_or (insert known p x) i d).number < length known + 1
      one (front l) = by (get_or known i d) (at_below i d l) (omega (arith, are.below i d (omega (arith, l, most))))
      one (here e) = by x (at_here i d e) (omega (arith, goes.new))
      one (back g) = by (get_or known (i - 1) d) (at_above i d g) (omega (arith, are.below (i - 1) d (omega (arith, g, within))))

  pub numbered_more : AreNumbered (insert known p x)
  numbered_more =
      let size : length (insert known p x) ≡ length known + 1 = length-insert known p x most in
      record {
        apart = λ i j d before l. apart_more i j d before (omega (arith, l, size));
        below = λ i d l. subst (λ n. (get_or (insert known p x) i d).number < n) (sym size) (below_more i d (omega (arith, l, size)));
      }

  pub new_number : IsNumberIn x.element x.number known (insert known p x)
  new_number =
      let size : length (insert known p x) ≡ length known + 1 = length-insert known p x most in
      let read : get_or (insert known p x) p x ≡ x = at_here p x refl in
      record {
        more = omega (arith, size);
        kept = λ test none. insert_unseen test known p x (none x.number (omega (arith, goes.new)));
        alone = subst (λ (y : Numbered). listed (λ m. eqb m y.number) (insert known p x) ≡ y.element ∷ []) read (alone (insert known p x) p x numbered_more (omega (arith, size, most)));
        within = omega (arith, size, goes.new);
      }

-- ---- the place of an element
pub before_middle : (element : Elem) (known : List Numbered) (m : ℕ) (x : Numbered) → AreNumbered known → m < length known → x ≡ get_or known m x → elem_cmp x.element element ≡ Less
    → (k : ℕ) (d : Numbered) → k ≤ m → elem_cmp (get_or known k d).element element ≡ Less
before_middle element known m x are within is less k d before =
    let at : elem_cmp (get_or known m d).element element ≡ Less =
    subst (λ (y : Numbered). elem_cmp y.element element ≡ Less) (is ∙ get_or_default known m x d within) less in
    elim (cases_lt k m) [
      | inl l ↦ nat_list_cmp_total.trans (place_of (get_or known k d).element) (place_of (get_or known m d).element) (place_of element) (are.apart k m d l within).0 at
      | inr g ↦ let here : k ≡ m = omega arith in ap (λ n. elem_cmp (get_or known n d).element element) here ∙ at
    ]

pub behind_middle : (element : Elem) (known : List Numbered) (m : ℕ) (x : Numbered) → AreNumbered known → m < length known → x ≡ get_or known m x → elem_cmp x.element element ≢ Less
    → (k : ℕ) (d : Numbered) → m ≤ k → k < length known → elem_cmp (get_or known k d).element element ≢ Less
behind_middle element known m x are within is not_less k d behind most less =
    let at : elem_cmp (get_or known m d).element element ≢ Less =
    subst (λ (y : Numbered). elem_cmp y.element element ≢ Less) (is ∙ get_or_default known m x d within) not_less in
    elim (cases_lt m k) [
      | inl l ↦ at (nat_list_cmp_total.trans (place_of (get_or known m d).element) (place_of (get_or known k d).element) (place_of element) (are.apart m k d l most).0 less)
      | inr g ↦ let here : m ≡ k = omega arith in at (ap (λ n. elem_cmp (get_or known n d).element element) here ∙ less)
    ]

-- where the one at the place isn't the element, it goes in there
flip : (o : Ordering) → o ≢ Less → o ≢ Equal → ordering_reverse o ≡ Less
flip Less a b = absurd (a refl)
flip Equal a b = absurd (b refl)
flip Greater a b = refl

pub not_less_either : (o r : Ordering) → r ≡ o → (r ≡ Equal) ⊎ (r ≡ Greater) → o ≢ Less
not_less_either o r is (inl equal) less = cc
not_less_either o r is (inr greater) less = cc

pub goes_in : (element : Elem) (known : List Numbered) (p : ℕ) → IsPlaceOf element known p → AreNumbered known
    → ((d : Numbered) → p < length known → elem_cmp (get_or known p d).element element ≢ Equal)
    → GoesIn known p (record { element = element; number = length known })
goes_in element known p place are other = record { place = place; behind = behind; new = refl }
  where
    here : (d : Numbered) → p < length known → elem_cmp element (get_or known p d).element ≡ Less
    here d within =
        nat_list_cmp_total.antisymm (place_of element) (place_of (get_or known p d).element)
        ∙ flip (elem_cmp (get_or known p d).element element) (place.not_less p d (omega arith) within) (other d within)

    behind : (k : ℕ) (d : Numbered) → p ≤ k → k < length known → elem_cmp element (get_or known k d).element ≡ Less
    behind k d least most = elim (cases_lt p k) [
      | inl l ↦
          nat_list_cmp_total.trans (place_of element) (place_of (get_or known p d).element) (place_of (get_or known k d).element) (here d (omega (arith, l, most))) (are.apart p k d l most).0
      | inr g ↦ let is : k ≡ p = omega arith in ap (λ n. elem_cmp element (get_or known n d).element) is ∙ here d (omega (arith, is, most))
    ]

-- ---- one entry more is listed
pub listed_yes : (test : ℕ → Bool) (known : List Numbered) (i : ℕ) (x : Numbered) → i < length known → x ≡ get_or known i x → test x.number ≡ true
    → listed test (take (i + 1) known) ≡ listed test (take i known) ++ x.element ∷ []
listed_yes test known i x within is passes =
    ap (listed test) (take_more known i x within ∙ ap (λ (y : Numbered). take i known ++ y ∷ []) (sym is)) ∙ push (take i known)
  where
    push : (xs : List Numbered) → listed test (xs ++ x ∷ []) ≡ listed test xs ++ x.element ∷ []
    push [] = rw passes refl
    push (y ∷ xs) = one (test y.number) (push xs)
      where
        one : (b : Bool) → listed test (xs ++ x ∷ []) ≡ listed test xs ++ x.element ∷ []
            → map (λ (k : Numbered). k.element) (cond b (y ∷ filter (λ (k : Numbered). test k.number) (xs ++ x ∷ [])) (filter (λ (k : Numbered). test k.number) (xs ++ x ∷ [])))
            ≡ map (λ (k : Numbered). k.element) (cond b (y ∷ filter (λ (k : Numbered). test k.number) xs) (filter (λ (k : Numbered). test k.number) xs)) ++ x.element ∷ []
        one true rest = ap (λ (es : List Elem). y.element ∷ es) rest
        one false rest = rest

pub listed_no : (test : ℕ → Bool) (known : List Numbered) (i : ℕ) (x : Numbered) → i < length known → x ≡ get_or known i x → test x.number ≡ false
    → listed test (take (i + 1) known) ≡ listed test (take i known)
listed_no test known i x within is fails =
    ap (listed test) (take_more known i x within ∙ ap (λ (y : Numbered). take i known ++ y ∷ []) (sym is)) ∙ push (take i known)
  where
    push : (xs : List Numbered) → listed test (xs ++ x ∷ []) ≡ listed test xs
    push [] = rw fails refl
    push (y ∷ xs) = one (test y.number) (push xs)
      where
        one : (b : Bool) → listed test (xs ++ x ∷ []) ≡ listed test xs
            → map (λ (k : Numbered). k.element) (cond b (y ∷ filter (λ (k : Numbered). test k.number) (xs ++ x ∷ [])) (filter (λ (k : Numbered). test k.number) (xs ++ x ∷ [])))
            ≡ map (λ (k : Numbered). k.element) (cond b (y ∷ filter (λ (k : Numbered). test k.number) xs) (filter (λ (k : Numbered). test k.number) xs))
        one true rest = ap (λ (es : List Elem). y.element ∷ es) rest
        one false rest = rest
