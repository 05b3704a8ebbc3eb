-- What a party has joined with what another hands on.
use Rattle.std.proofs.Common.{◌≡◌, ℕ, ◌<◌, ◌≤◌, ◌+◌, ◌-◌, zero, suc, Bool, true, false, cond, nat_eq, List, [], ◌∷◌, ◌++◌, length, set, take, take_all, drop, get_or, map, length-drop, refl, ap, sym, ◌∙◌, subst, arith, append_assoc, append-nil, length-append, get_or-set_same, get_or-set_other}
use Rattle.std.specs.Ordering.{match_ordering}
use Rattle.std.specs.declared.cmp.Ordering.{Ordering}
use Rattle.std.specs.declared.cmp.Ordering.TheVariants.{Less, Equal, Greater}
use Rattle.std.proofs.Math.ListN.{get_or-append}
use Rattle.std.proofs.Math.Seq.{drop-cons, get_or-append_seam}
use Rattle.std.proofs.lemmas.Bool.Decides.{nat_tests}
use Rattle.std.proofs.lemmas.List.{drop-map, drop_all, length-map, map-append}
use Rattle.mf_flow.specs.Order.{elem_cmp}
use Rattle.mf_chains.specs.declared.chain.Step.{Step}
use Rattle.mf_chains.specs.declared.chain.Chain.{Chain}
use Rattle.mf_chains.specs.declared.marks.Mark.{Mark}
use Rattle.mf_chains.specs.Chains.{with_step}
use Rattle.mf_chains.specs.Kept.{Kept, stepped, with_lacking}
use Rattle.mf_chains.specs.Links.{no_chain}
use Rattle.mf_chains.specs.Marks.{AreThere, Extends, Sets, kept_in, kept_of, order_from, set_at}

-- Chains that are there stay

pub same_of : (before chains : List Chain) (mark : Mark) → Extends before chains → mark.link < length before → kept_of chains mark ≡ kept_of before mark
same_of before chains mark extends there =
    ap (λ (c : Chain). record { element = mark.element; chain = c })
    (ap (λ (cs : List Chain). get_or cs mark.link no_chain) extends.1 ∙ get_or-append before extends.0 no_chain mark.link there)

pub same_in : (before chains : List Chain) (marks : List Mark) → Extends before chains → AreThere before marks → kept_in chains marks ≡ kept_in before marks
same_in before chains [] extends there = refl
same_in before chains (mark ∷ marks) extends there =
    ap (λ (k : Kept). k ∷ kept_in chains marks) (same_of before chains mark extends there.0)
    ∙ ap (λ (ks : List Kept). kept_of before mark ∷ ks) (same_in before chains marks extends there.1)

pub still_there : (before chains : List Chain) (marks : List Mark) → Extends before chains → AreThere before marks → AreThere chains marks
still_there before chains [] extends there = tt
still_there before chains (mark ∷ marks) extends there =
    (omega (arith, there.0, ap length extends.1, length-append before extends.0), still_there before chains marks extends there.1)

there_push : (chains : List Chain) (marks : List Mark) (mark : Mark) → AreThere chains marks → mark.link < length chains → AreThere chains (marks ++ mark ∷ [])
there_push chains [] mark all one = (one, tt)
there_push chains (x ∷ marks) mark all one = (all.0, there_push chains marks mark all.1 one)

there_both : (chains : List Chain) (marks others : List Mark) → AreThere chains marks → AreThere chains others → AreThere chains (marks ++ others)
there_both chains [] others all more = more
there_both chains (x ∷ marks) others all more = (all.0, there_both chains marks others all.1 more)

there_from : (chains : List Chain) (marks : List Mark) (n : ℕ) → AreThere chains marks → AreThere chains (drop n marks)
there_from chains marks zero all = all
there_from chains [] (suc n) all = tt
there_from chains (x ∷ marks) (suc n) all = there_from chains marks n all.1

pub there_at : (chains : List Chain) (marks : List Mark) (n : ℕ) (mark d : Mark) → n < length marks → mark ≡ get_or marks n d → AreThere chains marks → mark.link < length chains
there_at chains marks n mark d within is all = (subst (AreThere chains) (drop-cons marks n d within ∙ ap (λ (x : Mark). x ∷ drop (suc n) marks) (sym is)) (there_from chains marks n all)).0

pub extends_itself : (chains : List Chain) → Extends chains chains
extends_itself chains = ([], sym (append-nil chains))

pub extends_then : (a b c : List Chain) → Extends a b → Extends b c → Extends a c
extends_then a b c first then =
    (first.0 ++ then.0, then.1 ∙ ap (λ (cs : List Chain). cs ++ then.0) first.1 ∙ append_assoc a first.0 then.0)

-- The next of both

pub next_less : (x : Kept) (xs : List Kept) (y : Kept) (ys : List Kept) → elem_cmp x.element y.element ≡ Less → with_lacking (x ∷ xs) (y ∷ ys) ≡ x ∷ with_lacking xs (y ∷ ys)
next_less x xs y ys less = ap (λ (o : Ordering). match_ordering o (x ∷ with_lacking xs (y ∷ ys)) (x ∷ with_lacking xs ys) (y ∷ with_lacking (x ∷ xs) ys)) less

pub next_equal : (x : Kept) (xs : List Kept) (y : Kept) (ys : List Kept) → elem_cmp x.element y.element ≡ Equal → with_lacking (x ∷ xs) (y ∷ ys) ≡ x ∷ with_lacking xs ys
next_equal x xs y ys equal = ap (λ (o : Ordering). match_ordering o (x ∷ with_lacking xs (y ∷ ys)) (x ∷ with_lacking xs ys) (y ∷ with_lacking (x ∷ xs) ys)) equal

next_greater : (chains : List Chain) (set : List Mark) (mark : Mark) (y : Kept) (ys : List Kept) → y.element ≡ mark.element → order_from set mark ≡ Greater
    → with_lacking (kept_in chains set) (y ∷ ys) ≡ y ∷ with_lacking (kept_in chains set) ys
next_greater chains [] mark y ys same greater = refl
next_greater chains (x ∷ set) mark y ys same greater =
    ap (λ (o : Ordering). match_ordering o (kept_of chains x ∷ with_lacking (kept_in chains set) (y ∷ ys)) (kept_of chains x ∷ with_lacking (kept_in chains set) ys)
    (y ∷ with_lacking (kept_in chains (x ∷ set)) ys))
    (ap (elem_cmp x.element) same ∙ greater)

pub lacking_nothing : (ks : List Kept) → with_lacking ks [] ≡ ks
lacking_nothing [] = refl
lacking_nothing (k ∷ ks) = refl

pub from_cons : {A : Type 0} (xs : List A) (n : ℕ) (x d : A) → n < length xs → x ≡ get_or xs n d → drop n xs ≡ x ∷ drop (n + 1) xs
from_cons {A} xs n x d within is =
    let next : suc n ≡ n + 1 = omega arith in
    drop-cons xs n d within ∙ ap (λ (y : A). y ∷ drop (suc n) xs) (sym is) ∙ ap (λ (k : ℕ). x ∷ drop k xs) next

-- to the end
pub rest_of : {A : Type 0} (xs : List A) (n : ℕ) → take (length xs - n) (drop n xs) ≡ drop n xs
rest_of xs n = take_all (length xs - n) (drop n xs) (omega (arith, length-drop n xs))

-- Joining

module _ (before : List Chain) (set given : List Mark) (step : Step) where
  abbrev pub mine_all : List Kept
  mine_all = kept_in before set

  abbrev pub theirs_all : List Kept
  theirs_all = map (stepped step) (kept_in before given)

  -- the items, and then what is left of both, are both joined
  pub record IsJoined (chains : List Chain) (items : List Mark) (m n : ℕ) : Type 0 where
    pub mine : m ≤ length set
    pub theirs : n ≤ length given
    pub extends : Extends before chains
    pub there : AreThere chains items
    pub count : length chains + m ≡ length before + length items
    pub all : kept_in chains items ++ with_lacking (drop m mine_all) (drop n theirs_all) ≡ with_lacking mine_all theirs_all

  pub joined_none : IsJoined before [] 0 0
  joined_none = record { mine = omega arith; theirs = omega arith; extends = extends_itself before; there = tt; count = omega arith; all = refl }

  pub mine_from : (m : ℕ) (x d : Mark) → m < length set → x ≡ get_or set m d → drop m mine_all ≡ kept_of before x ∷ drop (m + 1) mine_all
  mine_from m x d within is =
      drop-map (kept_of before) m set ∙ ap (map (kept_of before)) (from_cons set m x d within is)
      ∙ ap (λ (ks : List Kept). kept_of before x ∷ ks) (sym (drop-map (kept_of before) (m + 1) set))

  pub theirs_from : (n : ℕ) (y d : Mark) → n < length given → y ≡ get_or given n d → drop n theirs_all ≡ stepped step (kept_of before y) ∷ drop (n + 1) theirs_all
  theirs_from n y d within is =
      drop-map (stepped step) n (kept_in before given)
      ∙ ap (map (stepped step)) (drop-map (kept_of before) n given ∙ ap (map (kept_of before)) (from_cons given n y d within is)
      ∙ ap (λ (ks : List Kept). kept_of before y ∷ ks) (sym (drop-map (kept_of before) (n + 1) given)))
      ∙ ap (λ (ks : List Kept). stepped step (kept_of before y) ∷ ks) (sym (drop-map (stepped step) (n + 1) (kept_in before given)))

  -- one comes behind the items
  more : (chains : List Chain) (items : List Mark) (x : Mark) (k : Kept) (left rest all : List Kept) → kept_of chains x ≡ k → kept_in chains items ++ left ≡ all → left ≡ k ∷ rest
      → kept_in chains (items ++ x ∷ []) ++ rest ≡ all
  more chains items x k left rest all one so_far is =
      ap (λ (ks : List Kept). ks ++ rest) (map-append (kept_of chains) items (x ∷ []) ∙ ap (λ (y : Kept). kept_in chains items ++ y ∷ []) one)
      ∙ append_assoc (kept_in chains items) (k ∷ []) rest ∙ ap (λ (ks : List Kept). kept_in chains items ++ ks) (sym is) ∙ so_far

  module _ (there_mine : AreThere before set) (there_theirs : AreThere before given) (chains : List Chain) (items : List Mark) (m n : ℕ) (y e : Mark) (theirs : n < length given)
      (y_is : y ≡ get_or given n e) (so_far : IsJoined chains items m n) where
    -- the set isn't at its end
    pub goes_on : (o : Ordering) → order_from (drop m set) y ≡ o → (o ≡ Greater → ⊥) → m < length set
    goes_on o is other = one (drop m set) refl is
      where
        one : (xs : List Mark) → drop m set ≡ xs → order_from xs y ≡ o → m < length set
        one [] none is = absurd (other (sym is))
        one (x ∷ xs) some is = omega (arith, ap length some, length-drop m set)

    module _ (x d : Mark) (mine : m < length set) (x_is : x ≡ get_or set m d) where
      compared : order_from (drop m set) y ≡ elem_cmp x.element y.element
      compared = ap (λ (xs : List Mark). order_from xs y) (from_cons set m x d mine x_is)

      here : kept_of chains x ≡ kept_of before x
      here = same_of before chains x so_far.extends (there_at before set m x d mine x_is there_mine)

      link_there : x.link < length chains
      link_there = omega (arith, there_at before set m x d mine x_is there_mine, ap length so_far.extends.1, length-append before so_far.extends.0)

      pub joined_less : order_from (drop m set) y ≡ Less → IsJoined chains (items ++ x ∷ []) (m + 1) n
      joined_less less =
          record {
            mine = omega (arith, mine);
            theirs = so_far.theirs;
            extends = so_far.extends;
            there = there_push chains items x so_far.there link_there;
            count = omega (arith, so_far.count, length-append items (x ∷ []));
            all = more chains items x (kept_of before x) (with_lacking (drop m mine_all) (drop n theirs_all)) (with_lacking (drop (m + 1) mine_all) (drop n theirs_all))
                (with_lacking mine_all theirs_all) here so_far.all
                (ap (λ (ks : List Kept). with_lacking ks (drop n theirs_all)) (mine_from m x d mine x_is)
                ∙ ap (with_lacking (kept_of before x ∷ drop (m + 1) mine_all)) (theirs_from n y e theirs y_is)
                ∙ next_less (kept_of before x) (drop (m + 1) mine_all) (stepped step (kept_of before y)) (drop (n + 1) theirs_all) (sym compared ∙ less)
                ∙ ap (λ (ks : List Kept). kept_of before x ∷ with_lacking (drop (m + 1) mine_all) ks) (sym (theirs_from n y e theirs y_is)));
          }

      pub joined_equal : order_from (drop m set) y ≡ Equal → IsJoined chains (items ++ x ∷ []) (m + 1) (n + 1)
      joined_equal equal =
          record {
            mine = omega (arith, mine);
            theirs = omega (arith, theirs);
            extends = so_far.extends;
            there = there_push chains items x so_far.there link_there;
            count = omega (arith, so_far.count, length-append items (x ∷ []));
            all = more chains items x (kept_of before x) (with_lacking (drop m mine_all) (drop n theirs_all)) (with_lacking (drop (m + 1) mine_all) (drop (n + 1) theirs_all))
                (with_lacking mine_all theirs_all) here so_far.all
                (ap (λ (ks : List Kept). with_lacking ks (drop n theirs_all)) (mine_from m x d mine x_is)
                ∙ ap (with_lacking (kept_of before x ∷ drop (m + 1) mine_all)) (theirs_from n y e theirs y_is)
                ∙ next_equal (kept_of before x) (drop (m + 1) mine_all) (stepped step (kept_of before y)) (drop (n + 1) theirs_all) (sym compared ∙ equal));
          }

    -- the next of the other is handed on
    module _ (chains' : List Chain) (mark : Mark) (made : mark ≡ record { element = y.element; link = length chains })
        (longer : chains' ≡ chains ++ with_step step (get_or chains y.link no_chain) ∷ []) where
      handed : kept_of chains' mark ≡ stepped step (kept_of before y)
      handed =
          ap (kept_of chains') made
          ∙ ap (λ (c : Chain). record { element = y.element; chain = c })
          (ap (λ (cs : List Chain). get_or cs (length chains) no_chain) longer
          ∙ get_or-append_seam chains (with_step step (get_or chains y.link no_chain)) [] no_chain)
          ∙ ap (λ (k : Kept). stepped step k) (same_of before chains y so_far.extends (there_at before given n y e theirs y_is there_theirs))

      grows : Extends chains chains'
      grows = (with_step step (get_or chains y.link no_chain) ∷ [], longer)

      one_more : length chains' ≡ length chains + 1
      one_more = omega (arith, ap length longer, length-append chains (with_step step (get_or chains y.link no_chain) ∷ []))

      pub joined_greater : order_from (drop m set) y ≡ Greater → IsJoined chains' (items ++ mark ∷ []) m (n + 1)
      joined_greater greater =
          record {
            mine = so_far.mine;
            theirs = omega (arith, theirs);
            extends = extends_then before chains chains' so_far.extends grows;
            there = there_push chains' items mark (still_there chains chains' items grows so_far.there) (omega (arith, one_more, ap (λ (x : Mark). x.link) made));
            count = omega (arith, so_far.count, one_more, length-append items (mark ∷ []));
            all = more chains' items mark (stepped step (kept_of before y)) (with_lacking (drop m mine_all) (drop n theirs_all)) (with_lacking (drop m mine_all) (drop (n + 1) theirs_all))
                (with_lacking mine_all theirs_all) handed
                (ap (λ (ks : List Kept). ks ++ with_lacking (drop m mine_all) (drop n theirs_all)) (same_in chains chains' items grows so_far.there) ∙ so_far.all)
                (ap (with_lacking (drop m mine_all)) (theirs_from n y e theirs y_is)
                ∙ ap (λ (ks : List Kept). with_lacking ks (stepped step (kept_of before y) ∷ drop (n + 1) theirs_all)) (drop-map (kept_of before) m set)
                ∙ next_greater before (drop m set) y (stepped step (kept_of before y)) (drop (n + 1) theirs_all) refl greater
                ∙ ap (λ (ks : List Kept). stepped step (kept_of before y) ∷ with_lacking ks (drop (n + 1) theirs_all)) (sym (drop-map (kept_of before) m set)));
          }

  -- at the end of what is handed on, the rest of the set follows
  module _ (there_mine : AreThere before set) (chains : List Chain) (items items' : List Mark) (m n : ℕ) (over : length given ≤ n) (so_far : IsJoined chains items m n)
      (all_are : items' ≡ items ++ drop m set) where
    rest_same : kept_in chains (drop m set) ≡ drop m mine_all
    rest_same = same_in before chains (drop m set) so_far.extends (there_from before set m there_mine) ∙ sym (drop-map (kept_of before) m set)

    pub joined_all : kept_in chains items' ≡ with_lacking mine_all theirs_all
    joined_all =
        ap (kept_in chains) all_are ∙ map-append (kept_of chains) items (drop m set) ∙ ap (λ (ks : List Kept). kept_in chains items ++ ks) (rest_same ∙ sym (lacking_nothing (drop m mine_all)))
        ∙ ap (λ (ks : List Kept). kept_in chains items ++ with_lacking (drop m mine_all) ks)
        (sym (drop_all n theirs_all (omega (arith, over, length-map (kept_in before given) (stepped step), length-map given (kept_of before)))))
        ∙ so_far.all

    pub all_there : AreThere chains items'
    all_there = subst (AreThere chains) (sym all_are) (there_both chains items (drop m set) so_far.there (still_there before chains (drop m set) so_far.extends (there_from before set m there_mine)))

    pub all_counted : length chains + length set ≡ length before + length items'
    all_counted = omega (arith, so_far.count, so_far.mine, ap length all_are, length-append items (drop m set), length-drop m set)

-- Sets by the numbers of ids

pub padded : (sets : Sets) (n : ℕ) → set_at (sets ++ [] ∷ []) n ≡ set_at sets n
padded [] zero = refl
padded [] (suc n) = refl
padded (s ∷ sets) zero = refl
padded (s ∷ sets) (suc n) = padded sets n

pub put_at : (sets old : Sets) (number : ℕ) (new : List Mark) → number < length sets → ((n : ℕ) → set_at sets n ≡ set_at old n) → (n : ℕ)
    → set_at (set sets number new) n ≡ cond (nat_eq n number) new (set_at old n)
put_at sets old number new within same n = one (nat_eq n number) refl
  where
    one : (b : Bool) → nat_eq n number ≡ b → set_at (set sets number new) n ≡ cond b new (set_at old n)
    one true is =
        let here : n ≡ number = grind (arith, nat_tests) in
        ap (λ (k : ℕ). get_or (set sets number new) k []) here ∙ get_or-set_same sets number new [] within
    one false is = get_or-set_other sets number n new [] (λ here. differs n number is here) ∙ same n
      where
        differs : (a b : ℕ) → nat_eq a b ≡ false → a ≡ b → ⊥
        differs a b test equal = grind (arith, nat_tests)
