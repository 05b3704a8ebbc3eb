-- A chain traced back over one thing that happened.
use Rattle.std.proofs.Common.{◌≡◌, ℕ, ◌<◌, ◌≤◌, ◌+◌, ◌-◌, Bool, true, false, cond, List, [], ◌∷◌, ◌++◌, length, take, take_all, get_or, reverse, Some, None, inl, inr, refl, ap, sym, ◌∙◌, subst, arith, length-append}
use Rattle.std.specs.Prelude.{◌↔◌}
use Rattle.std.specs.List.{AllByRecursion}
use Rattle.std.proofs.Math.Seq.{get_or-append_seam, take-append_seam}
use Rattle.std.proofs.lemmas.List.{reverse-append, take_more, length-take}
use Rattle.mf_elem.specs.declared.elem.Elem.{Elem}
use Rattle.mf_objects.specs.declared.id.Id.{Id}
use Rattle.mf_chains.specs.declared.happening.Happening.{Happening}
use Rattle.mf_chains.specs.declared.happening.Happening.TheVariants.{Labelled, Moves}
use Rattle.mf_chains.specs.declared.happening.Occurrence.{Occurrence}
use Rattle.mf_chains.specs.declared.chain.Step.{Step}
use Rattle.mf_chains.specs.declared.chain.Chain.{Chain}
use Rattle.mf_chains.specs.Chains.{Leads, from_origin, giver_of, is_party, loses, maker_for, own_of, step_at, with_step}
use Rattle.mf_chains.specs.declared.tracing.Trace.{Trace}
use Rattle.mf_chains.specs.Tracing.{AreApart, IsAtOnce, IsLastOf, IsOriginOf, LeadsBefore, chain_to, is_move}

-- A step behind a chain

no_step : Step
no_step = record { party = record { 0 = 0 }; event = 0; item = 0 }

abbrev front : Chain → Chain
front c = record c { steps = take (length c.steps - 1) c.steps }

abbrev last_of : Chain → Step
last_of c = get_or c.steps (length c.steps - 1) no_step

one_less : (steps : List Step) (step : Step) → length (steps ++ step ∷ []) - 1 ≡ length steps
one_less steps step = omega (arith, length-append steps (step ∷ []))

front_with : (step : Step) (c : Chain) → front (with_step step c) ≡ c
front_with step c =
    ap (λ (n : ℕ). record c { steps = take n (c.steps ++ step ∷ []) }) (one_less c.steps step)
    ∙ ap (λ (xs : List Step). record c { steps = xs }) (take-append_seam c.steps (step ∷ []))

last_with : (step : Step) (c : Chain) → last_of (with_step step c) ≡ step
last_with step c =
    ap (λ (n : ℕ). get_or (c.steps ++ step ∷ []) n no_step) (one_less c.steps step) ∙ get_or-append_seam c.steps step [] no_step

same_front : (step : Step) (c c' : Chain) → with_step step c ≡ with_step step c' → c ≡ c'
same_front step c c' same = sym (front_with step c) ∙ ap front same ∙ front_with step c'

same_last : (step step' : Step) (c c' : Chain) → with_step step c ≡ with_step step' c' → step ≡ step'
same_last step step' c c' same = sym (last_with step c) ∙ ap last_of same ∙ last_with step' c'

no_origin : (p : Id) (event : ℕ) (step : Step) (c : Chain) → from_origin p event ≡ with_step step c → ⊥
no_origin p event step c same = omega (arith, ap (λ (x : Chain). length x.steps) same, length-append c.steps (step ∷ []))

-- so many of a chain's steps, with the last

pub last_step : (c : Chain) (n : ℕ) (step : Step) → n ≤ length c.steps → IsLastOf c n step → chain_to c n ≡ with_step step (chain_to c (n - 1))
last_step c n step within is =
    let less : n - 1 < length c.steps = omega (arith, is.0) in
    let next : n ≡ (n - 1) + 1 = omega (arith, is.0) in
    ap (λ (k : ℕ). chain_to c k) next
    ∙ ap (λ (xs : List Step). record c { steps = xs })
    (take_more c.steps (n - 1) step less ∙ ap (λ (x : Step). take (n - 1) c.steps ++ x ∷ []) is.1)

-- where so many steps end with a step, it is the last
is_last_step : (c : Chain) (n : ℕ) (step : Step) (before : Chain) → n ≤ length c.steps → chain_to c n ≡ with_step step before → IsLastOf c n step
is_last_step c n step before within same = (some, one)
  where
    some : 0 < n
    some = omega (arith, ap (λ (x : Chain). length x.steps) same, length-append before.steps (step ∷ []), length-take n c.steps)

    less : n - 1 < length c.steps
    less = omega (arith, some)

    here : chain_to c n ≡ with_step (get_or c.steps (n - 1) step) (chain_to c (n - 1))
    here =
        let next : n ≡ (n - 1) + 1 = omega (arith, some) in
        ap (λ (k : ℕ). chain_to c k) next ∙ ap (λ (xs : List Step). record c { steps = xs }) (take_more c.steps (n - 1) step less)

    one : get_or c.steps (n - 1) step ≡ step
    one = same_last (get_or c.steps (n - 1) step) step (chain_to c (n - 1)) before (sym here ∙ same)

-- A chain that ended before isn't ended by what happens at another moment

not_last : (x : Occurrence) (older : List Occurrence) (p q : Id) (e : Elem) (c before : Chain) → AllByRecursion (λ y. IsAtOnce x y → ⊥) older → Leads older p e c
    → c ≡ with_step (step_at x q) before → ⊥
not_last x [] p q e c before apart leads is = leads
not_last x (y ∷ older) p q e c before apart (inl own) is = no_origin p y.event (step_at x q) before (sym own.1 ∙ is)
not_last x (y ∷ older) p q e c before apart (inr (inl given)) is =
    let same : step_at y p ≡ step_at x q = same_last (step_at y p) (step_at x q) given.2 before (sym given.4 ∙ is) in
    apart.0 (sym (ap (λ (s : Step). s.event) same), sym (ap (λ (s : Step). s.item) same))
not_last x (y ∷ older) p q e c before apart (inr (inr still)) is = not_last x older p q e c before apart.1 still.1 is

-- what gives and loses nothing is a movement
gives_moves : (what : Happening) (p giver : Id) → giver_of what p ≡ Some giver → loses what p ≡ false → is_move what ≡ true
gives_moves (Labelled q own maker) p giver gives keeps = absurd (one (is_party p q) gives keeps)
  where
    one : (b : Bool) → cond b (maker_for own maker) None ≡ Some giver → b ≡ false → ⊥
    one true gives keeps = cc
    one false gives keeps = cc
gives_moves (Moves subject object to_subject to_object) p giver gives keeps = refl

-- what gives an own element loses what there was
owns_loses : (what : Happening) (p : Id) (e : Elem) → own_of what p ≡ Some e → loses what p ≡ false → ⊥
owns_loses (Labelled q own maker) p e owns keeps = one (is_party p q) owns keeps
  where
    one : (b : Bool) → cond b own None ≡ Some e → b ≡ false → ⊥
    one true owns keeps = cc
    one false owns keeps = cc
owns_loses (Moves subject object to_subject to_object) p e owns keeps = cc

module _ (x : Occurrence) (older : List Occurrence) (p : Id) (n : ℕ) (e : Elem) (c : Chain) (within : n ≤ length c.steps) (apart : AreApart (x ∷ older)) where
  -- where the last that happened is the chain's last step
  pub handed_on_here : (giver : Id) → giver_of x.what p ≡ Some giver → IsLastOf c n (step_at x p) → Leads older giver e (chain_to c (n - 1)) ↔ Leads (x ∷ older) p e (chain_to c n)
  handed_on_here giver gives last = (λ leads. inr (inl (giver, gives, chain_to c (n - 1), leads, ends)), back)
    where
      ends : chain_to c n ≡ with_step (step_at x p) (chain_to c (n - 1))
      ends = last_step c n (step_at x p) within last

      back : Leads (x ∷ older) p e (chain_to c n) → Leads older giver e (chain_to c (n - 1))
      back (inl own) = absurd (no_origin p x.event (step_at x p) (chain_to c (n - 1)) (sym own.1 ∙ ends))
      back (inr (inl given)) =
          let who : given.0 ≡ giver = cc in
          let front : given.2 ≡ chain_to c (n - 1) = same_front (step_at x p) given.2 (chain_to c (n - 1)) (sym given.4 ∙ ends) in
          subst (λ (g : Id). Leads older g e (chain_to c (n - 1))) who (subst (Leads older given.0 e) front given.3)
      back (inr (inr still)) =
          absurd (not_last x older p p e (chain_to c n) (chain_to c (n - 1)) (apart.0 (gives_moves x.what p giver gives still.0)) still.1 ends)

  -- where it isn't
  module _ (other : (giver : Id) → giver_of x.what p ≡ Some giver → IsLastOf c n (step_at x p) → ⊥) where
    none_given : (giver : Id) → giver_of x.what p ≡ Some giver → (before : Chain) → chain_to c n ≡ with_step (step_at x p) before → ⊥
    none_given giver gives before is = other giver gives (is_last_step c n (step_at x p) before within is)

    pub still_held : loses x.what p ≡ false → Leads older p e (chain_to c n) ↔ Leads (x ∷ older) p e (chain_to c n)
    still_held keeps = (λ leads. inr (inr (keeps, leads)), back)
      where
        back : Leads (x ∷ older) p e (chain_to c n) → Leads older p e (chain_to c n)
        back (inl own) = absurd (owns_loses x.what p e own.0 keeps)
        back (inr (inl given)) = absurd (none_given given.0 given.1 given.2 given.4)
        back (inr (inr still)) = still.1

    pub begun_here : own_of x.what p ≡ Some e → IsOriginOf c n p x.event → Leads (x ∷ older) p e (chain_to c n)
    begun_here own origin =
        inl (
          own,
          ap (λ (k : ℕ). chain_to c k) origin.0 ∙ ap (λ (q : Id). record { origin = q; event = c.event; steps = [] }) origin.1
              ∙ ap (λ (k : ℕ). from_origin p k) origin.2,
        )

    is_origin : chain_to c n ≡ from_origin p x.event → IsOriginOf c n p x.event
    is_origin same =
        (omega (arith, ap (λ (y : Chain). length y.steps) same, length-take n c.steps, within), ap (λ (y : Chain). y.origin) same, ap (λ (y : Chain). y.event) same)

    pub broken_here : loses x.what p ≡ true → (own_of x.what p ≡ Some e → IsOriginOf c n p x.event → ⊥) → Leads (x ∷ older) p e (chain_to c n) → ⊥
    broken_here lost other_origin (inl own) = other_origin own.0 (is_origin own.1)
    broken_here lost other_origin (inr (inl given)) = none_given given.0 given.1 given.2 given.4
    broken_here lost other_origin (inr (inr still)) = let no_more : true ≡ false = sym lost ∙ still.0 in cc

-- Over all that happened

pub newest : {A : Type 0} (xs : List A) (n : ℕ) (d : A) → n < length xs → reverse (take (n + 1) xs) ≡ get_or xs n d ∷ reverse (take n xs)
newest xs n d within = ap reverse (take_more xs n d within) ∙ reverse-append (take n xs) (get_or xs n d ∷ [])

-- with one thing more of the past left out
pub back_one : {A : Type 0} (past : List A) (n : ℕ) (d : A) → n < length past
    → reverse (take (length past - n) past) ≡ get_or past (length past - 1 - n) d ∷ reverse (take (length past - (n + 1)) past)
back_one past n d within =
    let here : length past - n ≡ (length past - 1 - n) + 1 = omega (arith, within) in
    let before : length past - 1 - n ≡ length past - (n + 1) = omega (arith, within) in
    ap (λ (k : ℕ). reverse (take k past)) here ∙ newest past (length past - 1 - n) d (omega (arith, within))
    ∙ ap (λ (k : ℕ). get_or past (length past - 1 - n) d ∷ reverse (take k past)) before

-- the chain leads over all exactly where what is left of it leads over what is left
pub record IsTraced (past : List Occurrence) (p : Id) (e : Elem) (c : Chain) (n : ℕ) (end : Id) (left : ℕ) : Type 0 where
  pub within : left ≤ length c.steps
  pub apart : AreApart (reverse (take (length past - n) past))
  pub then : Leads (reverse past) p e c → Leads (reverse (take (length past - n) past)) end e (chain_to c left)
  pub only : Leads (reverse (take (length past - n) past)) end e (chain_to c left) → Leads (reverse past) p e c

all_left : {A : Type 0} (xs : List A) → take (length xs - 0) xs ≡ xs
all_left xs = take_all (length xs - 0) xs (omega arith)

whole : (c : Chain) → chain_to c (length c.steps) ≡ c
whole c = ap (λ (xs : List Step). record c { steps = xs }) (take_all (length c.steps) c.steps (omega arith))

pub traced_none : (past : List Occurrence) (p : Id) (e : Elem) (c : Chain) → AreApart (reverse past) → IsTraced past p e c 0 p (length c.steps)
traced_none past p e c apart =
    let all : take (length past - 0) past ≡ past = all_left past in
    record {
      within = omega arith;
      apart = subst (λ (xs : List Occurrence). AreApart (reverse xs)) (sym all) apart;
      then = λ leads. subst (λ (xs : List Occurrence). Leads (reverse xs) p e (chain_to c (length c.steps))) (sym all) (subst (Leads (reverse past) p e) (sym (whole c)) leads);
      only = λ leads. subst (Leads (reverse past) p e) (whole c) (subst (λ (xs : List Occurrence). Leads (reverse xs) p e (chain_to c (length c.steps))) all leads);
    }

module _ (past : List Occurrence) (p : Id) (e : Elem) (c : Chain) (n : ℕ) (end : Id) (left : ℕ) (x d : Occurrence) (trace : Trace) (within : n < length past)
    (is : x ≡ get_or past (length past - 1 - n) d) (so_far : IsTraced past p e c n end left)
    (told : (older : List Occurrence) → AreApart (x ∷ older) → LeadsBefore trace older e c ↔ Leads (x ∷ older) end e (chain_to c left)) where
  abbrev pub older : List Occurrence
  older = reverse (take (length past - (n + 1)) past)

  here : reverse (take (length past - n) past) ≡ x ∷ older
  here = back_one past n d within ∙ ap (λ (y : Occurrence). y ∷ older) (sym is)

  apart_here : AreApart (x ∷ older)
  apart_here = subst AreApart here so_far.apart

  pub traced_then : Leads (reverse past) p e c → LeadsBefore trace older e c
  traced_then leads = (told older apart_here).1 (subst (λ (xs : List Occurrence). Leads xs end e (chain_to c left)) here (so_far.then leads))

  pub traced_only : LeadsBefore trace older e c → Leads (reverse past) p e c
  traced_only leads = so_far.only (subst (λ (xs : List Occurrence). Leads xs end e (chain_to c left)) (sym here) ((told older apart_here).0 leads))

  pub traced_apart : AreApart older
  traced_apart = apart_here.1

-- at the end
pub traced_all : (past : List Occurrence) (p : Id) (e : Elem) (c : Chain) (n : ℕ) (end : Id) (left : ℕ) → length past ≤ n → IsTraced past p e c n end left → Leads (reverse past) p e c → ⊥
traced_all past p e c n end left over so_far leads =
    let none : length past - n ≡ 0 = omega (arith, over) in
    subst (λ (k : ℕ). Leads (reverse (take k past)) end e (chain_to c left)) none (so_far.then leads)
