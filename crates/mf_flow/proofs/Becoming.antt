-- What becomes of each policy's sources, as a loop goes over them.
use Rattle.std.proofs.Common.{◌≡◌, ℕ, ◌<◌, ◌+◌, zero, suc, Bool, List, [], ◌∷◌, get_or, length, map, set, refl, ap, ◌∙◌, subst, arith}
use Rattle.std.specs.List.{AllByRecursion}
use Rattle.std.specs.Option.{option_zip}
use Rattle.mf_policy.specs.declared.registration.Registration.{Registration}
use Rattle.mf_objects.specs.Live.{Entities}
use Rattle.mf_plan.specs.declared.found.Found.{Found}
use Rattle.mf_flow.specs.declared.following.Flow.{Flow}
use Rattle.mf_flow.specs.Rows.{EachBecomes, IsKept, where_done, flow_settled}

-- what is left of a call, done or not, by what was found
abbrev pub IsSettled : ℕ → Entities → Found → Bool → Flow → Flow → Type 0
IsSettled next objects found is_done f new =
    IsKept objects (flow_settled next objects found.caller (where_done is_done (option_zip found.target found.request)) f) new

-- so many have become what they shall, and the rest is as it was
abbrev pub SoFar : (Flow → Flow → Type 0) → List Flow → List Flow → ℕ → Type 0
SoFar R [] [] n = Unit {0}
SoFar R (f ∷ fs) (f' ∷ fs') zero = (f' ≡ f) × SoFar R fs fs' zero
SoFar R (f ∷ fs) (f' ∷ fs') (suc n) = R f f' × SoFar R fs fs' n
SoFar R fs fs' n = ⊥

pub none_yet : (R : Flow → Flow → Type 0) (fs : List Flow) → SoFar R fs fs 0
none_yet R [] = tt
none_yet R (f ∷ fs) = (refl, none_yet R fs)

pub as_many : (R : Flow → Flow → Type 0) (fs fs' : List Flow) (n : ℕ) → SoFar R fs fs' n → length fs' ≡ length fs
as_many R [] [] n so_far = refl
as_many R [] (f' ∷ fs') n so_far = absurd so_far
as_many R (f ∷ fs) [] n so_far = absurd so_far
as_many R (f ∷ fs) (f' ∷ fs') zero so_far = omega (arith, as_many R fs fs' zero so_far.1)
as_many R (f ∷ fs) (f' ∷ fs') (suc n) so_far = omega (arith, as_many R fs fs' n so_far.1)

-- the next one is as it was
pub as_it_was : (R : Flow → Flow → Type 0) (fs fs' : List Flow) (n : ℕ) (d : Flow) → SoFar R fs fs' n → n < length fs → get_or fs' n d ≡ get_or fs n d
as_it_was R [] fs' n d so_far within = absurd (omega arith)
as_it_was R (f ∷ fs) [] n d so_far within = absurd so_far
as_it_was R (f ∷ fs) (f' ∷ fs') zero d so_far within = so_far.0
as_it_was R (f ∷ fs) (f' ∷ fs') (suc n) d so_far within = as_it_was R fs fs' n d so_far.1 (omega (arith, within))

one_more : (R : Flow → Flow → Type 0) (fs fs' : List Flow) (n : ℕ) (d new : Flow) → SoFar R fs fs' n → n < length fs → R (get_or fs n d) new
    → SoFar R fs (set fs' n new) (suc n)
one_more R [] fs' n d new so_far within is = absurd (omega arith)
one_more R (f ∷ fs) [] n d new so_far within is = absurd so_far
one_more R (f ∷ fs) (f' ∷ fs') zero d new so_far within is = (is, so_far.1)
one_more R (f ∷ fs) (f' ∷ fs') (suc n) d new so_far within is = (so_far.0, one_more R fs fs' n d new so_far.1 (omega (arith, within)) is)

pub becomes_more : (R : Flow → Flow → Type 0) (fs fs' : List Flow) (n : ℕ) (here new : Flow) → SoFar R fs fs' n → n < length fs → here ≡ get_or fs' n here → R here new
    → SoFar R fs (set fs' n new) (n + 1)
becomes_more R fs fs' n here new so_far within at is =
    let place : suc n ≡ n + 1 = omega arith in
    let own : here ≡ get_or fs n here = at ∙ as_it_was R fs fs' n here so_far within in
    subst (SoFar R fs (set fs' n new)) place (one_more R fs fs' n here new so_far within (subst (λ (f : Flow). R f new) own is))

pub all_become : (R : Flow → Flow → Type 0) (fs fs' : List Flow) (n : ℕ) → n ≡ length fs → SoFar R fs fs' n → EachBecomes R fs fs'
all_become R [] [] n all so_far = tt
all_become R [] (f' ∷ fs') n all so_far = absurd so_far
all_become R (f ∷ fs) [] n all so_far = absurd so_far
all_become R (f ∷ fs) (f' ∷ fs') zero all so_far = absurd (omega (arith, all))
all_become R (f ∷ fs) (f' ∷ fs') (suc n) all so_far = (so_far.0, all_become R fs fs' n (omega (arith, all)) so_far.1)

-- one after another
pub becomes_along : (R S T : Flow → Flow → Type 0) (fs fs' fs'' : List Flow) → ((f f' f'' : Flow) → R f f' → S f' f'' → T f f'')
    → EachBecomes R fs fs' → EachBecomes S fs' fs'' → EachBecomes T fs fs''
becomes_along R S T [] [] [] along first second = tt
becomes_along R S T [] [] (f'' ∷ fs'') along first second = absurd second
becomes_along R S T [] (f' ∷ fs') fs'' along first second = absurd first
becomes_along R S T (f ∷ fs) [] fs'' along first second = absurd first
becomes_along R S T (f ∷ fs) (f' ∷ fs') [] along first second = absurd second
becomes_along R S T (f ∷ fs) (f' ∷ fs') (f'' ∷ fs'') along first second =
    (along f f' f'' first.0 second.0, becomes_along R S T fs fs' fs'' along first.1 second.1)

pub becomes_itself : (R : Flow → Flow → Type 0) (fs : List Flow) → ((f : Flow) → R f f) → EachBecomes R fs fs
becomes_itself R [] own = tt
becomes_itself R (f ∷ fs) own = (own f, becomes_itself R fs own)

-- what is so of each is so of what each becomes
pub all_becoming : (R : Flow → Flow → Type 0) (P Q : Flow → Type 0) (fs fs' : List Flow) → ((f f' : Flow) → R f f' → P f → Q f')
    → EachBecomes R fs fs' → AllByRecursion P fs → AllByRecursion Q fs'
all_becoming R P Q [] [] gives become all = tt
all_becoming R P Q [] (f' ∷ fs') gives become all = absurd become
all_becoming R P Q (f ∷ fs) [] gives become all = absurd become
all_becoming R P Q (f ∷ fs) (f' ∷ fs') gives become all = (gives f f' become.0 all.0, all_becoming R P Q fs fs' gives become.1 all.1)

pub same_registrations : (R : Flow → Flow → Type 0) (fs fs' : List Flow) → ((f f' : Flow) → R f f' → f'.registration ≡ f.registration) → EachBecomes R fs fs'
    → map (λ (f : Flow). f.registration) fs' ≡ map (λ (f : Flow). f.registration) fs
same_registrations R [] [] same become = refl
same_registrations R [] (f' ∷ fs') same become = absurd become
same_registrations R (f ∷ fs) [] same become = absurd become
same_registrations R (f ∷ fs) (f' ∷ fs') same become =
    ap (λ (r : Registration). r ∷ map (λ (f : Flow). f.registration) fs') (same f f' become.0)
    ∙ ap (λ (rs : List Registration). f.registration ∷ rs) (same_registrations R fs fs' same become.1)

pub by_registration : (P : Registration → Type 0) (fs : List Flow) → AllByRecursion P (map (λ (f : Flow). f.registration) fs)
    → AllByRecursion (λ (f : Flow). P f.registration) fs
by_registration P [] all = tt
by_registration P (f ∷ fs) all = (all.0, by_registration P fs all.1)
