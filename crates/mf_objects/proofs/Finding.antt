-- Look-ups by id among live entities that are changed.
use Rattle.std.proofs.Common.{◌≡◌, ℕ, ◌<◌, ◌≤◌, ◌+◌, Bool, true, false, cond, List, [], ◌∷◌, ◌++◌, Option, Some, None, map, refl, ap, ◌∙◌, arith, ◌⊎◌, inl, inr, nat_eq, eq-eqb, option_map}
use Rattle.std.specs.Prelude.{filter, find}
use Rattle.mf_objects.proofs.Entities.{changed_at}
use Rattle.mf_objects.specs.declared.id.Id.{Id}
use Rattle.mf_objects.specs.declared.entity.EntityData.{EntityData}
use Rattle.mf_objects.specs.Live.{LiveEntity, has_id, id_of}
use Rattle.mf_objects.specs.Changes.{with_what}
use Rattle.mf_objects.specs.Population.{IsRising}
use Rattle.mf_objects.proofs.Rising.{rising_weaker, id_is, id_differs, below_next}

-- an element that doesn't pass, and one behind those that don't pass

pub find_push_miss : (p : LiveEntity → Bool) (es : List LiveEntity) (x : LiveEntity) → p x ≡ false → find p (es ++ x ∷ []) ≡ find p es
find_push_miss p [] x miss = rw miss refl
find_push_miss p (e ∷ es) x miss = ap (λ (found : Option LiveEntity). cond (p e) (Some e) found) (find_push_miss p es x miss)

pub find_push_hit : (p : LiveEntity → Bool) (es : List LiveEntity) (x : LiveEntity) → find p es ≡ None → p x ≡ true → find p (es ++ x ∷ []) ≡ Some x
find_push_hit p [] x none hit = rw hit refl
find_push_hit p (e ∷ es) x none hit = one (p e) (find_push_hit p es x) none
  where
    one : (b : Bool) → (find p es ≡ None → p x ≡ true → find p (es ++ x ∷ []) ≡ Some x) → cond b (Some e) (find p es) ≡ None
        → cond b (Some e) (find p (es ++ x ∷ [])) ≡ Some x
    one true rest some = cc
    one false rest none = rest none hit

-- no entity has an id below all, or one that isn't given yet

pub find_before : (id : Id) (least next : ℕ) (es : List LiveEntity) → id.0 < least → IsRising least next es → find (has_id id) es ≡ None
find_before id least next [] early rising = refl
find_before id least next (e ∷ es) early rising =
    let miss : has_id id e ≡ false = id_differs id e (λ same. omega (arith, rising.0, same)) in
    rw miss (find_before id (e.id.0 + 1) next es (omega (arith, rising.0)) rising.1)

pub find_beyond : (id : Id) (least next : ℕ) (es : List LiveEntity) → next ≤ id.0 → IsRising least next es → find (has_id id) es ≡ None
find_beyond id least next [] late rising = refl
find_beyond id least next (e ∷ es) late rising =
    let within : e.id.0 + 1 ≤ next = below_next (e.id.0 + 1) next es rising.1 in
    let miss : has_id id e ≡ false = id_differs id e (λ same. omega (arith, within, same)) in
    rw miss (find_beyond id (e.id.0 + 1) next es late rising.1)

-- an id that is live was given
pub find_given : (id : Id) (e : LiveEntity) (least next : ℕ) (es : List LiveEntity) → find (has_id id) es ≡ Some e → IsRising least next es → id.0 < next
find_given id e least next [] found rising = cc
find_given id e least next (x ∷ es) found rising = one (has_id id x) refl (find_given id e (x.id.0 + 1) next es) found
  where
    one : (b : Bool) → has_id id x ≡ b → (find (has_id id) es ≡ Some e → IsRising (x.id.0 + 1) next es → id.0 < next)
        → cond b (Some x) (find (has_id id) es) ≡ Some e → id.0 < next
    one true hit rest here = omega (arith, id_is id x hit, below_next (x.id.0 + 1) next es rising.1)
    one false miss rest later = rest later rising.1

-- a change of entities that keeps their ids
pub find_mapped : (f : LiveEntity → LiveEntity) (id : Id) (es : List LiveEntity) → ((e : LiveEntity) → (f e).id ≡ e.id) → find (has_id id) (map f es) ≡ option_map f (find (has_id id) es)
find_mapped f id [] ids = refl
find_mapped f id (e ∷ es) ids =
    ap (λ (i : Id). cond (nat_eq i.0 id.0) (Some (f e)) (find (has_id id) (map f es))) (ids e) ∙ one (has_id id e) (find_mapped f id es ids)
  where
    one : (b : Bool) → find (has_id id) (map f es) ≡ option_map f (find (has_id id) es)
        → cond b (Some (f e)) (find (has_id id) (map f es)) ≡ option_map f (cond b (Some e) (find (has_id id) es))
    one true rest = refl
    one false rest = rest

-- a change of what an entity holds
pub find_changed : (change : EntityData → EntityData) (at id : Id) (es : List LiveEntity)
    → find (has_id id) (map (changed_at (with_what change) at) es) ≡ option_map (changed_at (with_what change) at) (find (has_id id) es)
find_changed change at id [] = refl
find_changed change at id (e ∷ es) =
    ap (λ (b : Bool). cond b (Some (changed e)) (find (has_id id) (map changed es))) (same (has_id at e))
    ∙ one (has_id id e) (find_changed change at id es)
  where
    changed : LiveEntity → LiveEntity
    changed = changed_at (with_what change) at

    same : (b : Bool) → has_id id (cond b (with_what change e) e) ≡ has_id id e
    same true = refl
    same false = refl

    one : (b : Bool) → find (has_id id) (map changed es) ≡ option_map changed (find (has_id id) es)
        → cond b (Some (changed e)) (find (has_id id) (map changed es)) ≡ option_map changed (cond b (Some e) (find (has_id id) es))
    one true rest = refl
    one false rest = rest

-- some entities go

pub rising_filter : (p : LiveEntity → Bool) (least next : ℕ) (es : List LiveEntity) → IsRising least next es → IsRising least next (filter p es)
rising_filter p least next [] rising = rising
rising_filter p least next (e ∷ es) rising = one (p e) (rising_filter p (e.id.0 + 1) next es rising.1)
  where
    one : (b : Bool) → IsRising (e.id.0 + 1) next (filter p es) → IsRising least next (cond b (e ∷ filter p es) (filter p es))
    one true rest = (rising.0, rest)
    one false rest = rising_weaker least (e.id.0 + 1) next (filter p es) (omega (arith, rising.0)) rest

pub find_filter : (p : LiveEntity → Bool) (id : Id) (least next : ℕ) (es : List LiveEntity) → IsRising least next es
    → (find (has_id id) (filter p es) ≡ find (has_id id) es) ⊎ (find (has_id id) (filter p es) ≡ None)
find_filter p id least next [] rising = inl refl
find_filter p id least next (e ∷ es) rising = one (p e) (has_id id e) refl (find_filter p id (e.id.0 + 1) next es rising.1)
  where
    one : (kept here : Bool) → has_id id e ≡ here
        → (find (has_id id) (filter p es) ≡ find (has_id id) es) ⊎ (find (has_id id) (filter p es) ≡ None)
        → (find (has_id id) (cond kept (e ∷ filter p es) (filter p es)) ≡ cond here (Some e) (find (has_id id) es))
        ⊎ (find (has_id id) (cond kept (e ∷ filter p es) (filter p es)) ≡ None)
    one true true hit rest = inl (rw hit refl)
    one true false miss rest = rw miss rest
    one false true hit rest =
        inr (find_before id (e.id.0 + 1) next (filter p es) (omega (arith, id_is id e hit)) (rising_filter p (e.id.0 + 1) next es rising.1))
    one false false miss rest = rest

-- the id of an entity that is found is live
pub found_live : (test : LiveEntity → Bool) (id : Id) (es : List LiveEntity) → id_of (find test es) ≡ Some id → (e : LiveEntity) × (find (has_id id) es ≡ Some e)
found_live test id [] found = cc
found_live test id (x ∷ es) found = one (test x) (has_id id x) refl (found_live test id es) found
  where
    one : (passes here : Bool) → has_id id x ≡ here → (id_of (find test es) ≡ Some id → (e : LiveEntity) × (find (has_id id) es ≡ Some e))
        → id_of (cond passes (Some x) (find test es)) ≡ Some id → (e : LiveEntity) × (cond here (Some x) (find (has_id id) es) ≡ Some e)
    one passes true hit rest found = (x, refl)
    one true false miss rest found =
        let is : x.id ≡ id = cc in
        cc (eq-eqb x.id.0 id.0 (ap (λ (i : Id). i.0) is))
    one false false miss rest found = rest found
