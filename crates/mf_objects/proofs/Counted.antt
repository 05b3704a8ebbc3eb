-- How many descriptors the processes have, through each change of the entities.
use Rattle.std.proofs.Common.{◌≡◌, ℕ, ◌<◌, ◌≤◌, ◌+◌, ◌-◌, List, [], ◌∷◌, ◌++◌, length, get_or, set, remove, ap, sym, ◌∙◌, subst, arith}
use Rattle.std.specs.Prelude.{All}
use Rattle.std.proofs.lemmas.List.{get_or-map, length-map}
use Rattle.std.proofs.lemmas.List.Sums.{sum_by-append, sum_by-cons, sum_by-set, sum_by-remove, sum_by-le}
use Rattle.mf_slots.specs.Zones.{Contents}
use Rattle.mf_objects.specs.declared.id.Id.{Id}
use Rattle.mf_objects.specs.declared.entity.Entity.{Entity}
use Rattle.mf_objects.specs.declared.descriptors.Fd.{Fd}
use Rattle.mf_objects.specs.Live.{LiveEntity}
use Rattle.mf_objects.specs.Descriptors.{fds_of}
use Rattle.mf_objects.specs.Population.{AreDescriptors}
use Rattle.mf_objects.specs.Sound.{live_entity, live_of, open_count, IsSound, IsPlace}
use Rattle.mf_objects.proofs.Kept.{view, place_within}

abbrev open_in : Entity → ℕ
open_in e = length (fds_of e.what)

pub count_cons : (e : Entity) (es : List Entity) → open_count (e ∷ es) ≡ length (fds_of e.what) + open_count es
count_cons e es = sum_by-cons open_in e es

pub count_push : (es : List Entity) (e : Entity) → fds_of e.what ≡ [] → open_count (es ++ e ∷ []) ≡ open_count es
count_push es e none = omega (arith, sum_by-append open_in es (e ∷ []), sum_by-cons open_in e [], ap (λ (fds : List Fd). length fds) none)

pub count_set : (es : List Entity) (i : ℕ) (e e' : Entity) → i < length es → e ≡ get_or es i e
    → open_count (set es i e') + length (fds_of e.what) ≡ open_count es + length (fds_of e'.what)
count_set es i e e' within is = ap (λ (x : Entity). open_count (set es i e') + open_in x) is ∙ sum_by-set open_in es i e' e within

pub count_same : (es : List Entity) (i : ℕ) (e e' : Entity) → i < length es → e ≡ get_or es i e → fds_of e'.what ≡ fds_of e.what → open_count (set es i e') ≡ open_count es
count_same es i e e' within is same = omega (arith, count_set es i e e' within is, ap (λ (fds : List Fd). length fds) same)

pub count_remove : (es : List Entity) (i : ℕ) (e : Entity) → i < length es → e ≡ get_or es i e → open_count (remove es i) + length (fds_of e.what) ≡ open_count es
count_remove es i e within is = ap (λ (x : Entity). open_count (remove es i) + open_in x) is ∙ sum_by-remove open_in es i e within

-- no more than all entities may have
pub count_most : (next : ℕ) (zones : Contents) (es : List Entity) → IsSound next zones es → open_count es ≤ 16384
count_most next zones es sound = omega (arith, sound.few, sum_by-le open_in 16 es few)
  where
    few : All (λ (e : Entity). length (fds_of e.what) ≤ 16) es
    few k d l =
        let are : AreDescriptors (live_of zones es) (fds_of (get_or (live_of zones es) k (live_entity zones d)).what) =
        sound.population.descriptors k (live_entity zones d) (omega (arith, l, length-map es (live_entity zones))) in
        subst (λ (x : LiveEntity). length (fds_of x.what) ≤ 16) (get_or-map (live_entity zones) es k d (live_entity zones d) l) are.few

-- a count that stays
pub still_open : (n : ℕ) (next : ℕ) (zones : Contents) (es : List Entity) (id : Id) (i : ℕ) (e e' : Entity) → IsPlace (view next zones es) id i → e ≡ get_or es i e
    → fds_of e'.what ≡ fds_of e.what → n ≡ open_count es → n ≡ open_count (set es i e')
still_open n next zones es id i e e' place is same count = count ∙ sym (count_same es i e e' (place_within next zones es id i place) is same)

-- a count without those of one entity, which are among it

pub among_open : (n k : ℕ) (es : List Entity) (i : ℕ) (e : Entity) → i < length es → e ≡ get_or es i e → n ≡ open_count es → k ≡ length (fds_of e.what) → k ≤ n
among_open n k es i e within is count own = omega (arith, count_remove es i e within is, count, own)

pub less_open : (n k : ℕ) (es : List Entity) (i : ℕ) (e : Entity) → i < length es → e ≡ get_or es i e → n ≡ open_count es → k ≡ length (fds_of e.what) → n - k ≡ open_count (remove es i)
less_open n k es i e within is count own = omega (arith, count_remove es i e within is, count, own)
