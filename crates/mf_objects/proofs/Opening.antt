-- One process opens or closes a descriptor.
use Rattle.std.proofs.Common.{◌≡◌, ℕ, ◌<◌, ◌+◌, ◌-◌, List, [], ◌∷◌, Option, Some, None, IsSome, length, get_or, set, true, refl, ap, sym, ◌∙◌, subst, arith}
use Rattle.std.proofs.lemmas.Bool.{false≢true}
use Rattle.std.proofs.lemmas.List.{length-append}
use Rattle.std.specs.Option.{option_map_or}
use Rattle.mf_slots.specs.Zones.{Contents}
use Rattle.mf_objects.specs.declared.id.Id.{Id}
use Rattle.mf_objects.specs.declared.descriptors.Fd.{Fd}
use Rattle.mf_objects.specs.declared.entity.Entity.{Entity}
use Rattle.mf_objects.specs.declared.entity.EntityData.{EntityData}
use Rattle.mf_objects.specs.declared.entity.EntityData.TheVariants.{Process, Vnode, Pipe, Socket}
use Rattle.mf_objects.specs.Live.{Entities, LiveEntity, is_process, live_at}
use Rattle.mf_objects.specs.Lives.{passes, is_regular, IsLive}
use Rattle.mf_objects.specs.Descriptors.{fds_of, fds_at, fd_in, with_fds, opened, closed, lowest_free}
use Rattle.mf_objects.specs.Population.{AreDescriptors}
use Rattle.mf_objects.specs.Sound.{live_of, open_count, IsSound, IsPlace}
use Rattle.mf_objects.proofs.Shorthands.{reading}
use Rattle.mf_objects.proofs.Numbers.{number_left, number_free}
use Rattle.mf_objects.proofs.Opened.{described_opened, described_same}
use Rattle.mf_objects.proofs.Kept.{view, place_within, found_place, described_place}
use Rattle.mf_objects.proofs.Counted.{count_set}
use Rattle.mf_objects.proofs.Closing.{described_filtered}

-- The process at a place

pub fds_place : (next : ℕ) (zones : Contents) (es : List Entity) (id : Id) (i : ℕ) (e : Entity) → IsPlace (view next zones es) id i → e ≡ get_or es i e
    → fds_at (view next zones es) id ≡ fds_of e.what
fds_place next zones es id i e place is = ap (reading fds_of []) (found_place next zones es id i e place is)

process_place : (next : ℕ) (zones : Contents) (es : List Entity) (id : Id) (i : ℕ) (e : Entity) → IsPlace (view next zones es) id i → e ≡ get_or es i e
    → IsLive is_process (view next zones es) id → is_process e.what ≡ true
process_place next zones es id i e place is live = sym (ap (passes is_process) (found_place next zones es id i e place is)) ∙ live

-- Closing

-- what has something open is live
pub open_live : (objects : Entities) (id : Id) (n : ℕ) → IsSome (fd_in (fds_at objects id) n) → IsSome (live_at objects id)
open_live objects id n is_open = by_found (live_at objects id) is_open
  where
    by_found : (o : Option LiveEntity) → IsSome (fd_in (option_map_or (λ e. fds_of e.what) o []) n) → IsSome o
    by_found None is_open = absurd (false≢true is_open)
    by_found (Some e) is_open = refl

pub closed_described : (n next : ℕ) (zones : Contents) (es : List Entity) (id : Id) (i : ℕ) (e : Entity) (w : EntityData) → IsPlace (view next zones es) id i → e ≡ get_or es i e
    → IsSound next zones es → w ≡ with_fds (closed n) e.what → AreDescriptors (live_of zones es) (fds_of w)
closed_described n next zones es id i e w place is sound value =
    described_same (live_of zones es) (fds_of (with_fds (closed n) e.what)) (fds_of w) (ap fds_of value)
    (described_filtered (live_of zones es) _ e.what (described_place next zones es id i e place is sound))

pub closed_open : (total n next : ℕ) (zones : Contents) (es : List Entity) (id : Id) (i : ℕ) (e : Entity) (w : EntityData) → IsPlace (view next zones es) id i → e ≡ get_or es i e
    → length (fds_of w) + n ≡ length (fds_of e.what) → total ≡ open_count es → total - n ≡ open_count (set es i (record e { what = w }))
closed_open total n next zones es id i e w place is count are =
    omega (arith, count_set es i e (record e { what = w }) (place_within next zones es id i place) is, count, are)

-- Opening

pub opened_described : (fd : Fd) (next : ℕ) (zones : Contents) (es : List Entity) (id : Id) (i : ℕ) (e : Entity) (w : EntityData) → IsPlace (view next zones es) id i → e ≡ get_or es i e
    → IsSound next zones es → IsLive is_process (view next zones es) id → length (fds_at (view next zones es) id) < 16 → IsLive is_regular (view next zones es) fd.file
    → fd.number ≡ lowest_free (fds_at (view next zones es) id) → w ≡ with_fds (opened fd) e.what → AreDescriptors (live_of zones es) (fds_of w)
opened_described fd next zones es id i e w place is sound process few regular number value =
    let own : fds_at (view next zones es) id ≡ fds_of e.what = fds_place next zones es id i e place is in
    let room : length (fds_of e.what) < 16 = subst (λ (fds : List Fd). length fds < 16) own few in
    let lowest : fd.number ≡ lowest_free (fds_of e.what) = number ∙ ap lowest_free own in
    let left : lowest_free (fds_of e.what) < 16 = number_left (fds_of e.what) room in
    let free : fd_in (fds_of e.what) fd.number ≡ None = ap (fd_in (fds_of e.what)) lowest ∙ number_free (fds_of e.what) left in
    subst (λ (v : EntityData). AreDescriptors (live_of zones es) (fds_of v)) (sym value)
    (by_what e.what room (omega (arith, lowest, left)) free (described_place next zones es id i e place is sound))
  where
    by_what : (v : EntityData) → length (fds_of v) < 16 → fd.number < 16 → fd_in (fds_of v) fd.number ≡ None → AreDescriptors (live_of zones es) (fds_of v)
        → AreDescriptors (live_of zones es) (fds_of (with_fds (opened fd) v))
    by_what (Process own) room below free are = described_opened (live_of zones es) fd own.fds room below free regular are
    by_what (Vnode vnode) room below free are = are
    by_what (Pipe pipe) room below free are = are
    by_what (Socket socket) room below free are = are

pub opened_open : (fd : Fd) (total next : ℕ) (zones : Contents) (es : List Entity) (id : Id) (i : ℕ) (e : Entity) (w : EntityData) → IsPlace (view next zones es) id i → e ≡ get_or es i e
    → IsLive is_process (view next zones es) id → w ≡ with_fds (opened fd) e.what → total ≡ open_count es → total + 1 ≡ open_count (set es i (record e { what = w }))
opened_open fd total next zones es id i e w place is process value are =
    let more : length (fds_of w) ≡ length (fds_of e.what) + 1 =
    ap (λ (v : EntityData). length (fds_of v)) value ∙ by_what e.what (process_place next zones es id i e place is process) in
    omega (arith, count_set es i e (record e { what = w }) (place_within next zones es id i place) is, more, are)
  where
    by_what : (v : EntityData) → is_process v ≡ true → length (fds_of (with_fds (opened fd) v)) ≡ length (fds_of v) + 1
    by_what (Process own) process = omega (arith, length-append own.fds (fd ∷ []))
    by_what (Vnode vnode) process = absurd (false≢true process)
    by_what (Pipe pipe) process = absurd (false≢true process)
    by_what (Socket socket) process = absurd (false≢true process)
