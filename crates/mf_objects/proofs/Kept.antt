-- What each change makes of the live entities, and that it keeps what is true of every population.
use Rattle.std.proofs.Common.{◌≡◌, ◌≢◌, ◌↔◌, ℕ, ◌<◌, ◌≤◌, ◌+◌, List, [], ◌∷◌, ◌++◌, Option, inl, inr, Some, None, length, get_or, set, take, drop, map, remove, refl, ap, sym, ◌∙◌, subst, arith, zero, suc, IsSome, nat_eq, nat_lt, true, false, Bool, cond, position, not, Result, Ok, Err, OnOk, OnErr, IsTrue}
use Rattle.std.specs.declared.alloc.AllocError.{AllocError}
use Rattle.std.specs.Prelude.{All, find, unwrap_or}
use Rattle.std.specs.List.{position_or_len}
use Rattle.std.proofs.lemmas.List.{set-get_or, map-append, set_split, length-set, length-map, length-take-le, length-append, length-drop, get_or-map, take-map, drop-map}
use Rattle.std.proofs.lemmas.List.Elements.{All-push}
use Rattle.std.proofs.lemmas.List.Quantifiers.{position-Some, all_pairs_remove}
use Rattle.std.proofs.lemmas.Bool.{lt-ltb, false≢true, cases_lt}
use Rattle.mf_elem.specs.declared.label.LabelValue.{LabelValue}
use Rattle.mf_elem.specs.declared.label.LabelValue.TheVariants.{Unset, Range, Number}
use Rattle.mf_slots.specs.Zones.{Contents, Handles, handle, label_values, MakesLabel, GivesUp, Relabels, IsMadeFor, AreMade, value_for, SetsAt, IsMadeAt, Makes, IsHeld, IsHeldAt, NoneUnset, slot_value, value_under}
use Rattle.mf_slots.proofs.ZonesLaws.{set_writes, set_makes, set_gives_up, unset_exactly}
use Rattle.mf_slots.proofs.Relabelling.{set_relabels}
use Rattle.mf_objects.proofs.Entities.{label_of, changed_at}
use Rattle.mf_objects.specs.declared.id.Id.{Id}
use Rattle.mf_objects.specs.declared.entity.Entity.{Entity}
use Rattle.mf_objects.specs.declared.entity.EntityData.{EntityData}
use Rattle.mf_objects.specs.Live.{LiveEntity, Entities, has_id, live_at, label_at}
use Rattle.mf_objects.specs.Lives.{passes, HasSlotsFor, value_at as live_value}
use Rattle.mf_objects.specs.Changes.{with_change, with_what}
use Rattle.mf_objects.specs.Descriptors.{fds_of}
use Rattle.mf_objects.specs.Labels.{with_value, with_label}
use Rattle.mf_objects.specs.Fits.{IsBare}
use Rattle.mf_objects.specs.Population.{NoBytesIfDirectory, Belongs, AreDescriptors, IsPopulation, is_namesake}
use Rattle.mf_objects.specs.Sound.{live_entity, labels_of, IsExact, live_of, IsSound, IsPlace}
use Rattle.mf_objects.proofs.Zoned.{exact_push, live_push, exact_drop, live_drop, is_held, SetsSlot, relabels_set, relabels_make, exact_relabel, live_relabel, split_place, live_split}
use Rattle.mf_objects.proofs.Relabelled.{exact_whole, live_whole}
use Rattle.mf_objects.proofs.Rising.{rising_push, rising_remove, rising_mapped, changed_id, root_push, root_remove, root_mapped, set_changed, find_first, id_is}
use Rattle.mf_objects.proofs.Belonging.{Stays, AllStay, StaysAt, stays_same, changed_stays, all_of_id, directories_mapped, All-remove, belong_push, belong_remove, belong_mapped, bare_none, find_own}
use Rattle.mf_objects.proofs.Names.{changed_name, names_mapped, names_push}
use Rattle.mf_objects.proofs.Opened.{described_push, bare_unopened, described_remove, described_mapped, described_same, fds_changed}

-- the live entities as contracts see them
abbrev pub view : ℕ → Contents → List Entity → Entities
view next zones es = record { next = next; live = live_of zones es }

-- these fields are a population, which contracts see so
pub record Becomes (next : ℕ) (zones : Contents) (es : List Entity) (objects : Entities) : Type 0 where
  pub sound : IsSound next zones es
  pub shows : view next zones es ≡ objects

pub added : (next : ℕ) (zones zones' : Contents) (es : List Entity) (e : Entity) (values : List LabelValue) → e.id.0 ≡ next → length es < 1024 → length values ≡ 4
    → IsSound next zones es → Belongs (live_of zones es) next e.what → NoBytesIfDirectory e.what → fds_of e.what ≡ [] → find (is_namesake e.name e.what) (live_of zones es) ≡ None → MakesLabel zones zones' e.label values
    → Becomes (next + 1) zones' (es ++ e ∷ []) (record { next = next + 1; live = live_of zones es ++ record { id = e.id; name = e.name; label = values; what = e.what } ∷ [] })
added next zones zones' es e values is room four sound belongs no_bytes unopened free makes =
    let x : LiveEntity = record { id = e.id; name = e.name; label = values; what = e.what } in
    let live : live_of zones' (es ++ e ∷ []) ≡ live_of zones es ++ x ∷ [] = live_push zones zones' es e values four sound.exact makes in
    let joined : Belongs (live_of zones es) x.id.0 x.what = subst (λ (n : ℕ). Belongs (live_of zones es) n x.what) (sym is) belongs in
    let grown : IsPopulation (record { next = next + 1; live = live_of zones es ++ x ∷ [] }) =
    record {
      rising = rising_push 0 next (live_of zones es) x is sound.population.rising;
      rooted = root_push (live_of zones es) (x ∷ []) sound.population.rooted;
      belong = belong_push (live_of zones es) x sound.population.belong joined;
      directories = All-push (λ (l : LiveEntity). NoBytesIfDirectory l.what) (live_of zones es) x sound.population.directories no_bytes;
      names = names_push (live_of zones es) x sound.population.names free;
      descriptors = described_push (live_of zones es) x sound.population.descriptors unopened;
    } in
    record {
      sound = record {
        population = rw live grown;
        few = omega (arith, length-append es (e ∷ []));
        exact = exact_push zones zones' es e values sound.exact makes;
        set = set_makes zones zones' e.label values sound.set makes;
      };
      shows = ap (λ (ls : List LiveEntity). let o : Entities = record { next = next + 1; live = ls } in o) live;
    }

live_remove : (zones : Contents) (es : List Entity) (i : ℕ) → live_of zones (remove es i) ≡ remove (live_of zones es) i
live_remove zones es i =
    map-append (live_entity zones) (take i es) (drop (suc i) es)
    ∙ ap (λ (ls : List LiveEntity). ls ++ map (live_entity zones) (drop (suc i) es)) (sym (take-map (live_entity zones) i es))
    ∙ ap (λ (ls : List LiveEntity). take i (map (live_entity zones) es) ++ ls) (sym (drop-map (live_entity zones) (suc i) es))

seen_place : (zones : Contents) (es : List Entity) (i : ℕ) (e : Entity) → i < length es → e ≡ get_or es i e → live_entity zones e ≡ get_or (live_of zones es) i (live_entity zones e)
seen_place zones es i e within is = ap (live_entity zones) is ∙ sym (get_or-map (live_entity zones) es i e (live_entity zones e) within)

pub dropped : (next : ℕ) (zones zones' : Contents) (es : List Entity) (i : ℕ) (e : Entity) → i < length es → 0 < i → e ≡ get_or es i e
    → IsSound next zones es → IsBare (live_of zones es) e.id e.what → GivesUp zones zones' e.label
    → Becomes next zones' (remove es i) (record { next = next; live = remove (live_of zones es) i })
dropped next zones zones' es i e within later is sound bare gives =
    let exact : IsExact zones (labels_of (take i es ++ e ∷ drop (suc i) es)) =
    subst (λ (xs : List Entity). IsExact zones (labels_of xs)) (split_place es i e within is) sound.exact in
    let live : live_of zones' (remove es i) ≡ remove (live_of zones es) i =
    live_drop zones zones' (take i es) (drop (suc i) es) e exact gives ∙ live_remove zones es i in
    let lives : List LiveEntity = live_of zones es in
    let long : i < length lives = omega (arith, within, length-map es (live_entity zones)) in
    let at : live_entity zones e ≡ get_or lives i (live_entity zones e) = seen_place zones es i e within is in
    let own : find (has_id e.id) lives ≡ Some (live_entity zones e) =
    subst (λ (x : LiveEntity). find (has_id x.id) lives ≡ Some x) (sym at) (find_own 0 next lives i (live_entity zones e) long sound.population.rising) in
    let one : (test : EntityData → Bool) → passes test (find (has_id e.id) lives) ≡ test e.what = λ test. ap (passes test) own in
    let shrunk : IsPopulation (record { next = next; live = remove lives i }) =
    record {
      rising = rising_remove 0 next lives i sound.population.rising;
      rooted = root_remove lives i later sound.population.rooted;
      belong = belong_remove lives i (live_entity zones e) long at sound.population.belong (bare_none lives e.id e.what sound.population.belong one bare);
      directories = All-remove (λ (l : LiveEntity). NoBytesIfDirectory l.what) lives i sound.population.directories;
      names = all_pairs_remove (λ (older l : LiveEntity). is_namesake l.name l.what older ≡ false) lives i long sound.population.names;
      descriptors = described_remove lives i (live_entity zones e) long at sound.population.descriptors (bare_unopened lives e.id e.what sound.population.descriptors one bare);
    } in
    record {
      sound = record {
        population = rw live shrunk;
        few = omega (arith, sound.few, length-append (take i es) (drop (suc i) es), length-take-le i es (omega arith), length-drop (suc i) es);
        exact = exact_drop zones zones' (take i es) (drop (suc i) es) e exact gives;
        set = set_gives_up zones zones' e.label sound.set gives;
      };
      shows = ap (λ (ls : List LiveEntity). let o : Entities = record { next = next; live = ls } in o) live;
    }

pub bare_place : (next : ℕ) (zones : Contents) (es : List Entity) (objects : Entities) (i : ℕ) (e : Entity) → view next zones es ≡ objects → i < length es → e ≡ get_or es i e
    → ((d : LiveEntity) → IsBare objects.live (get_or objects.live i d).id (get_or objects.live i d).what) → IsBare (live_of zones es) e.id e.what
bare_place next zones es objects i e shows within is bare =
    let lives : List LiveEntity = live_of zones es in
    let here : IsBare lives (get_or lives i (live_entity zones e)).id (get_or lives i (live_entity zones e)).what =
    subst (λ (o : Entities). IsBare o.live (get_or o.live i (live_entity zones e)).id (get_or o.live i (live_entity zones e)).what) (sym shows) (bare (live_entity zones e)) in
    subst (λ (x : LiveEntity). IsBare lives x.id x.what) (sym (seen_place zones es i e within is)) here

pub held_place : (next : ℕ) (zones : Contents) (es : List Entity) (i : ℕ) (e : Entity) → i < length es → e ≡ get_or es i e
    → IsSound next zones es → IsHeld zones e.label
held_place next zones es i e within is sound =
    is_held zones (take i es) (drop (suc i) es) e (subst (λ (xs : List Entity). IsExact zones (labels_of xs)) (split_place es i e within is) sound.exact)

-- a slot of an entity is made exactly where its value isn't Unset
pub made_exactly : (next : ℕ) (zones : Contents) (es : List Entity) (i : ℕ) (e : Entity) (slot : ℕ) → i < length es → e ≡ get_or es i e → slot < 4
    → IsSound next zones es → (slot_value zones e.label slot ≡ Unset) ↔ (handle e.label slot ≡ None)
made_exactly next zones es i e slot within is four sound =
    let held = held_place next zones es i e within is sound in
    unset_exactly zones e.label slot sound.set (held.each slot four)

pub made_place : (zones : Contents) (slot : ℕ) (key : Option ℕ) → IsHeldAt zones slot key → IsSome key → IsMadeAt zones slot key
made_place zones slot None held some = cc
made_place zones slot (Some h) held some = held

-- places

pub place_within : (next : ℕ) (zones : Contents) (es : List Entity) (id : Id) (i : ℕ) → IsPlace (view next zones es) id i → i < length es
place_within next zones es id i place = omega (arith, place.within, length-map es (live_entity zones))

-- what contracts see of the entity at a place
pub found_place : (next : ℕ) (zones : Contents) (es : List Entity) (id : Id) (i : ℕ) (e : Entity) → IsPlace (view next zones es) id i → e ≡ get_or es i e
    → live_at (view next zones es) id ≡ Some (live_entity zones e)
found_place next zones es id i e place is =
    place.found (live_entity zones e) ∙ ap (λ (x : LiveEntity). Some x) (sym (seen_place zones es i e (place_within next zones es id i place) is))

-- entities that are changed, and keep their ids and names
pub population_mapped : (f : LiveEntity → LiveEntity) (objects : Entities) → ((e : LiveEntity) → (f e).id ≡ e.id) → ((e : LiveEntity) → (f e).name ≡ e.name)
    → AllStay f objects.live → All (λ e. AreDescriptors objects.live (fds_of (f e).what)) objects.live
    → IsPopulation objects → IsPopulation (record objects { live = map f objects.live })
population_mapped f objects ids names stay described population =
    record {
      rising = rising_mapped f 0 objects.next objects.live ids population.rising;
      rooted = root_mapped f objects.live ids (λ k d l. (stay k d l).directory) population.rooted;
      belong = belong_mapped f objects.live ids stay population.belong;
      directories = directories_mapped f objects.live stay population.directories;
      names = names_mapped f objects.live names stay population.names;
      descriptors = described_mapped f objects.live ids stay described;
    }

-- the descriptors of the entity at a place
pub described_place : (next : ℕ) (zones : Contents) (es : List Entity) (id : Id) (i : ℕ) (e : Entity) → IsPlace (view next zones es) id i → e ≡ get_or es i e
    → IsSound next zones es → AreDescriptors (live_of zones es) (fds_of e.what)
described_place next zones es id i e place is sound =
    subst (λ (x : LiveEntity). AreDescriptors (live_of zones es) (fds_of x.what)) (sym (seen_place zones es i e (place_within next zones es id i place) is))
    (sound.population.descriptors i (live_entity zones e) place.within)

-- the entity at a place is changed, as contracts see it
changes : (next : ℕ) (zones zones' : Contents) (es es' : List Entity) (id : Id) (i : ℕ) (e : Entity) (change : LiveEntity → LiveEntity)
    → IsPlace (view next zones es) id i → e ≡ get_or es i e → IsSound next zones es
    → ((x : LiveEntity) → (change x).id ≡ x.id) → ((x : LiveEntity) → (change x).name ≡ x.name) → Stays e.what (change (live_entity zones e)).what
    → AreDescriptors (live_of zones es) (fds_of (change (live_entity zones e)).what)
    → live_of zones' es' ≡ set (live_of zones es) i (change (live_entity zones e)) → length es' ≡ length es → IsExact zones' (labels_of es') → NoneUnset zones'
    → Becomes next zones' es' (with_change change (view next zones es) id)
changes next zones zones' es es' id i e change place is sound ids named stays described shows len exact set_now =
    let within : i < length es = place_within next zones es id i place in
    let long : i < length (live_of zones es) = place.within in
    let at : live_entity zones e ≡ get_or (live_of zones es) i (live_entity zones e) = seen_place zones es i e within is in
    let has : has_id id (live_entity zones e) ≡ true = ap (has_id id) at ∙ place.has (live_entity zones e) in
    let live : live_of zones' es' ≡ map (changed_at change id) (live_of zones es) =
    shows ∙ set_changed change id 0 next (live_of zones es) i (live_entity zones e) long sound.population.rising at has in
    let at_id : StaysAt change id (live_of zones es) =
    all_of_id (λ (x : LiveEntity). Stays x.what (change x).what) id next (live_of zones es) i (live_entity zones e) long sound.population.rising at has stays in
    let here : All (λ x. has_id id x ≡ true → AreDescriptors (live_of zones es) (fds_of (change x).what)) (live_of zones es) =
    all_of_id (λ (x : LiveEntity). AreDescriptors (live_of zones es) (fds_of (change x).what)) id next (live_of zones es) i (live_entity zones e) long sound.population.rising at has described in
    let changed : IsPopulation (record { next = next; live = map (changed_at change id) (live_of zones es) }) =
    population_mapped (changed_at change id) (view next zones es) (changed_id change id ids) (changed_name change id named) (changed_stays change id (live_of zones es) at_id)
    (fds_changed change id (live_of zones es) here sound.population.descriptors) sound.population in
    record {
      sound = record {
        population = rw live changed;
        few = omega (arith, len, sound.few);
        exact = exact;
        set = set_now;
      };
      shows = ap (λ (ls : List LiveEntity). let o : Entities = record { next = next; live = ls } in o) live;
    }

relabelled : (next : ℕ) (zones zones' : Contents) (es : List Entity) (id : Id) (i : ℕ) (e : Entity) (label : Handles) (slot h : ℕ) (v : LabelValue)
    → IsPlace (view next zones es) id i → e ≡ get_or es i e → IsSound next zones es → v ≢ Unset → SetsSlot zones zones' (take i es) (drop (suc i) es) e label slot h v
    → Becomes next zones' (set es i (record e { label = label })) (with_change (with_value slot v) (view next zones es) id)
relabelled next zones zones' es id i e label slot h v place is sound value relabels =
    let e' : Entity = record e { label = label } in
    let within : i < length es = place_within next zones es id i place in
    let split : es ≡ take i es ++ e ∷ drop (suc i) es = split_place es i e within is in
    let exact : IsExact zones (labels_of (take i es ++ e ∷ drop (suc i) es)) = subst (λ (xs : List Entity). IsExact zones (labels_of xs)) split sound.exact in
    let put : set es i e' ≡ take i es ++ e' ∷ drop (suc i) es = set_split es i e' within in
    let live : live_of zones' (set es i e') ≡ set (live_of zones es) i (with_value slot v (live_entity zones e)) =
    ap (live_of zones') put
    ∙ live_relabel zones zones' (take i es) (drop (suc i) es) e label slot h v relabels
    ∙ live_split zones (take i es) (drop (suc i) es) e i (with_value slot v (live_entity zones e)) (length-take-le i es (omega arith))
    ∙ ap (λ (xs : List Entity). set (live_of zones xs) i (with_value slot v (live_entity zones e))) (sym split) in
    changes next zones zones' es (set es i e') id i e (with_value slot v) place is sound (λ x. refl) (λ x. refl) (stays_same e.what) (described_place next zones es id i e place is sound) live (length-set es i e')
    (rw put (exact_relabel zones zones' (take i es) (drop (suc i) es) e label slot h v exact relabels))
    (set_writes zones zones' slot h v sound.set value relabels.writes)

pub value_set : (next : ℕ) (zones zones' : Contents) (es : List Entity) (id : Id) (i : ℕ) (e : Entity) (slot : ℕ) (v : LabelValue)
    → slot < 4 → v ≢ Unset → IsPlace (view next zones es) id i → e ≡ get_or es i e → IsSound next zones es → SetsAt zones zones' slot (handle e.label slot) v
    → Becomes next zones' (set es i e) (with_change (with_value slot v) (view next zones es) id)
value_set next zones zones' es id i e slot v four value place is sound sets = by_key (handle e.label slot) refl sets
  where
    by_key : (key : Option ℕ) → handle e.label slot ≡ key → SetsAt zones zones' slot key v
        → Becomes next zones' (set es i e) (with_change (with_value slot v) (view next zones es) id)
    by_key None own sets = absurd sets
    by_key (Some h) own sets =
        let exact : IsExact zones (labels_of (take i es ++ e ∷ drop (suc i) es)) =
        subst (λ (xs : List Entity). IsExact zones (labels_of xs)) (split_place es i e (place_within next zones es id i place) is) sound.exact in
        relabelled next zones zones' es id i e e.label slot h v place is sound value
        (relabels_set zones zones' (take i es) (drop (suc i) es) e slot h v four exact own sets)

pub value_made : (next : ℕ) (zones zones' : Contents) (es : List Entity) (id : Id) (i : ℕ) (e : Entity) (label : Handles) (slot : ℕ) (v : LabelValue)
    → slot < 4 → v ≢ Unset → IsPlace (view next zones es) id i → e ≡ get_or es i e → IsSound next zones es → handle e.label slot ≡ None → Makes zones zones' e.label label slot v
    → Becomes next zones' (set es i (record e { label = label })) (with_change (with_value slot v) (view next zones es) id)
value_made next zones zones' es id i e label slot v four value place is sound unset makes =
    let exact : IsExact zones (labels_of (take i es ++ e ∷ drop (suc i) es)) =
    subst (λ (xs : List Entity). IsExact zones (labels_of xs)) (split_place es i e (place_within next zones es id i place) is) sound.exact in
    relabelled next zones zones' es id i e label slot makes.new v place is sound value
    (relabels_make zones zones' (take i es) (drop (suc i) es) e label slot v four exact unset makes)

-- the whole label gets new values
pub label_changed : (next : ℕ) (zones zones' : Contents) (es : List Entity) (id : Id) (i : ℕ) (e : Entity) (label : Handles) (values : List LabelValue) → length values ≡ 4
    → IsPlace (view next zones es) id i → e ≡ get_or es i e → IsSound next zones es → Relabels zones zones' e.label label values
    → Becomes next zones' (set es i (record e { label = label })) (with_change (with_label values) (view next zones es) id)
label_changed next zones zones' es id i e label values four place is sound relabels =
    let e' : Entity = record e { label = label } in
    let within : i < length es = place_within next zones es id i place in
    let split : es ≡ take i es ++ e ∷ drop (suc i) es = split_place es i e within is in
    let exact : IsExact zones (labels_of (take i es ++ e ∷ drop (suc i) es)) = subst (λ (xs : List Entity). IsExact zones (labels_of xs)) split sound.exact in
    let put : set es i e' ≡ take i es ++ e' ∷ drop (suc i) es = set_split es i e' within in
    let live : live_of zones' (set es i e') ≡ set (live_of zones es) i (with_label values (live_entity zones e)) =
    ap (live_of zones') put
    ∙ live_whole zones zones' (take i es) (drop (suc i) es) e label values four exact relabels
    ∙ live_split zones (take i es) (drop (suc i) es) e i (with_label values (live_entity zones e)) (length-take-le i es (omega arith))
    ∙ ap (λ (xs : List Entity). set (live_of zones xs) i (with_label values (live_entity zones e))) (sym split) in
    changes next zones zones' es (set es i e') id i e (with_label values) place is sound (λ x. refl) (λ x. refl) (stays_same e.what) (described_place next zones es id i e place is sound) live (length-set es i e')
    (rw put (exact_whole zones zones' (take i es) (drop (suc i) es) e label values exact relabels))
    (set_relabels zones zones' e.label label values sound.set relabels)

labels_set : (es : List Entity) (i : ℕ) (e e' : Entity) → e ≡ get_or es i e → e'.label ≡ e.label → labels_of (set es i e') ≡ labels_of es
labels_set [] i e e' is same = refl
labels_set (x ∷ es) zero e e' is same = ap (λ (l : Handles). l ∷ labels_of es) (same ∙ ap (λ (y : Entity). y.label) is)
labels_set (x ∷ es) (suc i) e e' is same = ap (λ (ls : List Handles). x.label ∷ ls) (labels_set es i e e' is same)

live_set : (zones : Contents) (es : List Entity) (i : ℕ) (e : Entity) → live_of zones (set es i e) ≡ set (live_of zones es) i (live_entity zones e)
live_set zones [] i e = refl
live_set zones (x ∷ es) zero e = refl
live_set zones (x ∷ es) (suc i) e = ap (λ (ls : List LiveEntity). live_entity zones x ∷ ls) (live_set zones es i e)

-- what an entity holds is changed
pub what_changed : (next : ℕ) (zones : Contents) (es : List Entity) (id : Id) (i : ℕ) (e : Entity) (w : EntityData) (change : EntityData → EntityData)
    → IsPlace (view next zones es) id i → e ≡ get_or es i e → IsSound next zones es → Stays e.what (change e.what)
    → AreDescriptors (live_of zones es) (fds_of w) → w ≡ change e.what
    → Becomes next zones (set es i (record e { what = w })) (with_change (with_what change) (view next zones es) id)
what_changed next zones es id i e w change place is sound stays described changed =
    let e' : Entity = record e { what = w } in
    let live : live_of zones (set es i e') ≡ set (live_of zones es) i (with_what change (live_entity zones e)) =
    live_set zones es i e' ∙ ap (λ (x : EntityData). set (live_of zones es) i (with_what (λ _. x) (live_entity zones e))) changed in
    changes next zones zones es (set es i e') id i e (with_what change) place is sound (λ x. refl) (λ x. refl) stays
    (described_same (live_of zones es) (fds_of w) (fds_of (change e.what)) (ap fds_of (sym changed)) described) live (length-set es i e')
    (subst (λ (ls : List Handles). IsExact zones ls) (sym (labels_set es i e e' is refl)) sound.exact) sound.set

-- Look-ups by id

before_end : (zones : Contents) (id : Id) (es : List Entity) → IsSome (find (has_id id) (live_of zones es))
    → position_or_len (λ (e : Entity). nat_eq e.id.0 id.0) es < length es
before_end zones id [] some = cc
before_end zones id (e ∷ es) some = one (nat_eq e.id.0 id.0) (before_end zones id es) some
  where
    rest : ℕ
    rest = position_or_len (λ (x : Entity). nat_eq x.id.0 id.0) es

    one : (b : Bool) → (IsSome (find (has_id id) (live_of zones es)) → rest < length es)
        → IsSome (cond b (Some (live_entity zones e)) (find (has_id id) (live_of zones es))) → cond (not b) (1 + rest) 0 < suc (length es)
    one true later some = omega arith
    one false later some = omega (arith, later some)

pub position_some : (zones : Contents) (id : Id) (es : List Entity) → IsSome (find (has_id id) (live_of zones es))
    → IsSome (position (λ (e : Entity). nat_eq e.id.0 id.0) es)
position_some zones id es some =
    let n : ℕ = position_or_len (λ (e : Entity). nat_eq e.id.0 id.0) es in
    let yes : nat_lt n (length es) ≡ true = lt-ltb n (length es) (before_end zones id es some) in
    rw yes refl

pub place_found : (next : ℕ) (zones : Contents) (es : List Entity) (id : Id) (i : ℕ) → IsSound next zones es
    → position (λ (e : Entity). nat_eq e.id.0 id.0) es ≡ Some i → IsPlace (view next zones es) id i
place_found next zones [] id i sound at = absurd sound.population.rooted
place_found next zones (r ∷ es) id i sound at =
    let all : List Entity = r ∷ es in
    let first = position-Some (λ (e : Entity). nat_eq e.id.0 id.0) all i r at in
    let same : (d : LiveEntity) (k : ℕ) → k < length all → get_or (live_of zones all) k d ≡ live_entity zones (get_or all k r) =
    λ d k l. get_or-map (live_entity zones) all k r d l in
    let has : (d : LiveEntity) → has_id id (get_or (live_of zones all) i d) ≡ true = λ d. ap (has_id id) (same d i first.0) ∙ first.1 in
    record {
      within = omega (arith, first.0, length-map all (live_entity zones));
      found = λ d. find_first (has_id id) (live_of zones all) i d (omega (arith, first.0, length-map all (live_entity zones))) (has d)
          (λ k l. ap (has_id id) (same d k (omega (arith, first.0))) ∙ first.2 k l);
      has = has;
      later = λ ne. later_place i at_root ne (has (live_entity zones r));
    }
  where
    at_root : r.id.0 ≡ 0
    at_root = sound.population.rooted.0

    later_place : (k : ℕ) → r.id.0 ≡ 0 → id.0 ≢ 0 → has_id id (get_or (live_of zones (r ∷ es)) k (live_entity zones r)) ≡ true → 0 < k
    later_place zero root ne has = absurd (ne (sym (id_is id (live_entity zones r) has) ∙ root))
    later_place (suc k) root ne has = omega arith

-- the value of a label slot of the entity at a place
pub get_values : (zones : Contents) (label : Handles) (slot : ℕ) → slot < 4 → get_or (label_values zones label) slot Unset ≡ slot_value zones label slot
unfolding label_values
get_values zones label zero four = refl
get_values zones label (suc zero) four = refl
get_values zones label (suc (suc zero)) four = refl
get_values zones label (suc (suc (suc zero))) four = refl
get_values zones label (suc (suc (suc (suc slot)))) four = absurd (omega arith)

pub value_place : (next : ℕ) (zones : Contents) (es : List Entity) (id : Id) (i : ℕ) (e : Entity) (slot : ℕ) → slot < 4
    → IsPlace (view next zones es) id i → e ≡ get_or es i e → live_value (view next zones es) id slot ≡ slot_value zones e.label slot
value_place next zones es id i e slot four place is =
    ap (λ (o : Option LiveEntity). get_or (label_of o) slot Unset) (found_place next zones es id i e place is) ∙ get_values zones e.label slot four

-- there is none beyond
none_beyond : (zones : Contents) (label : Handles) (slot : ℕ) → 4 ≤ slot → get_or (label_values zones label) slot Unset ≡ Unset
unfolding label_values
none_beyond zones label zero beyond = absurd (omega arith)
none_beyond zones label (suc zero) beyond = absurd (omega arith)
none_beyond zones label (suc (suc zero)) beyond = absurd (omega arith)
none_beyond zones label (suc (suc (suc zero))) beyond = absurd (omega arith)
none_beyond zones label (suc (suc (suc (suc slot)))) beyond = refl

none_there : (value : Option LabelValue) (slot : ℕ) → (IsSome value → slot < 4) → 4 ≤ slot → unwrap_or value Unset ≡ Unset
none_there None slot within beyond = refl
none_there (Some value) slot within beyond = let below = within refl in absurd (omega (arith, below, beyond))

-- the value of any slot, where it is made
pub reference_place : (next : ℕ) (zones : Contents) (es : List Entity) (id : Id) (i : ℕ) (e : Entity) (slot : ℕ)
    → IsPlace (view next zones es) id i → e ≡ get_or es i e
    → (value : Option LabelValue) → unwrap_or value Unset ≡ slot_value zones e.label slot → (IsSome value → slot < 4)
    → unwrap_or value Unset ≡ live_value (view next zones es) id slot
reference_place next zones es id i e slot place is value held within = elim (cases_lt slot 4) [
  | inl below ↦ held ∙ sym (value_place next zones es id i e slot below place is)
  | inr beyond ↦ none_there value slot within beyond ∙ sym (none_beyond zones e.label slot beyond)
      ∙ ap (λ (o : Option LiveEntity). get_or (label_of o) slot Unset) (sym (found_place next zones es id i e place is))
]

-- a slot that isn't made is Unset
pub unmade_value : (next : ℕ) (zones : Contents) (es : List Entity) (id : Id) (i : ℕ) (e : Entity) (slot : ℕ) → slot < 4
    → IsPlace (view next zones es) id i → e ≡ get_or es i e → handle e.label slot ≡ None → live_value (view next zones es) id slot ≡ Unset
unmade_value next zones es id i e slot four place is unset =
    value_place next zones es id i e slot four place is ∙ ap (λ (key : Option ℕ). value_under zones slot key) unset

pub unmade_none : (key : Option ℕ) → (IsSome key → IsTrue false) → key ≡ None
unmade_none None no_some = refl
unmade_none (Some h) no_some = absurd (false≢true (no_some refl))

pub set_same : (es : List Entity) (i : ℕ) (e : Entity) → e ≡ get_or es i e → set es i e ≡ es
set_same es i e is = ap (set es i) is ∙ set-get_or es i e

-- after `make`, whether it found memory or not
pub made_sound : (r : Result (Unit {0}) AllocError) (next : ℕ) (zones zones' : Contents) (es : List Entity) (id : Id) (i : ℕ) (e : Entity) (label : Handles) (slot : ℕ) (v : LabelValue)
    → slot < 4 → v ≢ Unset → IsPlace (view next zones es) id i → e ≡ get_or es i e → IsSound next zones es → handle e.label slot ≡ None
    → OnOk r (Makes zones zones' e.label label slot v) → OnErr r ((zones' ≡ zones) × (label ≡ e.label)) → IsSound next zones' (set es i (record e { label = label }))
made_sound (Ok u) next zones zones' es id i e label slot v four value place is sound unset makes same =
    (value_made next zones zones' es id i e label slot v four value place is sound unset makes).sound
made_sound (Err error) next zones zones' es id i e label slot v four value place is sound unset makes same =
    let e' : Entity = record e { label = label } in
    let is_same : e' ≡ e = ap (λ (l : Handles). let x : Entity = record e { label = l } in x) same.1 in
    let put : set es i e' ≡ es = ap (set es i) is_same ∙ set_same es i e is in
    rw (put, same.0) sound

-- after `relabel`, whether it found memory or not
pub relabel_sound : (r : Result (Unit {0}) AllocError) (next : ℕ) (zones zones' : Contents) (es : List Entity) (id : Id) (i : ℕ) (e : Entity) (label : Handles) (values : List LabelValue)
    → length values ≡ 4 → IsPlace (view next zones es) id i → e ≡ get_or es i e → IsSound next zones es
    → OnOk r (Relabels zones zones' e.label label values) → OnErr r ((zones' ≡ zones) × (label ≡ e.label)) → IsSound next zones' (set es i (record e { label = label }))
relabel_sound (Ok u) next zones zones' es id i e label values four place is sound relabels same =
    (label_changed next zones zones' es id i e label values four place is sound relabels).sound
relabel_sound (Err error) next zones zones' es id i e label values four place is sound relabels same =
    let e' : Entity = record e { label = label } in
    let is_same : e' ≡ e = ap (λ (l : Handles). let x : Entity = record e { label = l } in x) same.1 in
    let put : set es i e' ≡ es = ap (set es i) is_same ∙ set_same es i e is in
    rw (put, same.0) sound

-- a label whose slots aren't Unset where these values aren't has them made
pub slots_made : (next : ℕ) (zones : Contents) (es : List Entity) (id : Id) (i : ℕ) (e : Entity) (values : List LabelValue)
    → IsPlace (view next zones es) id i → e ≡ get_or es i e → HasSlotsFor (label_at (view next zones es) id) values → AreMade e.label values
slots_made next zones es id i e values place is has slot four =
    one (value_for values slot) (handle e.label slot) (λ value none. has slot four value (unmade_value next zones es id i e slot four place is none))
  where
    one : (v : LabelValue) (key : Option ℕ) → (v ≢ Unset → key ≡ None → ⊥) → IsMadeFor key v
    one Unset key some = tt
    one (Range r) None some = absurd (some (λ e. cc) refl)
    one (Range r) (Some h) some = refl
    one (Number n) None some = absurd (some (λ e. cc) refl)
    one (Number n) (Some h) some = refl

pub on_err : {T E : Type 0} (r : Result T E) (P : Type 0) → P → OnErr r P
on_err (Ok x) P p = tt
on_err (Err e) P p = p
