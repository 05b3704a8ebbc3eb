-- Look-ups and readings of the live entities, as contracts see them.
use Rattle.std.proofs.Common.{◌≡◌, ◌≢◌, ℕ, ◌<◌, ◌≤◌, nat_le, ◌+◌, List, [], ◌∷◌, Option, Some, None, get_or, set, refl, ap, sym, ◌∙◌, subst, arith, IsSome, true, false, Bool, cond, eq-eqb, option_map, ◌&&◌, Result, Ok, Err, OnOk, OnErr}
use Rattle.std.specs.declared.alloc.AllocError.{AllocError}
use Rattle.std.proofs.lemmas.List.Elements.{All-nil, All-cons, All-weaker}
use Rattle.std.proofs.lemmas.Bool.Decides.{nat_tests}
use Rattle.std.specs.Prelude.{find, All, IfSome, IfNone}
use Rattle.mf_slots.specs.Zones.{Contents, label_values}
use Rattle.mf_objects.proofs.Entities.{label_of}
use Rattle.mf_objects.specs.declared.id.Id.{Id}
use Rattle.mf_objects.specs.declared.entity.Entity.{Entity}
use Rattle.mf_objects.specs.declared.entity.EntityData.{EntityData}
use Rattle.mf_objects.specs.declared.entity.EntityData.TheVariants.{Process, Vnode, Pipe, Socket}
use Rattle.mf_objects.specs.Live.{LiveEntity, Entities, has_id, live_at, id_of, messages_at, messages_of, label_at, is_one_named, is_entry}
use Rattle.mf_objects.proofs.Shorthands.{reading}
use Rattle.mf_objects.specs.Lives.{is_from, IsLeast, is_directory, IsFirstLive, IsLiveWhere, IsLive, is_vnode}
use Rattle.std.specs.Str.{bytes_eq}
use Rattle.mf_objects.specs.Descriptors.{fds_of}
use Rattle.mf_objects.specs.Population.{AreDescriptors, Belongs, IsPopulation, IsRising, HasRoot}
use Rattle.mf_objects.specs.Sound.{live_entity, with_values, live_of, IsSound, IsPlace}
use Rattle.mf_objects.proofs.Rising.{id_differs, at_least}
use Rattle.mf_objects.proofs.Belonging.{Stays, entry_directory, find_all}
use Rattle.mf_objects.proofs.Kept.{view, found_place, what_changed, set_same, described_place}
use Rattle.mf_objects.proofs.Opened.{described_same}

find-live : (test : LiveEntity → Bool) (zones : Contents) (es : List Entity)
    → find test (live_of zones es) ≡ option_map (live_entity zones) (find (λ (e : Entity). test (live_entity zones e)) es)
find-live test zones [] = refl
find-live test zones (e ∷ es) = one (test (live_entity zones e)) (find-live test zones es)
  where
    one : (b : Bool) → find test (live_of zones es) ≡ option_map (live_entity zones) (find (λ (x : Entity). test (live_entity zones x)) es)
        → cond b (Some (live_entity zones e)) (find test (live_of zones es)) ≡ option_map (live_entity zones) (cond b (Some e) (find (λ (x : Entity). test (live_entity zones x)) es))
    one true rest = refl
    one false rest = rest

ids_map : (zones : Contents) (found : Option Entity) → option_map (λ (e : LiveEntity). e.id) (option_map (live_entity zones) found) ≡ option_map (λ (e : Entity). e.id) found
ids_map zones None = refl
ids_map zones (Some e) = refl

pub inside_some : (a b : LiveEntity) → Some a ≡ Some b → a ≡ b
inside_some a b e = cc

-- what is found among rising ids has an id from the least on
pub find_least : (test : LiveEntity → Bool) (least next : ℕ) (es : List LiveEntity) (x : LiveEntity) → IsRising least next es → find test es ≡ Some x → least ≤ x.id.0
find_least test least next [] x rising is = cc
find_least test least next (e ∷ es) x rising is = one (test e) (find_least test (e.id.0 + 1) next es x rising.1) is
  where
    one : (b : Bool) → (find test es ≡ Some x → e.id.0 + 1 ≤ x.id.0) → cond b (Some e) (find test es) ≡ Some x → least ≤ x.id.0
    one true later is = let same : e.id.0 ≡ x.id.0 = ap (λ (l : LiveEntity). l.id.0) (inside_some e x is) in omega (arith, same, rising.0)
    one false later is = omega (arith, later is, rising.0)

-- its id finds it again
pub own_id : (test : LiveEntity → Bool) (least next : ℕ) (es : List LiveEntity) (x : LiveEntity) → IsRising least next es → find test es ≡ Some x → find (has_id x.id) es ≡ Some x
own_id test least next [] x rising is = cc
own_id test least next (e ∷ es) x rising is = one (test e) (own_id test (e.id.0 + 1) next es x rising.1) is
  where
    least_later : find test es ≡ Some x → e.id.0 + 1 ≤ x.id.0
    least_later = find_least test (e.id.0 + 1) next es x rising.1

    one : (b : Bool) → (find test es ≡ Some x → find (has_id x.id) es ≡ Some x) → cond b (Some e) (find test es) ≡ Some x → find (has_id x.id) (e ∷ es) ≡ Some x
    one true rest is =
        let same : e ≡ x = inside_some e x is in
        let hit : has_id x.id e ≡ true = eq-eqb e.id.0 x.id.0 (ap (λ (l : LiveEntity). l.id.0) same) in
        rw hit is
    one false rest is =
        let later : e.id.0 + 1 ≤ x.id.0 = least_later is in
        let miss : has_id x.id e ≡ false = id_differs x.id e (λ (same : e.id.0 ≡ x.id.0). omega (arith, same, later)) in
        rw miss (rest is)

-- the first of the live entities that passes a test, and its id
pub is_found : (test : LiveEntity → Bool) (o : Entities) → IsRising 0 o.next o.live → IsFirstLive test o (id_of (find test o.live))
is_found test o rising = record { id = refl; live = again (find test o.live) refl; absent = nothing (find test o.live) }
  where
    nothing : (found : Option LiveEntity) → IfNone (id_of found) (found ≡ None)
    nothing None = refl
    nothing (Some x) = tt

    again : (found : Option LiveEntity) → find test o.live ≡ found → IfSome (id_of found) (λ id. live_at o id ≡ found)
    again None is = tt
    again (Some x) is = own_id test 0 o.next o.live x rising is

pub found_id : (test : LiveEntity → Bool) (next : ℕ) (zones : Contents) (es : List Entity) (found : Option Id) → IsSound next zones es
    → found ≡ option_map (λ (e : Entity). e.id) (find (λ (e : Entity). test (live_entity zones e)) es) → IsFirstLive test (view next zones es) found
found_id test next zones es found sound is =
    subst (IsFirstLive test (view next zones es))
    (sym (is ∙ sym (ids_map zones (find (λ (e : Entity). test (live_entity zones e)) es)) ∙ ap id_of (sym (find-live test zones es))))
    (is_found test (view next zones es) sound.population.rising)

-- what contracts see of the entity at a place
pub shown_place : (next : ℕ) (zones : Contents) (es : List Entity) (id : Id) (i : ℕ) (e : Entity) → IsPlace (view next zones es) id i → e ≡ get_or es i e
    → live_at (view next zones es) id ≡ Some (with_values (label_of (live_at (view next zones es) id)) e)
shown_place next zones es id i e place is =
    let found : live_at (view next zones es) id ≡ Some (live_entity zones e) = found_place next zones es id i e place is in
    found ∙ ap (λ (o : Option LiveEntity). Some (with_values (label_of o) e)) (sym found)

pub where_place : (P : EntityData → Type 0) (next : ℕ) (zones : Contents) (es : List Entity) (id : Id) (i : ℕ) (e : Entity) → IsPlace (view next zones es) id i → e ≡ get_or es i e
    → IsLiveWhere P (live_at (view next zones es) id) → P e.what
where_place P next zones es id i e place is live = subst (λ (o : Option LiveEntity). IsLiveWhere P o) (found_place next zones es id i e place is) live

pub messages_place : (next : ℕ) (zones : Contents) (es : List Entity) (id : Id) (i : ℕ) (e : Entity) → IsPlace (view next zones es) id i → e ≡ get_or es i e
    → messages_at (view next zones es) id ≡ messages_of e.what
messages_place next zones es id i e place is = ap (reading messages_of []) (found_place next zones es id i e place is)

-- after a change that may want memory
pub what_sound : (r : Result (Unit {0}) AllocError) (next : ℕ) (zones : Contents) (es : List Entity) (id : Id) (i : ℕ) (e : Entity) (w : EntityData) (change : EntityData → EntityData)
    → IsPlace (view next zones es) id i → e ≡ get_or es i e → IsSound next zones es → Stays e.what (change e.what)
    → AreDescriptors (live_of zones es) (fds_of w) → OnOk r (w ≡ change e.what) → OnErr r (w ≡ e.what) → IsSound next zones (set es i (record e { what = w }))
what_sound (Ok u) next zones es id i e w change place is sound stays described changed same =
    (what_changed next zones es id i e w change place is sound stays described changed).sound
what_sound (Err error) next zones es id i e w change place is sound stays described changed same =
    let e' : Entity = record e { what = w } in
    let is_same : e' ≡ e = ap (λ (x : EntityData). let y : Entity = record e { what = x } in y) same in
    let put : set es i e' ≡ es = ap (set es i) is_same ∙ set_same es i e is in
    rw put sound

-- the label of the entity at a place
pub label_there : (next : ℕ) (zones : Contents) (es : List Entity) (id : Id) (i : ℕ) (e : Entity) → IsPlace (view next zones es) id i → e ≡ get_or es i e
    → label_values zones e.label ≡ label_at (view next zones es) id
label_there next zones es id i e place is = ap label_of (sym (found_place next zones es id i e place is))

root_found : (next : ℕ) (es : List LiveEntity) → HasRoot es → IsLive is_directory (record { next = next; live = es }) (record { 0 = 0 })
root_found next [] root = absurd root
root_found next (r ∷ es) root =
    let hit : has_id (record { 0 = 0 }) r ≡ true = eq-eqb r.id.0 0 root.0 in
    rw hit root.1

pub root_live : (next : ℕ) (zones : Contents) (es : List Entity) → IsSound next zones es → IsLive is_directory (view next zones es) (record { 0 = 0 })
root_live next zones es sound = root_found next (live_of zones es) sound.population.rooted

pub passes_found : (test : LiveEntity → Bool) (es : List LiveEntity) (x : LiveEntity) → find test es ≡ Some x → test x ≡ true
passes_found test [] x is = cc
passes_found test (e ∷ es) x is = one (test e) refl (passes_found test es x) is
  where
    one : (b : Bool) → test e ≡ b → (find test es ≡ Some x → test x ≡ true) → cond b (Some e) (find test es) ≡ Some x → test x ≡ true
    one true hit rest is = ap test (sym (inside_some e x is)) ∙ hit
    one false miss rest is = rest is

-- what is found is of the kind that the test asks for
pub kind_found : (test : LiveEntity → Bool) (kind : EntityData → Bool) → ((x : LiveEntity) → test x ≡ true → kind x.what ≡ true)
    → (objects : Entities) (found : Option Id) → IsFirstLive test objects found → IfSome found (λ id. IsLive kind objects id)
kind_found test kind asks objects None is = tt
kind_found test kind asks objects (Some id) is = by_live (find test objects.live) refl is.id
  where
    by_live : (o : Option LiveEntity) → find test objects.live ≡ o → Some id ≡ id_of (find test objects.live) → IsLive kind objects id
    by_live None e ids = absurd (cc (ids ∙ ap id_of e))
    by_live (Some x) e ids =
        let at : live_at objects id ≡ Some x = is.live ∙ e in
        rw at (asks x (passes_found test objects.live x e))

first_true : (a b : Bool) → a && b ≡ true → a ≡ true
first_true true b h = refl
first_true false b h = h

pub named_kind : (kind : EntityData → Bool) (name : List ℕ) (x : LiveEntity) → is_one_named kind name x ≡ true → kind x.what ≡ true
named_kind kind name x h = first_true (kind x.what) (bytes_eq x.name name) h

entry_vnode : (dir : Id) (w : EntityData) → is_entry dir w ≡ true → is_vnode w ≡ true
entry_vnode dir (Process process) h = h
entry_vnode dir (Vnode vnode) h = refl
entry_vnode dir (Pipe pipe) h = h
entry_vnode dir (Socket socket) h = h

pub child_kind : (dir : Id) (name : List ℕ) (x : LiveEntity) → is_one_named (is_entry dir) name x ≡ true → is_vnode x.what ≡ true
child_kind dir name x h = entry_vnode dir x.what (first_true (is_entry dir x.what) (bytes_eq x.name name) h)

pub live_found : (test : LiveEntity → Bool) (objects : Entities) (found : Option Id) → IsFirstLive test objects found → IfSome found (λ id. IsSome (live_at objects id))
live_found test objects None is = tt
live_found test objects (Some id) is = by_live (find test objects.live) refl is.id
  where
    by_live : (o : Option LiveEntity) → find test objects.live ≡ o → Some id ≡ id_of (find test objects.live) → IsSome (live_at objects id)
    by_live None e ids = absurd (cc (ids ∙ ap id_of e))
    by_live (Some x) e ids = let at : live_at objects id ≡ Some x = is.live ∙ e in rw at refl

-- an entry isn't the root
pub child_not_root : (dir : Id) (name : List ℕ) (objects : Entities) (found : Option Id) → IsPopulation objects → IsFirstLive (is_one_named (is_entry dir) name) objects found
    → IfSome found (λ id. id.0 ≢ 0)
child_not_root dir name objects None population is = tt
child_not_root dir name objects (Some id) population is = by_live (find (is_one_named (is_entry dir) name) objects.live) refl is.id
  where
    inside_id : (a b : Id) → Some a ≡ Some b → a ≡ b
    inside_id a b e = cc

    by_live : (o : Option LiveEntity) → find (is_one_named (is_entry dir) name) objects.live ≡ o → Some id ≡ id_of (find (is_one_named (is_entry dir) name) objects.live) → id.0 ≢ 0
    by_live None e ids = absurd (cc (ids ∙ ap id_of e))
    by_live (Some x) e ids =
        let belongs : Belongs objects.live x.id.0 x.what =
        find_all (λ (y : LiveEntity). Belongs objects.live y.id.0 y.what) (is_one_named (is_entry dir) name) objects.live x population.belong e in
        let entry : is_entry dir x.what ≡ true = first_true (is_entry dir x.what) (bytes_eq x.name name) (passes_found (is_one_named (is_entry dir) name) objects.live x e) in
        let older = entry_directory objects.live x.id.0 dir x.what belongs entry in
        let same : id ≡ x.id = inside_id id x.id (ids ∙ ap id_of e) in
        λ first. omega (arith, older.0, first, ap (λ (i : Id). i.0) same)

le_true : (n m : ℕ) → nat_le n m ≡ true → n ≤ m
le_true n m h = grind (arith, nat_tests)

le_false : (n m : ℕ) → nat_le n m ≡ false → m < n
le_false n m h = grind (arith, nat_tests)

all_from : (least next : ℕ) (es : List LiveEntity) → IsRising least next es → All (λ e. least ≤ e.id.0) es
all_from least next es rising k d l = at_least least next es k d l rising

least_is : (n least next : ℕ) (es : List LiveEntity) (x : LiveEntity) → IsRising least next es → find (is_from n) es ≡ Some x → IsLeast n es x.id
least_is n least next [] x rising is = cc
least_is n least next (e ∷ es) x rising is = one (nat_le n e.id.0) refl (least_is n (e.id.0 + 1) next es x rising.1) is
  where
    P : Id → LiveEntity → Type 0
    P id y = n ≤ y.id.0 → id.0 ≤ y.id.0

    one : (b : Bool) → nat_le n e.id.0 ≡ b → (find (is_from n) es ≡ Some x → IsLeast n es x.id) → cond b (Some e) (find (is_from n) es) ≡ Some x → IsLeast n (e ∷ es) x.id
    one true from later is =
        subst (λ (y : LiveEntity). IsLeast n (e ∷ es) y.id) (inside_some e x is) (record {
          from = le_true n e.id.0 from;
          least = All-cons (P e.id) e es (λ _. omega arith)
              (All-weaker (λ (y : LiveEntity). e.id.0 + 1 ≤ y.id.0) (P e.id) (λ y above _. omega (arith, above)) es (all_from (e.id.0 + 1) next es rising.1));
        })
    one false before later is =
        let rest : IsLeast n es x.id = later is in
        record {
          from = rest.from;
          least = All-cons (P x.id) e es (λ from. absurd (omega (arith, from, le_false n e.id.0 before))) rest.least;
        }

pub found_least : (n : ℕ) (objects : Entities) (found : Option Id) → IsRising 0 objects.next objects.live → IsFirstLive (is_from n) objects found
    → IfSome found (λ id. IsLeast n objects.live id)
found_least n objects None rising is = tt
found_least n objects (Some id) rising is = by_live (find (is_from n) objects.live) refl is.id
  where
    inside_id : (a b : Id) → Some a ≡ Some b → a ≡ b
    inside_id a b e = cc

    by_live : (o : Option LiveEntity) → find (is_from n) objects.live ≡ o → Some id ≡ id_of (find (is_from n) objects.live) → IsLeast n objects.live id
    by_live None e ids = absurd (cc (ids ∙ ap id_of e))
    by_live (Some x) e ids =
        subst (λ (i : Id). IsLeast n objects.live i) (sym (inside_id id x.id (ids ∙ ap id_of e))) (least_is n 0 objects.next objects.live x rising e)

all_before : (n : ℕ) (es : List LiveEntity) → find (is_from n) es ≡ None → All (λ e. e.id.0 < n) es
all_before n [] none = All-nil (λ (e : LiveEntity). e.id.0 < n)
all_before n (e ∷ es) none = one (nat_le n e.id.0) refl (all_before n es) none
  where
    one : (b : Bool) → nat_le n e.id.0 ≡ b → (find (is_from n) es ≡ None → All (λ x. x.id.0 < n) es) → cond b (Some e) (find (is_from n) es) ≡ None → All (λ x. x.id.0 < n) (e ∷ es)
    one true from later none = absurd (cc none)
    one false before later none = All-cons (λ (x : LiveEntity). x.id.0 < n) e es (le_false n e.id.0 before) (later none)

pub none_from : (n : ℕ) (objects : Entities) (found : Option Id) → IsFirstLive (is_from n) objects found → IfNone found (All (λ e. e.id.0 < n) objects.live)
none_from n objects None is = all_before n objects.live is.absent
none_from n objects (Some id) is = tt

-- a change that leaves the descriptors as they are
pub described_still : (next : ℕ) (zones : Contents) (es : List Entity) (id : Id) (i : ℕ) (e : Entity) (w : EntityData) → IsPlace (view next zones es) id i → e ≡ get_or es i e
    → IsSound next zones es → fds_of w ≡ fds_of e.what → AreDescriptors (live_of zones es) (fds_of w)
described_still next zones es id i e w place is sound same =
    described_same (live_of zones es) (fds_of e.what) (fds_of w) same (described_place next zones es id i e place is sound)
