-- All descriptors on a file are closed, in all processes.
use Rattle.std.proofs.Common.{◌≡◌, ◌≢◌, ℕ, ◌<◌, ◌+◌, Bool, true, not, cond, List, [], ◌∷◌, ◌++◌, Option, Some, None, IsSome, length, get_or, set, take, drop, map, refl, ap, sym, ◌∙◌, subst, arith, eq-eqb}
use Rattle.std.specs.Prelude.{All, filter, count_by}
use Rattle.std.proofs.lemmas.Bool.{false≢true}
use Rattle.std.proofs.Math.Seq.{take-append_seam}
use Rattle.std.proofs.lemmas.List.{length-map}
use Rattle.std.proofs.lemmas.List.Edits.{map_over_more}
use Rattle.std.proofs.lemmas.List.Elements.{All-nil, All-map, All-weaker, filter_passes}
use Rattle.std.proofs.lemmas.List.Sums.{sum_by-cons}
use Rattle.mf_slots.specs.Zones.{Contents, Handles}
use Rattle.mf_objects.specs.declared.id.Id.{Id}
use Rattle.mf_objects.specs.declared.descriptors.Fd.{Fd}
use Rattle.mf_objects.specs.declared.entity.Entity.{Entity}
use Rattle.mf_objects.specs.declared.entity.EntityData.{EntityData}
use Rattle.mf_objects.specs.declared.entity.EntityData.TheVariants.{Process, Vnode, Pipe, Socket}
use Rattle.mf_objects.specs.Live.{LiveEntity, Entities, live_at, is_entry, entry_count}
use Rattle.mf_objects.specs.Lives.{passes, is_vnode, IsLive}
use Rattle.mf_objects.specs.Changes.{with_what}
use Rattle.mf_objects.specs.Descriptors.{fds_of, is_on, with_fds, closed_on, with_closed_on}
use Rattle.mf_objects.specs.Fits.{IsUnopened}
use Rattle.mf_objects.specs.Index.{group_of, IsIndex}
use Rattle.mf_objects.specs.Population.{AreDescriptors}
use Rattle.mf_objects.specs.Sound.{live_entity, labels_of, live_of, open_count, IsExact, IsSound}
use Rattle.mf_objects.proofs.Belonging.{fds_stay, passes_mapped}
use Rattle.mf_objects.proofs.Opened.{described_closed}
use Rattle.mf_objects.proofs.Kept.{view, Becomes, population_mapped}
use Rattle.mf_objects.proofs.Counted.{count_cons, count_set}
use Rattle.mf_objects.proofs.Indexed.{index_mapped}

-- an entity without descriptors on the file
abbrev pub closing : Id → Entity → Entity
closing file e = record e { what = with_fds (closed_on file) e.what }

-- one more of the entities, in a walk over them

pub closing_more : (file : Id) (xs ys : List Entity) (i : ℕ) (e : Entity) (w : EntityData) → i < length xs → ys ≡ map (closing file) (take i xs) ++ drop i xs
    → e ≡ get_or ys i e → w ≡ with_fds (closed_on file) e.what → set ys i (record (get_or ys i e) { what = w }) ≡ map (closing file) (take (i + 1) xs) ++ drop (i + 1) xs
closing_more file xs ys i e w within so_far at is =
    ap (λ (x : Entity). set ys i (record x { what = w })) (sym at)
    ∙ ap (λ (v : EntityData). set ys i (record e { what = v })) is
    ∙ map_over_more (closing file) xs ys i e within so_far at

pub count_more : (ys : List Entity) (i : ℕ) (e : Entity) (w : EntityData) (closed n total : ℕ) → i < length ys → e ≡ get_or ys i e
    → length (fds_of w) + n ≡ length (fds_of e.what) → open_count ys + closed ≡ total
    → open_count (set ys i (record (get_or ys i e) { what = w })) + (closed + n) ≡ total
count_more ys i e w closed n total within at count so_far =
    let e' : Entity = record e { what = w } in
    let put : open_count (set ys i (record (get_or ys i e) { what = w })) ≡ open_count (set ys i e') = ap (λ (x : Entity). open_count (set ys i (record x { what = w }))) (sym at) in
    omega (arith, put, count_set ys i e e' within at, count, so_far)

live_closed : (file : Id) (zones : Contents) (es : List Entity) → live_of zones (map (closing file) es) ≡ map (with_what (with_fds (closed_on file))) (live_of zones es)
live_closed file zones [] = refl
live_closed file zones (e ∷ es) = ap (λ (ls : List LiveEntity). live_entity zones (closing file e) ∷ ls) (live_closed file zones es)

labels_closed : (file : Id) (es : List Entity) → labels_of (map (closing file) es) ≡ labels_of es
labels_closed file [] = refl
labels_closed file (e ∷ es) = ap (λ (ls : List Handles). e.label ∷ ls) (labels_closed file es)

pub described_filtered : (live : List LiveEntity) (p : Fd → Bool) (w : EntityData) → AreDescriptors live (fds_of w) → AreDescriptors live (fds_of (with_fds (filter p) w))
described_filtered live p (Process process) are = described_closed live p process.fds are
described_filtered live p (Vnode vnode) are = are
described_filtered live p (Pipe pipe) are = are
described_filtered live p (Socket socket) are = are

pub closed_everywhere : (file : Id) (next : ℕ) (zones : Contents) (es : List Entity) → IsSound next zones es
    → Becomes next zones (map (closing file) es) (with_closed_on file (view next zones es))
closed_everywhere file next zones es sound =
    let live : live_of zones (map (closing file) es) ≡ map (with_what (with_fds (closed_on file))) (live_of zones es) = live_closed file zones es in
    let population =
    population_mapped (with_what (with_fds (closed_on file))) (view next zones es) (λ e. refl) (λ e. refl) (λ k d l. fds_stay (closed_on file) (get_or (live_of zones es) k d).what)
    (λ k d l. described_filtered (live_of zones es) _ (get_or (live_of zones es) k d).what (sound.population.descriptors k d l)) sound.population in
    record {
      sound = record {
        population = rw live population;
        few = omega (arith, sound.few, length-map es (closing file));
        exact = subst (λ (ls : List Handles). IsExact zones ls) (sym (labels_closed file es)) sound.exact;
        set = sound.set;
      };
      shows = ap (λ (ls : List LiveEntity). let o : Entities = record { next = next; live = ls } in o) live;
    }

same_group : (change : List Fd → List Fd) (w : EntityData) → group_of (with_fds change w) ≡ group_of w
same_group change (Process process) = refl
same_group change (Vnode vnode) = refl
same_group change (Pipe pipe) = refl
same_group change (Socket socket) = refl

pub index_closed : (file : Id) (index : List (List Id)) (es : List Entity) → IsIndex index es → IsIndex index (map (closing file) es)
index_closed file index es is = index_mapped (closing file) index es (λ e. refl) (λ e. refl) (λ e. same_group (closed_on file) e.what) is

-- where nothing is open, nothing changes

no_descriptors : (file : Id) (fds : List Fd) → length fds ≡ 0 → closed_on file fds ≡ fds
no_descriptors file [] none = refl
no_descriptors file (fd ∷ fds) none = absurd (omega (arith, none))

same_what : (file : Id) (w : EntityData) → length (fds_of w) ≡ 0 → with_fds (closed_on file) w ≡ w
same_what file (Process process) none = ap (λ (fds : List Fd). Process (record process { fds = fds })) (no_descriptors file process.fds none)
same_what file (Vnode vnode) none = refl
same_what file (Pipe pipe) none = refl
same_what file (Socket socket) none = refl

none_closed : (file : Id) (es : List Entity) → open_count es ≡ 0 → map (closing file) es ≡ es
none_closed file [] none = refl
none_closed file (e ∷ es) none =
    let split = count_cons e es in
    ap (λ (w : EntityData). record e { what = w } ∷ map (closing file) es) (same_what file e.what (omega (arith, none, split)))
    ∙ ap (λ (xs : List Entity). e ∷ xs) (none_closed file es (omega (arith, none, split)))

pub closed_nowhere : (file : Id) (next : ℕ) (zones : Contents) (es : List Entity) → open_count es ≡ 0 → view next zones es ≡ with_closed_on file (view next zones es)
closed_nowhere file next zones es none =
    ap (λ (xs : List Entity). view next zones xs) (sym (none_closed file es none))
    ∙ ap (λ (ls : List LiveEntity). let o : Entities = record { next = next; live = ls } in o) (live_closed file zones es)

-- The same, where the code walks over the entities as a slice

pub whole_slice : {X : Type 0} (n : ℕ) (ys xs : List X) → length ys ≡ n → take n (ys ++ drop (length ys) xs) ≡ ys
whole_slice n ys xs same = ap (λ (k : ℕ). take k (ys ++ drop (length ys) xs)) (sym same) ∙ take-append_seam ys (drop (length ys) xs)

-- What is left of a vnode, once all descriptors on it are closed

still_vnode : (change : List Fd → List Fd) (w : EntityData) → is_vnode (with_fds change w) ≡ is_vnode w
still_vnode change (Process process) = refl
still_vnode change (Vnode vnode) = refl
still_vnode change (Pipe pipe) = refl
still_vnode change (Socket socket) = refl

pub vnode_left : (start now : Entities) (id : Id) → now ≡ with_closed_on id start → IsLive is_vnode start id → IsLive is_vnode now id
vnode_left start now id is vnode =
    subst (λ (o : Entities). IsLive is_vnode o id) (sym is)
    (passes_mapped (with_what (with_fds (closed_on id))) is_vnode id start.live (λ e. refl) (λ k d l. still_vnode (closed_on id) (get_or start.live k d).what) ∙ vnode)

pub vnode_some : (objects : Entities) (id : Id) → IsLive is_vnode objects id → IsSome (live_at objects id)
vnode_some objects id vnode = by_found (live_at objects id) vnode
  where
    by_found : (o : Option LiveEntity) → passes is_vnode o ≡ true → IsSome o
    by_found None vnode = absurd (false≢true vnode)
    by_found (Some e) vnode = refl

count_left : (dir file : Id) (es : List LiveEntity)
    → count_by (λ (e : LiveEntity). is_entry dir e.what) (map (with_what (with_fds (closed_on file))) es) ≡ count_by (λ (e : LiveEntity). is_entry dir e.what) es
count_left dir file [] = refl
count_left dir file (e ∷ es) =
    let p : LiveEntity → Bool = λ (x : LiveEntity). is_entry dir x.what in
    let f : LiveEntity → LiveEntity = with_what (with_fds (closed_on file)) in
    let here : p (f e) ≡ p e = (fds_stay (closed_on file) e.what).entry dir in
    sum_by-cons (λ x. cond (p x) 1 0) (f e) (map f es)
    ∙ ap (λ (b : Bool). cond b 1 0 + count_by p (map f es)) here
    ∙ ap (λ (n : ℕ). cond (p e) 1 0 + n) (count_left dir file es)
    ∙ sym (sum_by-cons (λ x. cond (p x) 1 0) e es)

pub empty_left : (start now : Entities) (id : Id) → now ≡ with_closed_on id start → entry_count start id ≡ 0 → entry_count now id ≡ 0
empty_left start now id is empty = ap (λ (o : Entities). entry_count o id) is ∙ count_left id id start.live ∙ empty

off_file : (file : Id) (fds : List Fd) → All (λ fd. fd.file.0 ≢ file.0) (closed_on file fds)
off_file file fds =
    All-weaker (λ (fd : Fd). not (is_on file fd) ≡ true) (λ (fd : Fd). fd.file.0 ≢ file.0) (λ fd off same. cc (sym off ∙ ap not (eq-eqb fd.file.0 file.0 same))) (closed_on file fds)
    (filter_passes (λ (fd : Fd). not (is_on file fd)) fds)

unopened_what : (file : Id) (w : EntityData) → All (λ fd. fd.file.0 ≢ file.0) (fds_of (with_fds (closed_on file) w))
unopened_what file (Process process) = off_file file process.fds
unopened_what file (Vnode vnode) = All-nil (λ (fd : Fd). fd.file.0 ≢ file.0)
unopened_what file (Pipe pipe) = All-nil (λ (fd : Fd). fd.file.0 ≢ file.0)
unopened_what file (Socket socket) = All-nil (λ (fd : Fd). fd.file.0 ≢ file.0)

pub unopened_left : (start now : Entities) (id : Id) → now ≡ with_closed_on id start → IsUnopened id now.live
unopened_left start now id is =
    subst (λ (o : Entities). IsUnopened id o.live) (sym is)
    (All-map (λ (e : LiveEntity). All (λ fd. fd.file.0 ≢ id.0) (fds_of e.what)) (with_what (with_fds (closed_on id))) start.live (λ k d l. unopened_what id (get_or start.live k d).what))
