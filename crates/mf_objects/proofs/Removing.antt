-- The walk over the live entities that removes what a process made, and then the process.
use Rattle.std.proofs.Common.{◌≡◌, ◌≢◌, ℕ, ◌<◌, ◌≤◌, ◌+◌, ◌-◌, ◌||◌, List, [], ◌∷◌, Option, Some, None, IsSome, length, get_or, remove, refl, ap, sym, ◌∙◌, subst, arith, inl, inr, zero, suc, Bool, true, false, not, cond, eq-eqb}
use Rattle.std.specs.Prelude.{filter, find, count_by}
use Rattle.std.proofs.lemmas.List.Elements.{All-weaker, filter_passes}
use Rattle.std.proofs.lemmas.Bool.{cases_eq, false≢true}
use Rattle.mf_objects.specs.declared.id.Id.{Id}
use Rattle.mf_objects.specs.declared.entity.EntityData.{EntityData}
use Rattle.mf_objects.specs.declared.entity.EntityData.TheVariants.{Process, Vnode, Pipe, Socket}
use Rattle.mf_objects.specs.Live.{LiveEntity, Entities, has_id, live_at, is_process, is_entry, is_made_by, entry_count}
use Rattle.mf_objects.specs.Lives.{passes, is_vnode, is_directory, IsLive}
use Rattle.mf_objects.specs.Changes.{goes_with, without}
use Rattle.mf_objects.specs.Fits.{IsBare, IsUnopened}
use Rattle.mf_objects.specs.Population.{HasRoot}
use Rattle.mf_objects.specs.Sound.{IsPlace}
use Rattle.mf_objects.proofs.Rising.{root_remove, id_is}
use Rattle.mf_objects.proofs.Belonging.{counted_none, same_id}

-- the entities before the place stay, and what is gone was made by the process
pub record IsRemoving (start : Entities) (maker : Id) (now : Entities) (place len : ℕ) : Type 0 where
  pub next : now.next ≡ start.next
  pub same : filter (λ (e : LiveEntity). not (is_made_by maker e.what)) now.live ≡ filter (λ (e : LiveEntity). not (is_made_by maker e.what)) start.live
  pub kept : (k : ℕ) (d : LiveEntity) → k < place → not (is_made_by maker (get_or now.live k d).what) ≡ true
  pub counts : len ≡ length now.live
  pub most : place ≤ len
  pub rooted : HasRoot now.live

made_by_directory : (id : Id) (w : EntityData) → is_directory w ≡ true → is_made_by id w ≡ false
made_by_directory id (Process process) d = refl
made_by_directory id (Vnode vnode) d = refl
made_by_directory id (Pipe pipe) d = absurd (false≢true d)
made_by_directory id (Socket socket) d = absurd (false≢true d)

pub begin : (start : Entities) (id : Id) (len : ℕ) → HasRoot start.live → len ≡ length start.live → IsRemoving start id start 0 len
begin start id len root counts =
    record {
      next = refl;
      same = refl;
      kept = λ k d l. absurd (omega arith);
      counts = counts;
      most = omega arith;
      rooted = root;
    }

root_stays : (id : Id) (es : List LiveEntity) (d : LiveEntity) → HasRoot es → is_made_by id (get_or es 0 d).what ≡ false
root_stays id [] d root = absurd root
root_stays id (r ∷ es) d root = made_by_directory id r.what root.1

-- what goes isn't the root
pub after_root : (start now : Entities) (id : Id) (place len : ℕ) (d : LiveEntity) → IsRemoving start id now place len → is_made_by id (get_or now.live place d).what ≡ true → 0 < place
after_root start now id zero len d removing goes = absurd (false≢true (sym (root_stays id now.live d removing.rooted) ∙ goes))
after_root start now id (suc place) len d removing goes = omega arith

pub goes_later : (start now : Entities) (id : Id) (place len : ℕ) → IsRemoving start id now place len
    → ((d : LiveEntity) → is_made_by id (get_or now.live place d).what ≡ true) → 0 < place
goes_later start now id place len removing goes = by_head now.live removing.rooted
  where
    by_head : (es : List LiveEntity) → HasRoot es → 0 < place
    by_head [] root = absurd root
    by_head (r ∷ es) root = after_root start now id place len r removing (goes r)

pub steps : (start now : Entities) (id : Id) (place len : ℕ) → IsRemoving start id now place len → place < len
    → ((d : LiveEntity) → is_made_by id (get_or now.live place d).what ≡ false) → IsRemoving start id now (place + 1) len
steps start now id place len removing within stays_here =
    record {
      next = removing.next;
      same = removing.same;
      kept = λ k d l. elim (cases_eq k place) [
        | inl here ↦ ap (λ (n : ℕ). not (is_made_by id (get_or now.live n d).what)) here ∙ ap not (stays_here d)
        | inr before ↦ removing.kept k d (omega (arith, before))
      ];
      counts = removing.counts;
      most = omega arith;
      rooted = removing.rooted;
    }

length_remove : (es : List LiveEntity) (i : ℕ) → i < length es → length (remove es i) + 1 ≡ length es
length_remove [] i within = absurd (omega arith)
length_remove (e ∷ es) zero within = omega arith
length_remove (e ∷ es) (suc i) within = omega (arith, length_remove es i (omega arith))

get_before : (es : List LiveEntity) (i k : ℕ) (d : LiveEntity) → k < i → get_or (remove es i) k d ≡ get_or es k d
get_before [] zero k d l = refl
get_before [] (suc i) k d l = refl
get_before (e ∷ es) zero k d l = absurd (omega arith)
get_before (e ∷ es) (suc i) zero d l = refl
get_before (e ∷ es) (suc i) (suc k) d l = get_before es i k d (omega arith)

filter_remove : (test : LiveEntity → Bool) (es : List LiveEntity) (i : ℕ) (d : LiveEntity) → i < length es → test (get_or es i d) ≡ false → filter test (remove es i) ≡ filter test es
filter_remove test [] i d within goes = absurd (omega arith)
filter_remove test (e ∷ es) zero d within goes = rw goes refl
filter_remove test (e ∷ es) (suc i) d within goes = one (test e) (filter_remove test es i d (omega arith) goes)
  where
    one : (b : Bool) → filter test (remove es i) ≡ filter test es
        → cond b (e ∷ filter test (remove es i)) (filter test (remove es i)) ≡ cond b (e ∷ filter test es) (filter test es)
    one true rest = ap (λ (xs : List LiveEntity). e ∷ xs) rest
    one false rest = rest

pub removes : (start now now' : Entities) (id : Id) (place len : ℕ) → IsRemoving start id now place len → place < len
    → ((d : LiveEntity) → is_made_by id (get_or now.live place d).what ≡ true) → now' ≡ record now { live = remove now.live place } → IsRemoving start id now' place (len - 1)
removes start now now' id place len removing within goes is =
    let lives : now'.live ≡ remove now.live place = ap (λ (o : Entities). o.live) is in
    let at : place < length now.live = omega (arith, removing.counts) in
    record {
      next = ap (λ (o : Entities). o.next) is ∙ removing.next;
      same = ap (λ (es : List LiveEntity). filter (λ (e : LiveEntity). not (is_made_by id e.what)) es) lives ∙ filtered now.live at goes ∙ removing.same;
      kept = λ k d l. ap (λ (es : List LiveEntity). not (is_made_by id (get_or es k d).what)) lives ∙ ap (λ (e : LiveEntity). not (is_made_by id e.what)) (get_before now.live place k d l) ∙ removing.kept k d l;
      counts = omega (arith, removing.counts, ap (λ (es : List LiveEntity). length es) lives, length_remove now.live place at);
      most = omega arith;
      rooted = subst HasRoot (sym lives) (root_remove now.live place (goes_later start now id place len removing goes) removing.rooted);
    }
  where
    filtered : (es : List LiveEntity) → place < length es → ((d : LiveEntity) → is_made_by id (get_or es place d).what ≡ true)
        → filter (λ (e : LiveEntity). not (is_made_by id e.what)) (remove es place) ≡ filter (λ (e : LiveEntity). not (is_made_by id e.what)) es
    filtered [] at goes = absurd (omega arith)
    filtered (r ∷ es) at goes = filter_remove (λ (e : LiveEntity). not (is_made_by id e.what)) (r ∷ es) place r at (ap not (goes r))

filter_all : (test : LiveEntity → Bool) (es : List LiveEntity) → ((k : ℕ) (d : LiveEntity) → k < length es → test (get_or es k d) ≡ true) → filter test es ≡ es
filter_all test [] all = refl
filter_all test (e ∷ es) all =
    let here : test e ≡ true = all 0 e (omega arith) in
    let rest : filter test es ≡ es = filter_all test es (λ k d l. all (suc k) d (omega arith)) in
    rw (here, rest) refl

pub removed : (start now : Entities) (id : Id) (place len : ℕ) → IsRemoving start id now place len → len ≤ place → now ≡ without (λ e. is_made_by id e.what) start
removed start now id place len removing end =
    let all : filter (λ (e : LiveEntity). not (is_made_by id e.what)) now.live ≡ now.live =
    filter_all (λ (e : LiveEntity). not (is_made_by id e.what)) now.live (λ k d l. removing.kept k d (omega (arith, removing.counts))) in
    ap (λ (n : ℕ). let o : Entities = record { next = n; live = now.live } in o) removing.next
    ∙ ap (λ (ls : List LiveEntity). let o : Entities = record { next = start.next; live = ls } in o) (sym all ∙ removing.same)

-- what a process made belongs to nothing else
pub made_bare : (live : List LiveEntity) (maker : Id) (e : LiveEntity) → is_made_by maker e.what ≡ true → IsBare live e.id e.what
made_bare live maker e made = by_what e.what made
  where
    by_what : (w : EntityData) → is_made_by maker w ≡ true → IsBare live e.id w
    by_what (Process process) made = absurd (false≢true made)
    by_what (Vnode vnode) made = absurd (false≢true made)
    by_what (Pipe pipe) made = tt
    by_what (Socket socket) made = tt

-- the root is no process
pub not_root : (next : ℕ) (es : List LiveEntity) (id : Id) → HasRoot es → IsLive is_process (record { next = next; live = es }) id → id.0 ≢ 0
not_root next [] id root live same = absurd root
not_root next (r ∷ es) id root live same =
    let hit : has_id id r ≡ true = eq-eqb r.id.0 id.0 (root.0 ∙ sym same) in
    both_kinds r.what (rw hit at live) root.1
  where
    both_kinds : (w : EntityData) → is_process w ≡ true → is_directory w ≡ true → ⊥
    both_kinds (Process process) p d = false≢true d
    both_kinds (Vnode vnode) p d = false≢true p
    both_kinds (Pipe pipe) p d = false≢true p
    both_kinds (Socket socket) p d = false≢true p

-- The process itself

pub kept_found : (p q : LiveEntity → Bool) (es : List LiveEntity) (x : LiveEntity) → find p es ≡ Some x → q x ≡ true → find p (filter q es) ≡ Some x
kept_found p q [] x is keeps = cc
kept_found p q (e ∷ es) x is keeps = one (p e) (q e) refl refl (λ here. kept_found p q es x here keeps) is
  where
    inside_some : (a b : LiveEntity) → Some a ≡ Some b → a ≡ b
    inside_some a b e = cc

    one : (b c : Bool) → p e ≡ b → q e ≡ c → (find p es ≡ Some x → find p (filter q es) ≡ Some x) → cond b (Some e) (find p es) ≡ Some x → find p (cond c (e ∷ filter q es) (filter q es)) ≡ Some x
    one true true hit kept rest is = rw hit is
    one true false hit kept rest is = absurd (false≢true (sym kept ∙ ap q (inside_some e x is) ∙ keeps))
    one false true miss kept rest is = rw miss (rest is)
    one false false miss kept rest is = rest is

not_made : (maker : Id) (w : EntityData) → is_process w ≡ true → not (is_made_by maker w) ≡ true
not_made maker (Process own) process = refl
not_made maker (Vnode vnode) process = refl
not_made maker (Pipe pipe) process = absurd (false≢true process)
not_made maker (Socket socket) process = absurd (false≢true process)

-- a process stays where what it made goes
pub process_stays : (objects : Entities) (id : Id) → IsLive is_process objects id → IsLive is_process (without (λ e. is_made_by id e.what) objects) id
process_stays objects id live = by_found (find (has_id id) objects.live) refl live
  where
    by_found : (o : Option LiveEntity) → find (has_id id) objects.live ≡ o → passes is_process o ≡ true → IsLive is_process (without (λ e. is_made_by id e.what) objects) id
    by_found None is process = absurd (false≢true process)
    by_found (Some x) is process =
        ap (passes is_process) (kept_found (has_id id) (λ e. not (is_made_by id e.what)) objects.live x is (not_made id x.what process)) ∙ process

-- a process that made nothing that lives
pub process_bare : (live : List LiveEntity) (e : LiveEntity) → is_process e.what ≡ true → count_by (λ (x : LiveEntity). is_made_by e.id x.what) live ≡ 0 → IsBare live e.id e.what
process_bare live e process none = by_what e.what process
  where
    by_what : (w : EntityData) → is_process w ≡ true → IsBare live e.id w
    by_what (Process own) process = none
    by_what (Vnode vnode) process = absurd (false≢true process)
    by_what (Pipe pipe) process = absurd (false≢true process)
    by_what (Socket socket) process = absurd (false≢true process)

-- a vnode without entries, which no process has open
pub vnode_bare : (live : List LiveEntity) (e : LiveEntity) → is_vnode e.what ≡ true → count_by (λ (x : LiveEntity). is_entry e.id x.what) live ≡ 0 → IsUnopened e.id live
    → IsBare live e.id e.what
vnode_bare live e vnode none unopened = by_what e.what vnode
  where
    by_what : (w : EntityData) → is_vnode w ≡ true → IsBare live e.id w
    by_what (Process process) vnode = absurd (false≢true vnode)
    by_what (Vnode v) vnode = (none, unopened)
    by_what (Pipe pipe) vnode = absurd (false≢true vnode)
    by_what (Socket socket) vnode = absurd (false≢true vnode)

none_left : (test : LiveEntity → Bool) (es : List LiveEntity) → count_by test (filter (λ (e : LiveEntity). not (test e)) es) ≡ 0
none_left test es = counted_none test (filter (λ (e : LiveEntity). not (test e)) es) (All-weaker (λ (e : LiveEntity). not (test e) ≡ true) (λ (e : LiveEntity). test e ≡ false) (λ e. flip (test e))
    (filter (λ (e : LiveEntity). not (test e)) es) (filter_passes (λ (e : LiveEntity). not (test e)) es))
  where
    flip : (b : Bool) → not b ≡ true → b ≡ false
    flip true h = absurd (false≢true h)
    flip false h = refl

both : (first second : LiveEntity → Bool) (es : List LiveEntity)
    → filter (λ (e : LiveEntity). not (second e)) (filter (λ (e : LiveEntity). not (first e)) es) ≡ filter (λ (e : LiveEntity). not (second e || first e)) es
both first second [] = refl
both first second (e ∷ es) = one (first e) (second e) refl (both first second es)
  where
    one : (a b : Bool) → second e ≡ b → filter (λ (x : LiveEntity). not (second x)) (filter (λ (x : LiveEntity). not (first x)) es) ≡ filter (λ (x : LiveEntity). not (second x || first x)) es
        → filter (λ (x : LiveEntity). not (second x)) (cond (not a) (e ∷ filter (λ (x : LiveEntity). not (first x)) es) (filter (λ (x : LiveEntity). not (first x)) es))
        ≡ cond (not (b || a)) (e ∷ filter (λ (x : LiveEntity). not (second x || first x)) es) (filter (λ (x : LiveEntity). not (second x || first x)) es)
    one true true is rest = rest
    one true false is rest = rest
    one false true is rest = rw is rest
    one false false is rest = rw is (ap (λ (xs : List LiveEntity). e ∷ xs) rest)

-- the process itself is removed last
pub removed_all : (objects : Entities) (id : Id) → without (has_id id) (without (λ e. is_made_by id e.what) objects) ≡ without (goes_with id) objects
removed_all objects id =
    ap (λ (ls : List LiveEntity). let o : Entities = record objects { live = ls } in o) (both (λ (e : LiveEntity). is_made_by id e.what) (has_id id) objects.live)

-- The same by places

pub process_at : (objects : Entities) (id : Id) (place : ℕ) (d : LiveEntity) → IsPlace objects id place → IsLive is_process objects id
    → count_by (λ (e : LiveEntity). is_made_by id e.what) objects.live ≡ 0 → IsBare objects.live (get_or objects.live place d).id (get_or objects.live place d).what
process_at objects id place d is process none =
    let e : LiveEntity = get_or objects.live place d in
    let same : id ≡ e.id = same_id id e.id (sym (id_is id e (is.has d))) in
    process_bare objects.live e (sym (ap (passes is_process) (is.found d)) ∙ process)
    (subst (λ (i : Id). count_by (λ (x : LiveEntity). is_made_by i x.what) objects.live ≡ 0) same none)

pub vnode_at : (objects : Entities) (id : Id) (place : ℕ) (d : LiveEntity) → IsPlace objects id place → IsLive is_vnode objects id → entry_count objects id ≡ 0
    → IsUnopened id objects.live → IsBare objects.live (get_or objects.live place d).id (get_or objects.live place d).what
vnode_at objects id place d is vnode none unopened =
    let e : LiveEntity = get_or objects.live place d in
    let same : id ≡ e.id = same_id id e.id (sym (id_is id e (is.has d))) in
    vnode_bare objects.live e (sym (ap (passes is_vnode) (is.found d)) ∙ vnode)
    (subst (λ (i : Id). count_by (λ (x : LiveEntity). is_entry i x.what) objects.live ≡ 0) same none) (subst (λ (i : Id). IsUnopened i objects.live) same unopened)

pub process_later : (objects : Entities) (id : Id) (place : ℕ) → IsPlace objects id place → HasRoot objects.live → IsLive is_process objects id → 0 < place
process_later objects id place is root process = is.later (not_root objects.next objects.live id root process)

-- a live process, after what it made has gone
pub process_left : (start now : Entities) (id : Id) → now ≡ without (λ e. is_made_by id e.what) start → IsLive is_process start id → IsLive is_process now id
process_left start now id is process = subst (λ (o : Entities). IsLive is_process o id) (sym is) (process_stays start id process)

pub process_some : (objects : Entities) (id : Id) → IsLive is_process objects id → IsSome (live_at objects id)
process_some objects id process = by_found (live_at objects id) process
  where
    by_found : (o : Option LiveEntity) → passes is_process o ≡ true → IsSome o
    by_found None process = absurd (false≢true process)
    by_found (Some e) process = refl

-- what is left once nothing is left that the process made
pub left_bare : (start now : Entities) (id : Id) (place : ℕ) (d : LiveEntity) → now ≡ without (λ e. is_made_by id e.what) start → IsLive is_process start id
    → IsPlace now id place → IsBare now.live (get_or now.live place d).id (get_or now.live place d).what
left_bare start now id place d is process at =
    process_at now id place d at (process_left start now id is process)
    (ap (λ (o : Entities). count_by (λ (e : LiveEntity). is_made_by id e.what) o.live) is ∙ none_left (λ (e : LiveEntity). is_made_by id e.what) start.live)
