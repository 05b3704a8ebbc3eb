-- What is true of the parties, through each change.
use Rattle.std.proofs.Common.{◌≡◌, ◌≢◌, ℕ, ◌+◌, Bool, true, false, not, cond, List, [], ◌∷◌, ◌++◌, Option, Some, None, length, get_or, map, take, refl, ap, set, sym, ◌∙◌, subst, arith, IsTrue, eqb, ◌≤◌, nat_lt, Result, Ok, Err, OnOk, OnErr}
use Rattle.std.specs.Prelude.{All, find, filter, drop, position}
use Rattle.std.proofs.lemmas.Bool.{false≢true}
use Rattle.std.proofs.lemmas.List.Elements.{All-nil, All-head, All-tail, All-push, All-map, All-filter}
use Rattle.std.proofs.lemmas.Bool.Decides.{nat_tests}
use Rattle.std.proofs.lemmas.List.{set-get_or, length-map}
use Rattle.std.proofs.lemmas.List.Quantifiers.{position-Some}
use Rattle.std.proofs.lemmas.List.Sums.{fails_before_first}
use Rattle.std.specs.List.{position_or_len}
use Rattle.std.specs.declared.alloc.AllocError.{AllocError}
use Rattle.mf_objects.specs.declared.id.Id.{Id}
use Rattle.mf_objects.specs.declared.descriptors.Fd.{Fd}
use Rattle.mf_objects.specs.declared.entity.EntityData.{EntityData}
use Rattle.mf_objects.specs.declared.entity.EntityData.TheVariants.{Process, Vnode, Pipe, Socket}
use Rattle.mf_objects.specs.Live.{LiveEntity, Entities, has_id, live_at, is_process, is_made_by}
use Rattle.mf_objects.specs.Lives.{passes, is_regular, IsLive}
use Rattle.mf_objects.specs.Changes.{made, without, goes_with, with_change, with_what, appended, cleared, with_message, with_messages, with_mode}
use Rattle.mf_objects.specs.Labels.{with_value, with_label}
use Rattle.mf_objects.specs.Descriptors.{fds_of, with_fds, opened, closed_on, with_closed_on, without_vnode}
use Rattle.mf_objects.specs.Fits.{IsUnopened}
use Rattle.mf_objects.proofs.Entities.{changed_at}
use Rattle.mf_objects.proofs.Rising.{id_is, id_differs, rising_push, rising_mapped, set_changed}
use Rattle.mf_objects.proofs.Finding.{rising_filter}
use Rattle.mf_objects.proofs.Belonging.{passes_append, passes_mapped}
use Rattle.mf_objects.proofs.Found.{passes_found}
use Rattle.mf_objects.proofs.Closing.{unopened_left, whole_slice}
use Rattle.mf_objects.proofs.Removing.{kept_found}
use Rattle.mf_parties.specs.declared.change.Change.{Change}
use Rattle.mf_parties.specs.declared.change.Change.TheVariants as changes
use Rattle.mf_parties.specs.declared.change.Growth.{Growth}
use Rattle.mf_parties.specs.declared.change.Growth.TheVariants as growths
use Rattle.mf_parties.specs.Changing.{changed, grown}
use Rattle.mf_parties.specs.Standing.{IsStanding, BeginsWithRoot, AreOnFiles, IsOpenable, is_top}
use Rattle.mf_parties.proofs.Reading.{root_top}

-- A change of each entity

-- what a change leaves as it is: ids, which is the root, which are regular files; and what is open stays on live regular files
pub record Keeps (live : List LiveEntity) (change : LiveEntity → LiveEntity) : Type 0 where
  pub id : (e : LiveEntity) → (change e).id ≡ e.id
  pub top : (e : LiveEntity) → is_top (change e).what ≡ is_top e.what
  pub regular : (e : LiveEntity) → is_regular (change e).what ≡ is_regular e.what
  pub files : (e : LiveEntity) → AreOnFiles live (fds_of e.what) → AreOnFiles live (fds_of (change e).what)

begins_mapped : (live : List LiveEntity) (f : LiveEntity → LiveEntity) (es : List LiveEntity) → Keeps live f → BeginsWithRoot es → BeginsWithRoot (map f es)
begins_mapped live f [] keeps root = root
begins_mapped live f (e ∷ es) keeps root = (ap (λ (i : Id). i.0) (keeps.id e) ∙ root.0, keeps.top e ∙ root.1)

still_on : (f : LiveEntity → LiveEntity) (live : List LiveEntity) → Keeps live f → (fds : List Fd) → AreOnFiles live fds → AreOnFiles (map f live) fds
still_on f live keeps fds on k d l = passes_mapped f is_regular (get_or fds k d).file live keeps.id (λ j x m. keeps.regular (get_or live j x)) ∙ on k d l

pub standing_mapped : (f : LiveEntity → LiveEntity) (o : Entities) → Keeps o.live f → IsStanding o → IsStanding (record o { live = map f o.live })
standing_mapped f o keeps standing =
    record {
      rising = rising_mapped f 0 o.next o.live keeps.id standing.rising;
      rooted = begins_mapped o.live f o.live keeps standing.rooted;
      open_files = All-map (λ (e : LiveEntity). AreOnFiles (map f o.live) (fds_of e.what)) f o.live (λ k d l. here (get_or o.live k d) (standing.open_files k d l));
    }
  where
    here : (e : LiveEntity) → AreOnFiles o.live (fds_of e.what) → AreOnFiles (map f o.live) (fds_of (f e).what)
    here e on = still_on f o.live keeps (fds_of (f e).what) (keeps.files e on)

-- A change of one entity

by_case : (P : LiveEntity → Type 0) (x e : LiveEntity) (b : Bool) → P x → P e → P (cond b x e)
by_case P x e true new old = new
by_case P x e false new old = old

keeps_at : (change : LiveEntity → LiveEntity) (id : Id) (live : List LiveEntity) → Keeps live change → Keeps live (changed_at change id)
keeps_at change id live keeps =
    record {
      id = λ e. by_case (λ (x : LiveEntity). x.id ≡ e.id) (change e) e (has_id id e) (keeps.id e) refl;
      top = λ e. by_case (λ (x : LiveEntity). is_top x.what ≡ is_top e.what) (change e) e (has_id id e) (keeps.top e) refl;
      regular = λ e. by_case (λ (x : LiveEntity). is_regular x.what ≡ is_regular e.what) (change e) e (has_id id e) (keeps.regular e) refl;
      files = λ e on. by_case (λ (x : LiveEntity). AreOnFiles live (fds_of x.what)) (change e) e (has_id id e) (keeps.files e on) on;
    }

pub standing_changed : (change : LiveEntity → LiveEntity) (id : Id) (o : Entities) → Keeps o.live change → IsStanding o → IsStanding (with_change change o id)
standing_changed change id o keeps standing = standing_mapped (changed_at change id) o (keeps_at change id o.live keeps) standing

-- What each of the changes leaves as it is

-- of what it is
record Same (new old : EntityData) : Type 0 where
  top : is_top new ≡ is_top old
  regular : is_regular new ≡ is_regular old
  fds : fds_of new ≡ fds_of old

same : (w : EntityData) → Same w w
same w = record { top = refl; regular = refl; fds = refl }

what_keeps : (change : EntityData → EntityData) (live : List LiveEntity) → ((w : EntityData) → Same (change w) w) → Keeps live (with_what change)
what_keeps change live sames =
    record {
      id = λ e. refl;
      top = λ e. (sames e.what).top;
      regular = λ e. (sames e.what).regular;
      files = λ e on. subst (AreOnFiles live) (sym (sames e.what).fds) on;
    }

appended_same : (text : List ℕ) (w : EntityData) → Same (appended text w) w
appended_same text (Process process) = same (Process process)
appended_same text (Vnode vnode) = record { top = refl; regular = refl; fds = refl }
appended_same text (Pipe pipe) = record { top = refl; regular = refl; fds = refl }
appended_same text (Socket socket) = same (Socket socket)

cleared_same : (w : EntityData) → Same (cleared w) w
cleared_same (Process process) = same (Process process)
cleared_same (Vnode vnode) = same (Vnode vnode)
cleared_same (Pipe pipe) = record { top = refl; regular = refl; fds = refl }
cleared_same (Socket socket) = same (Socket socket)

messages_same : (change : List (List ℕ) → List (List ℕ)) (w : EntityData) → Same (with_messages change w) w
messages_same change (Process process) = same (Process process)
messages_same change (Vnode vnode) = same (Vnode vnode)
messages_same change (Pipe pipe) = same (Pipe pipe)
messages_same change (Socket socket) = record { top = refl; regular = refl; fds = refl }

mode_same : (mode : ℕ) (w : EntityData) → Same (with_mode mode w) w
mode_same mode (Process process) = same (Process process)
mode_same mode (Vnode vnode) = record { top = refl; regular = refl; fds = refl }
mode_same mode (Pipe pipe) = same (Pipe pipe)
mode_same mode (Socket socket) = same (Socket socket)

-- a change of what is open
fds_keep : (change : List Fd → List Fd) (live : List LiveEntity) → ((fds : List Fd) → AreOnFiles live fds → AreOnFiles live (change fds)) → Keeps live (with_what (with_fds change))
fds_keep change live files = record { id = λ e. refl; top = λ e. top e.what; regular = λ e. regular e.what; files = λ e. on e.what }
  where
    top : (w : EntityData) → is_top (with_fds change w) ≡ is_top w
    top (Process process) = refl
    top (Vnode vnode) = refl
    top (Pipe pipe) = refl
    top (Socket socket) = refl

    regular : (w : EntityData) → is_regular (with_fds change w) ≡ is_regular w
    regular (Process process) = refl
    regular (Vnode vnode) = refl
    regular (Pipe pipe) = refl
    regular (Socket socket) = refl

    on : (w : EntityData) → AreOnFiles live (fds_of w) → AreOnFiles live (fds_of (with_fds change w))
    on (Process process) all = files process.fds all
    on (Vnode vnode) all = all
    on (Pipe pipe) all = all
    on (Socket socket) all = all

some_keep : (p : Fd → Bool) (live : List LiveEntity) → Keeps live (with_what (with_fds (filter p)))
some_keep p live = fds_keep (filter p) live (λ fds on. All-filter p (λ (fd : Fd). IsTrue (passes is_regular (find (has_id fd.file) live))) fds on)

label_keeps : (live : List LiveEntity) (change : LiveEntity → LiveEntity) → ((e : LiveEntity) → (change e).id ≡ e.id) → ((e : LiveEntity) → (change e).what ≡ e.what) → Keeps live change
label_keeps live change ids whats =
    record {
      id = ids;
      top = λ e. ap is_top (whats e);
      regular = λ e. ap is_regular (whats e);
      files = λ e on. subst (λ (w : EntityData). AreOnFiles live (fds_of w)) (sym (whats e)) on;
    }

pub changed_keeps : (c : Change) (live : List LiveEntity) → Keeps live (changed c)
changed_keeps changes.Empty live = what_keeps cleared live cleared_same
changed_keeps changes.Receive live = what_keeps (with_messages (drop 1)) live (messages_same (drop 1))
changed_keeps (changes.Mode mode) live = what_keeps (with_mode mode) live (mode_same mode)
changed_keeps (changes.Close number) live = some_keep _ live
changed_keeps (changes.Label values) live = label_keeps live (with_label values) (λ e. refl) (λ e. refl)
changed_keeps (changes.Value slot value) live = label_keeps live (with_value slot value) (λ e. refl) (λ e. refl)

pub grown_keeps : (g : Growth) (o : Entities) → IsOpenable o g → Keeps o.live (grown g)
grown_keeps (growths.Bytes bytes) o openable = what_keeps (appended bytes.now) o.live (appended_same bytes.now)
grown_keeps (growths.Message message) o openable = what_keeps (with_messages (with_message message)) o.live (messages_same (with_message message))
grown_keeps (growths.Open fd) o openable =
    fds_keep (opened fd) o.live (λ fds on. All-push (λ (other : Fd). IsTrue (passes is_regular (find (has_id other.file) o.live))) fds fd on openable)

pub standing_with : (c : Change) (id : Id) (o : Entities) → IsStanding o → IsStanding (with_change (changed c) o id)
standing_with c id o standing = standing_changed (changed c) id o (changed_keeps c o.live) standing

pub standing_grown : (g : Growth) (id : Id) (o : Entities) → IsOpenable o g → IsStanding o → IsStanding (with_change (grown g) o id)
standing_grown g id o openable standing = standing_changed (grown g) id o (grown_keeps g o openable) standing

-- One entity more

begins_push : (es : List LiveEntity) (x : LiveEntity) → BeginsWithRoot es → BeginsWithRoot (es ++ x ∷ [])
begins_push [] x root = absurd root
begins_push (e ∷ es) x root = root

pub standing_pushed : (o : Entities) (x : LiveEntity) → x.id.0 ≡ o.next → fds_of x.what ≡ [] → IsStanding o → IsStanding (record { next = o.next + 1; live = o.live ++ x ∷ [] })
standing_pushed o x given none standing =
    record {
      rising = rising_push 0 o.next o.live x given standing.rising;
      rooted = begins_push o.live x standing.rooted;
      open_files = All-push (λ (e : LiveEntity). AreOnFiles (o.live ++ x ∷ []) (fds_of e.what)) o.live x
          (λ k d l. longer (fds_of (get_or o.live k d).what) (standing.open_files k d l))
          (subst (AreOnFiles (o.live ++ x ∷ [])) (sym none) (All-nil (λ (fd : Fd). IsTrue (passes is_regular (find (has_id fd.file) (o.live ++ x ∷ []))))));
    }
  where
    longer : (fds : List Fd) → AreOnFiles o.live fds → AreOnFiles (o.live ++ x ∷ []) fds
    longer fds on k d l = passes_append is_regular (get_or fds k d).file o.live (x ∷ []) (on k d l)

-- Some entities go

-- where a regular file of this id lives, it is none of those that go
abbrev StaysFile : (LiveEntity → Bool) → List LiveEntity → Id → Type 0
StaysFile gone live file = (x : LiveEntity) → find (has_id file) live ≡ Some x → is_regular x.what ≡ true → not (gone x) ≡ true

begins_filter : (q : LiveEntity → Bool) (es : List LiveEntity) → ((e : LiveEntity) → e.id.0 ≡ 0 → is_top e.what ≡ true → q e ≡ true) → BeginsWithRoot es → BeginsWithRoot (filter q es)
begins_filter q [] stays root = absurd root
begins_filter q (e ∷ es) stays root = rw (stays e root.0 root.1) root

file_stays : (gone : LiveEntity → Bool) (live : List LiveEntity) (file : Id) → StaysFile gone live file → IsTrue (passes is_regular (find (has_id file) live))
    → IsTrue (passes is_regular (find (has_id file) (filter (λ e. not (gone e)) live)))
file_stays gone live file stays regular = by_found (find (has_id file) live) refl regular
  where
    by_found : (r : Option LiveEntity) → find (has_id file) live ≡ r → passes is_regular r ≡ true → passes is_regular (find (has_id file) (filter (λ e. not (gone e)) live)) ≡ true
    by_found None at is = absurd (false≢true is)
    by_found (Some x) at is = ap (passes is_regular) (kept_found (has_id file) (λ e. not (gone e)) live x at (stays x at is)) ∙ is

pub standing_without : (gone : LiveEntity → Bool) (o : Entities) → ((e : LiveEntity) → e.id.0 ≡ 0 → is_top e.what ≡ true → not (gone e) ≡ true)
    → All (λ (e : LiveEntity). All (λ (fd : Fd). StaysFile gone o.live fd.file) (fds_of e.what)) o.live → IsStanding o → IsStanding (without gone o)
standing_without gone o root stays standing =
    record {
      rising = rising_filter (λ e. not (gone e)) 0 o.next o.live standing.rising;
      rooted = begins_filter (λ e. not (gone e)) o.live root standing.rooted;
      open_files = All-filter (λ e. not (gone e)) (λ (e : LiveEntity). AreOnFiles (without gone o).live (fds_of e.what)) o.live
          (λ k d l. fewer (fds_of (get_or o.live k d).what) (stays k d l) (standing.open_files k d l));
    }
  where
    fewer : (fds : List Fd) → All (λ (fd : Fd). StaysFile gone o.live fd.file) fds → AreOnFiles o.live fds → AreOnFiles (without gone o).live fds
    fewer fds stay on k d l = file_stays gone o.live (get_or fds k d).file (stay k d l) (on k d l)

not_false : (b : Bool) → b ≡ false → not b ≡ true
not_false b is = ap not is

-- a vnode, on which all has been closed
pub standing_unlinked : (id : Id) (o : Entities) → id.0 ≢ 0 → IsStanding o → IsStanding (without_vnode id o)
standing_unlinked id o other standing = standing_without (has_id id) closed_all (λ e first top. not_false (has_id id e) (id_differs id e (λ is. other (sym is ∙ first)))) files
    (standing_mapped (with_what (with_fds (closed_on id))) o (some_keep _ o.live) standing)
  where
    closed_all : Entities
    closed_all = with_closed_on id o

    unopened : IsUnopened id closed_all.live
    unopened = unopened_left o closed_all id refl

    file : (fd : Fd) → fd.file.0 ≢ id.0 → StaysFile (has_id id) closed_all.live fd.file
    file fd differs x at regular =
        let own : x.id.0 ≡ fd.file.0 = id_is fd.file x (passes_found (has_id fd.file) closed_all.live x at) in
        not_false (has_id id x) (id_differs id x (λ is. differs (sym own ∙ is)))

    files : All (λ (e : LiveEntity). All (λ (fd : Fd). StaysFile (has_id id) closed_all.live fd.file) (fds_of e.what)) closed_all.live
    files k d l j x m = file (get_or (fds_of (get_or closed_all.live k d).what) j x) (unopened k d l j x m)

-- a process, and what it made
pub standing_ended : (id : Id) (o : Entities) → IsLive is_process o id → IsStanding o → IsStanding (without (goes_with id) o)
standing_ended id o lives standing = standing_without (goes_with id) o root (λ k d l j x m. file (get_or (fds_of (get_or o.live k d).what) j x)) standing
  where
    -- neither a process, nor made by one
    stays : (e : LiveEntity) → has_id id e ≡ false → is_made_by id e.what ≡ false → not (goes_with id e) ≡ true
    stays e own made = rw (own, made) refl

    top_made : (w : EntityData) → is_top w ≡ true → is_made_by id w ≡ false
    top_made (Process process) is = absurd (false≢true is)
    top_made (Vnode vnode) is = refl
    top_made (Pipe pipe) is = absurd (false≢true is)
    top_made (Socket socket) is = absurd (false≢true is)

    regular_made : (w : EntityData) → is_regular w ≡ true → is_made_by id w ≡ false
    regular_made (Process process) is = absurd (false≢true is)
    regular_made (Vnode vnode) is = refl
    regular_made (Pipe pipe) is = absurd (false≢true is)
    regular_made (Socket socket) is = absurd (false≢true is)

    process_top : (w : EntityData) → is_process w ≡ true → is_top w ≡ true → ⊥
    process_top (Process process) is top = false≢true top
    process_top (Vnode vnode) is top = false≢true is
    process_top (Pipe pipe) is top = false≢true is
    process_top (Socket socket) is top = false≢true is

    process_regular : (w : EntityData) → is_process w ≡ true → is_regular w ≡ true → ⊥
    process_regular (Process process) is regular = false≢true regular
    process_regular (Vnode vnode) is regular = false≢true is
    process_regular (Pipe pipe) is regular = false≢true is
    process_regular (Socket socket) is regular = false≢true is

    not_first : (r : Option LiveEntity) → live_at o id ≡ r → passes is_process r ≡ true → id.0 ≢ 0
    not_first None at is = λ first. false≢true is
    not_first (Some p) at is = λ first. process_top p.what is (root_top id o.live p standing.rooted first at)

    root : (e : LiveEntity) → e.id.0 ≡ 0 → is_top e.what ≡ true → not (goes_with id e) ≡ true
    root e first top = stays e (id_differs id e (λ is. not_first (live_at o id) refl lives (sym is ∙ first))) (top_made e.what top)

    other : (r : Option LiveEntity) (file : Id) (x : LiveEntity) → live_at o id ≡ r → passes is_process r ≡ true → find (has_id file) o.live ≡ Some x → is_regular x.what ≡ true → file.0 ≢ id.0
    other None file x at is found regular = λ own. false≢true is
    other (Some p) file x at is found regular = λ own.
        let here : Some p ≡ Some x = sym at ∙ ap (λ (n : ℕ). find (λ (e : LiveEntity). eqb e.id.0 n) o.live) (sym own) ∙ found in
        let one : p ≡ x = cc in
        process_regular x.what (ap (λ (e : LiveEntity). is_process e.what) (sym one) ∙ is) regular

    file : (fd : Fd) → StaysFile (goes_with id) o.live fd.file
    file fd x at regular =
        let own : x.id.0 ≡ fd.file.0 = id_is fd.file x (passes_found (has_id fd.file) o.live x at) in
        stays x (id_differs id x (λ is. other (live_at o id) fd.file x refl lives at regular (sym own ∙ is))) (regular_made x.what regular)

-- By a place in the list

missed : (id : Id) (es : List LiveEntity) → position (has_id id) es ≡ None → All (λ (e : LiveEntity). has_id id e ≡ false) es
missed id es nowhere = one (nat_lt (position_or_len (has_id id) es) (length es)) refl nowhere
  where
    one : (b : Bool) → nat_lt (position_or_len (has_id id) es) (length es) ≡ b → cond b (Some (position_or_len (has_id id) es)) None ≡ None → All (λ (e : LiveEntity). has_id id e ≡ false) es
    one true within some = cc
    one false beyond none =
        let past : length es ≤ position_or_len (has_id id) es = grind (arith, nat_tests) in
        λ k d l. fails_before_first (has_id id) es k d (omega arith)

unchanged : (change : LiveEntity → LiveEntity) (id : Id) (es : List LiveEntity) → All (λ (e : LiveEntity). has_id id e ≡ false) es → map (changed_at change id) es ≡ es
unchanged change id [] all = refl
unchanged change id (e ∷ es) all =
    let P : LiveEntity → Type 0 = λ x. has_id id x ≡ false in
    rw (All-head P e es all) (ap (λ (ls : List LiveEntity). e ∷ ls) (unchanged change id es (All-tail P e es all)))

-- where no party has the id, nothing changes
pub nowhere : (change : LiveEntity → LiveEntity) (id : Id) (o : Entities) → position (has_id id) o.live ≡ None → o ≡ with_change change o id
nowhere change id o none = sym (ap (λ (ls : List LiveEntity). let x : Entities = record o { live = ls } in x) (unchanged change id o.live (missed id o.live none)))

-- a change of the party at the place of an id
pub placed : (change : LiveEntity → LiveEntity) (id : Id) (o : Entities) (i : ℕ) (e : LiveEntity) → position (has_id id) o.live ≡ Some i → e ≡ get_or o.live i e → IsStanding o
    → (let x : Entities = record o { live = set o.live i (change e) } in x) ≡ with_change change o id
placed change id o i e at is standing =
    let first = position-Some (has_id id) o.live i e at in
    let hit : has_id id e ≡ true = ap (has_id id) is ∙ first.1 in
    ap (λ (ls : List LiveEntity). let x : Entities = record o { live = ls } in x) (set_changed change id 0 o.next o.live i e first.0 standing.rising is hit)

pub grown_place : (g : Growth) (id : Id) (o : Entities) (i : ℕ) (e new : LiveEntity) → position (has_id id) o.live ≡ Some i → e ≡ get_or o.live i e → IsStanding o
    → new ≡ grown g e → (let x : Entities = record o { live = set o.live i new } in x) ≡ with_change (grown g) o id
grown_place g id o i e new at is standing ok =
    ap (λ (y : LiveEntity). let x : Entities = record o { live = set o.live i y } in x) ok ∙ placed (grown g) id o i e at is standing

-- the party at the place is as it was
pub kept_place : (o : Entities) (i : ℕ) (e new : LiveEntity) → e ≡ get_or o.live i e → new ≡ e → (let x : Entities = record o { live = set o.live i new } in x) ≡ o
kept_place o i e new is same =
    ap (λ (ls : List LiveEntity). let x : Entities = record o { live = ls } in x) (ap (set o.live i) (same ∙ is) ∙ set-get_or o.live i e)

-- whether memory ran out or not
pub grown_stands : (r : Result (Unit {0}) AllocError) (g : Growth) (id : Id) (o : Entities) (i : ℕ) (e new : LiveEntity) → position (has_id id) o.live ≡ Some i → e ≡ get_or o.live i e
    → IsOpenable o g → IsStanding o → OnOk r (new ≡ grown g e) → OnErr r (new ≡ e) → IsStanding (record o { live = set o.live i new })
grown_stands (Ok u) g id o i e new at is openable standing ok err =
    subst IsStanding (sym (grown_place g id o i e new at is standing ok)) (standing_grown g id o openable standing)
grown_stands (Err error) g id o i e new at is openable standing ok err =
    let same : set o.live i new ≡ o.live = ap (set o.live i) (err ∙ is) ∙ set-get_or o.live i e in
    rw same standing

-- a whole list that was changed as a slice
pub whole : (n : ℕ) (f : LiveEntity → LiveEntity) (xs ys items : List LiveEntity) → ys ≡ map f xs → xs ≡ items → length xs ≡ n
    → take n (ys ++ drop (length ys) items) ≡ map f items
whole n f xs ys items is at len = whole_slice n ys items (ap (λ (l : List LiveEntity). length l) is ∙ length-map xs f ∙ len) ∙ is ∙ ap (map f) at
