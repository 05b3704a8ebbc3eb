-- What live entities belong to, through each change.
use Rattle.std.proofs.Common.{◌≡◌, ℕ, ◌<◌, ◌≤◌, ◌+◌, List, [], ◌∷◌, ◌++◌, Option, Some, None, length, get_or, take, drop, map, remove, refl, ap, sym, ◌∙◌, subst, arith, zero, suc, nat_eq, eq-eqb, IsTrue, Bool, true, false, cond}
use Rattle.std.specs.Prelude.{All, find, filter, count_by, MatchOption}
use Rattle.std.specs.Option.{option_or}
use Rattle.std.proofs.lemmas.Bool.{false≢true, eqb-true}
use Rattle.std.proofs.lemmas.List.Folds.{find-append}
use Rattle.std.proofs.lemmas.List.Elements.{All-nil, All-cons, All-append, All-take, All-drop, All-push, All-map, All-head, All-tail}
use Rattle.std.proofs.lemmas.List.Sums.{get_or-le-sum_by, length-filter}
use Rattle.mf_objects.proofs.Entities.{changed_at}
use Rattle.mf_objects.specs.declared.id.Id.{Id}
use Rattle.mf_objects.specs.declared.entity.EntityData.{EntityData}
use Rattle.mf_objects.specs.declared.entity.EntityData.TheVariants.{Process, Vnode, Pipe, Socket}
use Rattle.mf_objects.specs.Live.{LiveEntity, Entities, has_id, live_at, is_process, is_pipe, is_socket, is_entry, is_made_by}
use Rattle.mf_objects.specs.Lives.{passes, is_directory, is_regular, IsLive, is_held_by}
use Rattle.mf_objects.specs.declared.descriptors.Fd.{Fd}
use Rattle.mf_objects.specs.Changes.{appended, cleared, with_mode, with_messages}
use Rattle.mf_objects.specs.Descriptors.{with_fds}
use Rattle.mf_objects.specs.Fits.{MayJoin, IsBare, FitsBytes}
use Rattle.mf_objects.specs.Population.{HasOlder, shares_names, NoBytesIfDirectory, Belongs, AllBelong, IsPopulation, IsRising}
use Rattle.mf_objects.proofs.Rising.{id_is, id_differs, below_next, at_least, changed_id}

pub same_id : (a b : Id) → a.0 ≡ b.0 → a ≡ b
same_id a b same = ap (λ (n : ℕ). let i : Id = record { 0 = n } in i) same

-- Where all that it may belong to stays

pub Belongs-weaker : (live live' : List LiveEntity) (n : ℕ) (w : EntityData)
    → ((dir : Id) → is_entry dir w ≡ true → IsTrue (passes is_directory (find (has_id dir) live)) → IsTrue (passes is_directory (find (has_id dir) live')))
    → ((maker : Id) → is_made_by maker w ≡ true → IsTrue (passes is_process (find (has_id maker) live)) → IsTrue (passes is_process (find (has_id maker) live')))
    → Belongs live n w → Belongs live' n w
Belongs-weaker live live' n (Process process) dirs makers belongs = tt
Belongs-weaker live live' n (Vnode vnode) dirs makers belongs = by_parent vnode.parent refl belongs
  where
    by_parent : (parent : Option Id) → vnode.parent ≡ parent → MatchOption parent (n ≡ 0) (λ dir. HasOlder is_directory live n dir)
        → MatchOption parent (n ≡ 0) (λ dir. HasOlder is_directory live' n dir)
    by_parent None is belongs = belongs
    by_parent (Some dir) is belongs = (belongs.0, dirs dir (ap (is_held_by dir) is ∙ eq-eqb dir.0 dir.0 refl) belongs.1)
Belongs-weaker live live' n (Pipe pipe) dirs makers belongs = (belongs.0, makers pipe.maker (eq-eqb pipe.maker.0 pipe.maker.0 refl) belongs.1)
Belongs-weaker live live' n (Socket socket) dirs makers belongs = (belongs.0, makers socket.maker (eq-eqb socket.maker.0 socket.maker.0 refl) belongs.1)

-- What an entity belongs to

pub entry_directory : (live : List LiveEntity) (n : ℕ) (dir : Id) (w : EntityData) → Belongs live n w → is_entry dir w ≡ true → HasOlder is_directory live n dir
entry_directory live n dir (Process process) belongs entry = absurd (false≢true entry)
entry_directory live n dir (Vnode vnode) belongs entry = by_parent vnode.parent belongs entry
  where
    by_parent : (parent : Option Id) → MatchOption parent (n ≡ 0) (λ d. HasOlder is_directory live n d) → is_held_by dir parent ≡ true → HasOlder is_directory live n dir
    by_parent None belongs entry = absurd (false≢true entry)
    by_parent (Some d) belongs entry = subst (λ (i : Id). HasOlder is_directory live n i) (same_id d dir (eqb-true d.0 dir.0 entry)) belongs
entry_directory live n dir (Pipe pipe) belongs entry = absurd (false≢true entry)
entry_directory live n dir (Socket socket) belongs entry = absurd (false≢true entry)

pub maker_process : (live : List LiveEntity) (n : ℕ) (maker : Id) (w : EntityData) → Belongs live n w → is_made_by maker w ≡ true → HasOlder is_process live n maker
maker_process live n maker (Process process) belongs made = absurd (false≢true made)
maker_process live n maker (Vnode vnode) belongs made = absurd (false≢true made)
maker_process live n maker (Pipe pipe) belongs made =
    subst (λ (i : Id). HasOlder is_process live n i) (same_id pipe.maker maker (eqb-true pipe.maker.0 maker.0 made)) belongs
maker_process live n maker (Socket socket) belongs made =
    subst (λ (i : Id). HasOlder is_process live n i) (same_id socket.maker maker (eqb-true socket.maker.0 maker.0 made)) belongs

not_true : (b : Bool) → (b ≡ true → ⊥) → b ≡ false
not_true true no_true = absurd (no_true refl)
not_true false no_true = refl

-- nothing is an entry of what isn't a directory
pub no_entry : (live : List LiveEntity) (id : Id) → AllBelong live → passes is_directory (find (has_id id) live) ≡ false → All (λ e. is_entry id e.what ≡ false) live
no_entry live id all other k d l =
    let e : LiveEntity = get_or live k d in
    let belongs : Belongs live e.id.0 e.what = all k d l in
    not_true (is_entry id e.what) (λ entry. let directory = entry_directory live e.id.0 id e.what belongs entry in false≢true (sym other ∙ directory.1))

-- nothing is made by what isn't a process
pub no_made : (live : List LiveEntity) (id : Id) → AllBelong live → passes is_process (find (has_id id) live) ≡ false → All (λ e. is_made_by id e.what ≡ false) live
no_made live id all other k d l =
    let e : LiveEntity = get_or live k d in
    let belongs : Belongs live e.id.0 e.what = all k d l in
    not_true (is_made_by id e.what) (λ made. let process = maker_process live e.id.0 id e.what belongs made in false≢true (sym other ∙ process.1))

count_one : (b : Bool) → cond b 1 0 ≤ 0 → b ≡ false
count_one true few = absurd (omega (arith, few))
count_one false few = refl

-- a count of 0
pub none_counted : (test : LiveEntity → Bool) (live : List LiveEntity) → count_by test live ≡ 0 → All (λ e. test e ≡ false) live
none_counted test live none k d l = count_one (test (get_or live k d)) (omega (arith, none, get_or-le-sum_by (λ (e : LiveEntity). cond (test e) 1 0) live k d l))

filter_none : (test : LiveEntity → Bool) (live : List LiveEntity) → All (λ e. test e ≡ false) live → filter test live ≡ []
filter_none test [] all = refl
filter_none test (e ∷ es) all =
    let here : test e ≡ false = All-head (λ (x : LiveEntity). test x ≡ false) e es all in
    rw here (filter_none test es (All-tail (λ (x : LiveEntity). test x ≡ false) e es all))

pub counted_none : (test : LiveEntity → Bool) (live : List LiveEntity) → All (λ e. test e ≡ false) live → count_by test live ≡ 0
counted_none test live all = sym (length-filter test live) ∙ ap (λ (es : List LiveEntity). length es) (filter_none test live all)

-- nothing that lives belongs to the entity of this id
abbrev pub NoneBelongs : Id → List LiveEntity → Type 0
NoneBelongs id live = All (λ (e : LiveEntity). (is_entry id e.what ≡ false) × (is_made_by id e.what ≡ false)) live

none_of : (live : List LiveEntity) (id : Id) → All (λ e. is_entry id e.what ≡ false) live → All (λ e. is_made_by id e.what ≡ false) live → NoneBelongs id live
none_of live id entry made k d l = (entry k d l, made k d l)

pub bare_none : (live : List LiveEntity) (id : Id) (w : EntityData) → AllBelong live → ((test : EntityData → Bool) → passes test (find (has_id id) live) ≡ test w) → IsBare live id w → NoneBelongs id live
bare_none live id (Process process) all is bare =
    none_of live id (no_entry live id all (is is_directory)) (none_counted (λ (e : LiveEntity). is_made_by id e.what) live bare)
bare_none live id (Vnode vnode) all is bare =
    none_of live id (none_counted (λ (e : LiveEntity). is_entry id e.what) live bare.0) (no_made live id all (is is_process))
bare_none live id (Pipe pipe) all is bare = none_of live id (no_entry live id all (is is_directory)) (no_made live id all (is is_process))
bare_none live id (Socket socket) all is bare = none_of live id (no_entry live id all (is is_directory)) (no_made live id all (is is_process))

-- what all are is true of what is found
pub find_all : (P : LiveEntity → Type 0) (test : LiveEntity → Bool) (es : List LiveEntity) (x : LiveEntity) → All P es → find test es ≡ Some x → P x
find_all P test [] x all is = cc
find_all P test (e ∷ es) x all is = one (test e) (find_all P test es x (All-tail P e es all)) is
  where
    inside_some : (a b : LiveEntity) → Some a ≡ Some b → a ≡ b
    inside_some a b e = cc

    one : (b : Bool) → (find test es ≡ Some x → P x) → cond b (Some e) (find test es) ≡ Some x → P x
    one true rest is = subst P (inside_some e x is) (All-head P e es all)
    one false rest is = rest is

pub belongs_at : (objects : Entities) (id : Id) (e : LiveEntity) → IsPopulation objects → live_at objects id ≡ Some e → Belongs objects.live e.id.0 e.what
belongs_at objects id e population is = find_all (λ (x : LiveEntity). Belongs objects.live x.id.0 x.what) (has_id id) objects.live e population.belong is

-- One entity more

passes_or : (test : EntityData → Bool) (found other : Option LiveEntity) → passes test found ≡ true → passes test (option_or found other) ≡ true
passes_or test None other is = absurd (false≢true is)
passes_or test (Some e) other is = is

pub passes_append : (test : EntityData → Bool) (id : Id) (live more : List LiveEntity) → passes test (find (has_id id) live) ≡ true → passes test (find (has_id id) (live ++ more)) ≡ true
passes_append test id live more is =
    ap (passes test) (find-append (has_id id) live more) ∙ passes_or test (find (has_id id) live) (find (has_id id) more) is

pub belong_one : (x : LiveEntity) → Belongs (x ∷ []) x.id.0 x.what → AllBelong (x ∷ [])
belong_one x belongs = let P : LiveEntity → Type 0 = λ e. Belongs (x ∷ []) e.id.0 e.what in All-cons P x [] belongs (All-nil P)

pub belong_push : (live : List LiveEntity) (x : LiveEntity) → AllBelong live → Belongs live x.id.0 x.what → AllBelong (live ++ x ∷ [])
belong_push live x all here =
    All-push (λ (e : LiveEntity). Belongs (live ++ x ∷ []) e.id.0 e.what) live x
    (λ k d l. longer (get_or live k d).id.0 (get_or live k d).what (all k d l)) (longer x.id.0 x.what here)
  where
    longer : (n : ℕ) (w : EntityData) → Belongs live n w → Belongs (live ++ x ∷ []) n w
    longer n w =
        Belongs-weaker live (live ++ x ∷ []) n w (λ dir _. passes_append is_directory dir live (x ∷ [])) (λ maker _. passes_append is_process maker live (x ∷ []))

-- a live id is below the next one
live_below : (test : EntityData → Bool) (id : Id) (least next : ℕ) (es : List LiveEntity) → IsRising least next es → passes test (find (has_id id) es) ≡ true → id.0 < next
live_below test id least next [] rising is = absurd (false≢true is)
live_below test id least next (e ∷ es) rising is = one (has_id id e) refl (live_below test id (e.id.0 + 1) next es rising.1) is
  where
    one : (b : Bool) → has_id id e ≡ b → (passes test (find (has_id id) es) ≡ true → id.0 < next) → passes test (cond b (Some e) (find (has_id id) es)) ≡ true → id.0 < next
    one true has later is = omega (arith, id_is id e has, below_next (e.id.0 + 1) next es rising.1)
    one false has later is = later is

pub joins : (objects : Entities) (w : EntityData) → IsRising 0 objects.next objects.live → MayJoin objects w → Belongs objects.live objects.next w
joins objects (Process process) rising join = tt
joins objects (Vnode vnode) rising join = by_parent vnode.parent join.0
  where
    by_parent : (parent : Option Id) → MatchOption parent ⊥ (λ dir. IsLive is_directory objects dir)
        → MatchOption parent (objects.next ≡ 0) (λ dir. HasOlder is_directory objects.live objects.next dir)
    by_parent None join = absurd join
    by_parent (Some dir) join = (live_below is_directory dir 0 objects.next objects.live rising join, join)
joins objects (Pipe pipe) rising join = (live_below is_process pipe.maker 0 objects.next objects.live rising join, join)
joins objects (Socket socket) rising join = (live_below is_process socket.maker 0 objects.next objects.live rising join, join)

pub joins_bare : (objects : Entities) (w : EntityData) → MayJoin objects w → NoBytesIfDirectory w
joins_bare objects (Process process) join directory = absurd (false≢true directory)
joins_bare objects (Vnode vnode) join directory = join.1 directory
joins_bare objects (Pipe pipe) join directory = absurd (false≢true directory)
joins_bare objects (Socket socket) join directory = absurd (false≢true directory)

-- One entity less

pub All-remove : (P : LiveEntity → Type 0) (es : List LiveEntity) (i : ℕ) → All P es → All P (remove es i)
All-remove P es i all = All-append P (take i es) (drop (suc i) es) (All-take P i es all) (All-drop P (suc i) es all)

pub find_remove : (test : LiveEntity → Bool) (es : List LiveEntity) (i : ℕ) (d : LiveEntity) → i < length es → test (get_or es i d) ≡ false → find test (remove es i) ≡ find test es
find_remove test [] i d within miss = absurd (omega arith)
find_remove test (e ∷ es) zero d within miss = rw miss refl
find_remove test (e ∷ es) (suc i) d within miss = one (test e) (find_remove test es i d (omega arith) miss)
  where
    one : (b : Bool) → find test (remove es i) ≡ find test es → cond b (Some e) (find test (remove es i)) ≡ cond b (Some e) (find test es)
    one true rest = refl
    one false rest = rest

-- the entity at a place is the one of its id
pub find_own : (least next : ℕ) (es : List LiveEntity) (i : ℕ) (d : LiveEntity) → i < length es → IsRising least next es → find (has_id (get_or es i d).id) es ≡ Some (get_or es i d)
find_own least next [] i d within rising = absurd (omega arith)
find_own least next (e ∷ es) zero d within rising = rw (eq-eqb e.id.0 e.id.0 refl) refl
find_own least next (e ∷ es) (suc i) d within rising =
    let later : e.id.0 + 1 ≤ (get_or es i d).id.0 = at_least (e.id.0 + 1) next es i d (omega arith) rising.1 in
    let miss : has_id (get_or es i d).id e ≡ false = id_differs (get_or es i d).id e (λ same. omega (arith, later, same)) in
    rw miss (find_own (e.id.0 + 1) next es i d (omega arith) rising.1)

pub belong_remove : (live : List LiveEntity) (i : ℕ) (x : LiveEntity) → i < length live → x ≡ get_or live i x → AllBelong live → NoneBelongs x.id live → AllBelong (remove live i)
belong_remove live i x within is all none =
    All-remove P live i shorter
  where
    P : LiveEntity → Type 0
    P e = Belongs (remove live i) e.id.0 e.what

    keeps : (test : EntityData → Bool) (id : Id) → (x.id.0 ≡ id.0 → ⊥) → passes test (find (has_id id) live) ≡ true → passes test (find (has_id id) (remove live i)) ≡ true
    keeps test id other passed =
        let miss : has_id id (get_or live i x) ≡ false = ap (has_id id) (sym is) ∙ id_differs id x other in
        ap (passes test) (find_remove (has_id id) live i x within miss) ∙ passed

    entry_other : (w : EntityData) (dir : Id) → is_entry x.id w ≡ false → is_entry dir w ≡ true → x.id.0 ≡ dir.0 → ⊥
    entry_other w dir no_entry entry same = false≢true (sym no_entry ∙ ap (λ (i : Id). is_entry i w) (same_id x.id dir same) ∙ entry)

    made_other : (w : EntityData) (maker : Id) → is_made_by x.id w ≡ false → is_made_by maker w ≡ true → x.id.0 ≡ maker.0 → ⊥
    made_other w maker no_made made same = false≢true (sym no_made ∙ ap (λ (i : Id). is_made_by i w) (same_id x.id maker same) ∙ made)

    shorter : All P live
    shorter k d l =
        let e : LiveEntity = get_or live k d in
        Belongs-weaker live (remove live i) e.id.0 e.what
        (λ dir entry. keeps is_directory dir (entry_other e.what dir (none k d l).0 entry))
        (λ maker made. keeps is_process maker (made_other e.what maker (none k d l).1 made)) (all k d l)

-- One entity changed

-- it stays of its kind, belongs to what it belonged to, and holds no bytes that it may not hold
pub record Stays (w w' : EntityData) : Type 0 where
  pub process : is_process w' ≡ is_process w
  pub directory : is_directory w' ≡ is_directory w
  pub regular : is_regular w' ≡ is_regular w
  pub belongs : (live : List LiveEntity) (n : ℕ) → Belongs live n w → Belongs live n w'
  pub no_bytes : NoBytesIfDirectory w → NoBytesIfDirectory w'
  pub pipe : is_pipe w' ≡ is_pipe w
  pub socket : is_socket w' ≡ is_socket w
  pub entry : (dir : Id) → is_entry dir w' ≡ is_entry dir w
  pub names : (other : EntityData) → shares_names w' other ≡ shares_names w other

pub stays_same : (w : EntityData) → Stays w w
stays_same w = record { process = refl; directory = refl; regular = refl; belongs = λ live n b. b; pipe = refl; socket = refl; entry = λ dir. refl; names = λ other. refl; no_bytes = λ held. held }

pub appended_stays : (text : List ℕ) (w : EntityData) → FitsBytes (length text) w → Stays w (appended text w)
appended_stays text (Process process) fits = absurd fits
appended_stays text (Vnode vnode) fits =
    record { process = refl; directory = refl; regular = refl; belongs = λ live n b. b; pipe = refl; socket = refl; entry = λ dir. refl; names = λ other. refl; no_bytes = λ held directory. absurd (false≢true (sym fits.0 ∙ directory)) }
appended_stays text (Pipe pipe) fits =
    record { process = refl; directory = refl; regular = refl; belongs = λ live n b. b; pipe = refl; socket = refl; entry = λ dir. refl; names = λ other. refl; no_bytes = λ held directory. absurd (false≢true directory) }
appended_stays text (Socket socket) fits = absurd fits

pub cleared_stays : (w : EntityData) → Stays w (cleared w)
cleared_stays (Process process) = stays_same (Process process)
cleared_stays (Vnode vnode) = stays_same (Vnode vnode)
cleared_stays (Pipe pipe) =
    record { process = refl; directory = refl; regular = refl; belongs = λ live n b. b; pipe = refl; socket = refl; entry = λ dir. refl; names = λ other. refl; no_bytes = λ held directory. absurd (false≢true directory) }
cleared_stays (Socket socket) = stays_same (Socket socket)

pub mode_stays : (mode : ℕ) (w : EntityData) → Stays w (with_mode mode w)
mode_stays mode (Process process) = stays_same (Process process)
mode_stays mode (Vnode vnode) = record { process = refl; directory = refl; regular = refl; belongs = λ live n b. b; pipe = refl; socket = refl; entry = λ dir. refl; names = λ other. refl; no_bytes = λ held. held }
mode_stays mode (Pipe pipe) = stays_same (Pipe pipe)
mode_stays mode (Socket socket) = stays_same (Socket socket)

pub messages_stay : (change : List (List ℕ) → List (List ℕ)) (w : EntityData) → Stays w (with_messages change w)
messages_stay change (Process process) = stays_same (Process process)
messages_stay change (Vnode vnode) = stays_same (Vnode vnode)
messages_stay change (Pipe pipe) = stays_same (Pipe pipe)
messages_stay change (Socket socket) =
    record { process = refl; directory = refl; regular = refl; belongs = λ live n b. b; pipe = refl; socket = refl; entry = λ dir. refl; names = λ other. refl; no_bytes = λ held directory. absurd (false≢true directory) }

pub fds_stay : (change : List Fd → List Fd) (w : EntityData) → Stays w (with_fds change w)
fds_stay change (Process process) =
    record { process = refl; directory = refl; regular = refl; belongs = λ live n b. b; pipe = refl; socket = refl; entry = λ dir. refl; names = λ other. refl; no_bytes = λ held. held }
fds_stay change (Vnode vnode) = stays_same (Vnode vnode)
fds_stay change (Pipe pipe) = stays_same (Pipe pipe)
fds_stay change (Socket socket) = stays_same (Socket socket)

-- each entity stays as it is to be
abbrev pub AllStay : (LiveEntity → LiveEntity) → List LiveEntity → Type 0
AllStay f live = All (λ (e : LiveEntity). Stays e.what (f e).what) live

-- the entity of this id stays as it is to be, where it is changed
abbrev pub StaysAt : (LiveEntity → LiveEntity) → Id → List LiveEntity → Type 0
StaysAt change id live = All (λ (e : LiveEntity). has_id id e ≡ true → Stays e.what (change e).what) live

pub changed_stays : (change : LiveEntity → LiveEntity) (id : Id) (live : List LiveEntity) → StaysAt change id live → AllStay (changed_at change id) live
changed_stays change id live stays k d l = one (get_or live k d) (has_id id (get_or live k d)) refl (stays k d l)
  where
    one : (e : LiveEntity) (b : Bool) → has_id id e ≡ b → (has_id id e ≡ true → Stays e.what (change e).what) → Stays e.what (cond b (change e) e).what
    one e true has here = here has
    one e false has here = stays_same e.what

-- there is one entity of this id: the one at this place
pub all_of_id : (P : LiveEntity → Type 0) (id : Id) (next : ℕ) (live : List LiveEntity) (i : ℕ) (x : LiveEntity) → i < length live → IsRising 0 next live → x ≡ get_or live i x → has_id id x ≡ true
    → P x → All (λ e. has_id id e ≡ true → P e) live
all_of_id P id next live i x within rising at has here k d l other =
    let e : LiveEntity = get_or live k d in
    let own : find (has_id e.id) live ≡ Some e = find_own 0 next live k d l rising in
    let own_x : find (has_id x.id) live ≡ Some x = subst (λ (y : LiveEntity). find (has_id y.id) live ≡ Some y) (sym at) (find_own 0 next live i x within rising) in
    let same : x.id ≡ e.id = same_id x.id e.id (id_is id x has ∙ sym (id_is id e other)) in
    subst P (inside_some x e (sym own_x ∙ ap (λ (j : Id). find (has_id j) live) same ∙ own)) here
  where
    inside_some : (a b : LiveEntity) → Some a ≡ Some b → a ≡ b
    inside_some a b e = cc

-- a look-up by id, where entities are changed and keep their ids
pub passes_mapped : (f : LiveEntity → LiveEntity) (test : EntityData → Bool) (of : Id) (es : List LiveEntity) → ((e : LiveEntity) → (f e).id ≡ e.id)
    → All (λ e. test (f e).what ≡ test e.what) es → passes test (find (has_id of) (map f es)) ≡ passes test (find (has_id of) es)
passes_mapped f test of [] ids tests = refl
passes_mapped f test of (e ∷ es) ids tests =
    let has : has_id of (f e) ≡ has_id of e = ap (λ (i : Id). nat_eq i.0 of.0) (ids e) in
    let P : LiveEntity → Type 0 = λ x. test (f x).what ≡ test x.what in
    rw has (one (has_id of e) (All-head P e es tests) (passes_mapped f test of es ids (All-tail P e es tests)))
  where
    one : (b : Bool) → test (f e).what ≡ test e.what → passes test (find (has_id of) (map f es)) ≡ passes test (find (has_id of) es)
        → passes test (cond b (Some (f e)) (find (has_id of) (map f es))) ≡ passes test (cond b (Some e) (find (has_id of) es))
    one true here rest = here
    one false here rest = rest

pub belong_mapped : (f : LiveEntity → LiveEntity) (live : List LiveEntity) → ((e : LiveEntity) → (f e).id ≡ e.id) → AllStay f live → AllBelong live → AllBelong (map f live)
belong_mapped f live ids stays all =
    All-map (λ (e : LiveEntity). Belongs (map f live) e.id.0 e.what) f live (λ k d l. one (get_or live k d) (stays k d l) (all k d l))
  where
    moved : (n : ℕ) (w : EntityData) → Belongs live n w → Belongs (map f live) n w
    moved n w =
        Belongs-weaker live (map f live) n w
        (λ dir _ is. passes_mapped f is_directory dir live ids (λ k d l. (stays k d l).directory) ∙ is)
        (λ maker _ is. passes_mapped f is_process maker live ids (λ k d l. (stays k d l).process) ∙ is)

    one : (e : LiveEntity) → Stays e.what (f e).what → Belongs live e.id.0 e.what → Belongs (map f live) (f e).id.0 (f e).what
    one e stays belongs = moved (f e).id.0 (f e).what (subst (λ (i : Id). Belongs live i.0 (f e).what) (sym (ids e)) (stays.belongs live e.id.0 belongs))

pub belong_changed : (change : LiveEntity → LiveEntity) (id : Id) (live : List LiveEntity) → ((e : LiveEntity) → (change e).id ≡ e.id) → StaysAt change id live
    → AllBelong live → AllBelong (map (changed_at change id) live)
belong_changed change id live ids stays all = belong_mapped (changed_at change id) live (changed_id change id ids) (changed_stays change id live stays) all

pub directories_mapped : (f : LiveEntity → LiveEntity) (live : List LiveEntity) → AllStay f live
    → All (λ e. NoBytesIfDirectory e.what) live → All (λ e. NoBytesIfDirectory e.what) (map f live)
directories_mapped f live stays all = All-map (λ (e : LiveEntity). NoBytesIfDirectory e.what) f live (λ k d l. (stays k d l).no_bytes (all k d l))

pub directories_changed : (change : LiveEntity → LiveEntity) (id : Id) (live : List LiveEntity) → StaysAt change id live
    → All (λ e. NoBytesIfDirectory e.what) live → All (λ e. NoBytesIfDirectory e.what) (map (changed_at change id) live)
directories_changed change id live stays all = directories_mapped (changed_at change id) live (changed_stays change id live stays) all
