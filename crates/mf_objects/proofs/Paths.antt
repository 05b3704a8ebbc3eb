-- The path of an entry is that of its directory, a slash and its name; that of the root is nothing.
use Rattle.std.proofs.Common.{◌≡◌, ℕ, ◌<◌, ◌≤◌, ◌+◌, List, [], ◌∷◌, ◌++◌, Some, None, Option, reverse, refl, ap, sym, ◌∙◌, subst, arith, nat_eq, nat_lt, Bool, true, false, cond, length, get_or, map, take, drop, position}
use Rattle.std.specs.Prelude.{All, find, codes, MatchOption}
use Rattle.std.proofs.lemmas.Bool.Decides.{nat_tests}
use Rattle.std.specs.List.{position_or_len}
use Rattle.std.proofs.lemmas.Bool.{eqb-true}
use Rattle.std.proofs.lemmas.List.{append-nil, append_assoc, map-append, take-append-drop, drop_more, get_or-drop, get_or_default, length-drop}
use Rattle.std.proofs.lemmas.List.Sums.{fails_before_first}
use Rattle.std.proofs.lemmas.List.Quantifiers.{position-Some}
use Rattle.std.proofs.lemmas.List.Elements.{All-nil, All-cons, All-head, All-tail, All-map}
use Rattle.mf_objects.specs.declared.id.Id.{Id}
use Rattle.mf_objects.specs.declared.entity.Entity.{Entity}
use Rattle.mf_objects.specs.declared.entity.EntityData.{EntityData}
use Rattle.mf_objects.specs.declared.entity.EntityData.TheVariants.{Process, Vnode, Pipe, Socket}
use Rattle.mf_objects.specs.Live.{LiveEntity, Entities, has_id, live_at}
use Rattle.mf_objects.specs.Lives.{is_directory}
use Rattle.mf_objects.specs.Population.{Belongs, HasOlder, HasRoot, IsPopulation, IsRising}
use Rattle.mf_objects.specs.Sound.{unlabelled, IsById}
use Rattle.mf_objects.specs.Titles.{parent_of, path_in}
use Rattle.mf_objects.proofs.Shorthands.{path_at, below}
use Rattle.mf_objects.proofs.Belonging.{belongs_at}
use Rattle.mf_objects.proofs.Naming.{path_nothing, path_push}

differs : (a b : ℕ) → a < b → nat_eq b a ≡ false
differs a b less = grind (arith, nat_tests)

-- entities of other ids
abbrev pub NoneOf : Id → List LiveEntity → Type 0
NoneOf id front = All (λ (l : LiveEntity). nat_eq l.id.0 id.0 ≡ false) front

-- entities that are younger change no path
skip : (front more : List LiveEntity) (id : Id) → NoneOf id more → path_in (reverse (front ++ more)) id ≡ path_in (reverse front) id
skip front [] id none = ap (λ (ls : List LiveEntity). path_in (reverse ls) id) (append-nil front)
skip front (l ∷ more) id none =
    let P : LiveEntity → Type 0 = λ x. nat_eq x.id.0 id.0 ≡ false in
    let here : nat_eq l.id.0 id.0 ≡ false = All-head P l more none in
    ap (λ (ls : List LiveEntity). path_in (reverse ls) id) (sym (append_assoc front (l ∷ []) more))
    ∙ skip (front ++ l ∷ []) more id (All-tail P l more none)
    ∙ path_push front l id
    ∙ ap (λ (b : Bool). cond b (below (path_in (reverse front)) (parent_of l.what) l.name) (path_in (reverse front) id)) here

younger : (id : Id) (least next : ℕ) (es : List LiveEntity) → id.0 < least → IsRising least next es → NoneOf id es
younger id least next [] less rising = All-nil (λ (l : LiveEntity). nat_eq l.id.0 id.0 ≡ false)
younger id least next (e ∷ es) less rising =
    All-cons (λ (l : LiveEntity). nat_eq l.id.0 id.0 ≡ false) e es (differs id.0 e.id.0 (omega (arith, rising.0)))
    (younger id (e.id.0 + 1) next es (omega (arith, rising.0)) rising.1)

-- the path of the entity that stands between some entities and younger ones
at_entity : (front : List LiveEntity) (e : LiveEntity) (es : List LiveEntity) (id : Id) (next : ℕ) → IsRising (e.id.0 + 1) next es → nat_eq e.id.0 id.0 ≡ true → id.0 < e.id.0 + 1
    → path_in (reverse (front ++ e ∷ es)) id ≡ below (path_in (reverse front)) (parent_of e.what) e.name
at_entity front e es id next rising this older =
    ap (λ (ls : List LiveEntity). path_in (reverse ls) id) (sym (append_assoc front (e ∷ []) es))
    ∙ skip (front ++ e ∷ []) es id (younger id (e.id.0 + 1) next es older rising)
    ∙ path_push front e id
    ∙ ap (λ (b : Bool). cond b (below (path_in (reverse front)) (parent_of e.what) e.name) (path_in (reverse front) id)) this

in_directory : (front : List LiveEntity) (least next : ℕ) (es : List LiveEntity) (id dir : Id) (e : LiveEntity) → IsRising least next es → find (has_id id) es ≡ Some e → parent_of e.what ≡ Some dir → dir.0 < e.id.0
    → path_in (reverse (front ++ es)) id ≡ path_in (reverse (front ++ es)) dir ++ codes "/" ++ e.name
in_directory front least next [] id dir e rising is parent older = cc
in_directory front least next (x ∷ es) id dir e rising is parent older =
    one (has_id id x) refl (in_directory (front ++ x ∷ []) (x.id.0 + 1) next es id dir e rising.1) is
  where
    inside_some : (a b : LiveEntity) → Some a ≡ Some b → a ≡ b
    inside_some a b e = cc

    same_number : nat_eq x.id.0 id.0 ≡ true → x.id.0 ≡ id.0
    same_number h = grind (arith, nat_tests)

    one : (b : Bool) → has_id id x ≡ b
        → (find (has_id id) es ≡ Some e → parent_of e.what ≡ Some dir → dir.0 < e.id.0
        → path_in (reverse ((front ++ x ∷ []) ++ es)) id ≡ path_in (reverse ((front ++ x ∷ []) ++ es)) dir ++ codes "/" ++ e.name)
        → cond b (Some x) (find (has_id id) es) ≡ Some e
        → path_in (reverse (front ++ x ∷ es)) id ≡ path_in (reverse (front ++ x ∷ es)) dir ++ codes "/" ++ e.name
    one true this later is =
        let same : x ≡ e = inside_some x e is in
        let up : parent_of x.what ≡ Some dir = ap (λ (l : LiveEntity). parent_of l.what) same ∙ parent in
        let before : dir.0 < x.id.0 = subst (λ (l : LiveEntity). dir.0 < l.id.0) (sym same) older in
        let above : path_in (reverse (front ++ x ∷ es)) dir ≡ path_in (reverse front) dir =
        skip front (x ∷ es) dir (All-cons (λ (l : LiveEntity). nat_eq l.id.0 dir.0 ≡ false) x es (differs dir.0 x.id.0 before)
        (younger dir (x.id.0 + 1) next es (omega (arith, before)) rising.1)) in
        at_entity front x es id next rising.1 this (omega (arith, same_number this))
        ∙ ap (λ (o : Option Id). below (path_in (reverse front)) o x.name) up
        ∙ ap (λ (p : List ℕ). p ++ codes "/" ++ x.name) (sym above)
        ∙ ap (λ (l : LiveEntity). path_in (reverse (front ++ x ∷ es)) dir ++ codes "/" ++ l.name) same
    one false miss later is =
        let joined : (front ++ x ∷ []) ++ es ≡ front ++ x ∷ es = append_assoc front (x ∷ []) es in
        subst (λ (ls : List LiveEntity). path_in (reverse ls) id ≡ path_in (reverse ls) dir ++ codes "/" ++ e.name) joined (later is parent older)

parent_older : (live : List LiveEntity) (n : ℕ) (w : EntityData) (dir : Id) → Belongs live n w → parent_of w ≡ Some dir → dir.0 < n
parent_older live n (Process process) dir belongs parent = cc
parent_older live n (Vnode vnode) dir belongs parent =
    let older : MatchOption (Some dir) (n ≡ 0) (λ d. HasOlder is_directory live n d) =
    subst (λ (o : Option Id). MatchOption o (n ≡ 0) (λ d. HasOlder is_directory live n d)) parent belongs in
    older.0
parent_older live n (Pipe pipe) dir belongs parent = cc
parent_older live n (Socket socket) dir belongs parent = cc

-- the path of what lies in a directory is that of the directory, a slash and the name
pub path_of_entry : (objects : Entities) (id dir : Id) (e : LiveEntity) → IsPopulation objects → live_at objects id ≡ Some e → parent_of e.what ≡ Some dir
    → path_at objects id ≡ path_at objects dir ++ codes "/" ++ e.name
path_of_entry objects id dir e population is parent =
    in_directory [] 0 objects.next objects.live id dir e population.rising is parent
    (parent_older objects.live e.id.0 e.what dir (belongs_at objects id e population is) parent)

no_parent : (live : List LiveEntity) (n : ℕ) (w : EntityData) → n ≡ 0 → Belongs live n w → parent_of w ≡ None
no_parent live n (Process process) first belongs = refl
no_parent live n (Vnode vnode) first belongs = by_parent vnode.parent belongs
  where
    by_parent : (o : Option Id) → MatchOption o (n ≡ 0) (λ d. HasOlder is_directory live n d) → o ≡ None
    by_parent None belongs = refl
    by_parent (Some dir) belongs = absurd (omega (arith, belongs.0, first))
no_parent live n (Pipe pipe) first belongs = refl
no_parent live n (Socket socket) first belongs = refl

-- the path of the root is nothing
pub path_of_root : (objects : Entities) (id : Id) → IsPopulation objects → id.0 ≡ 0 → path_at objects id ≡ []
path_of_root objects id population first = by_live objects.live population.rooted population.rising (λ e. belongs_at objects id e population)
  where
    by_live : (live : List LiveEntity) → HasRoot live → IsRising 0 objects.next live
        → ((e : LiveEntity) → find (has_id id) live ≡ Some e → Belongs objects.live e.id.0 e.what) → path_in (reverse live) id ≡ []
    by_live [] root rising belongs = absurd root
    by_live (r ∷ es) root rising belongs =
        let this : nat_eq r.id.0 id.0 ≡ true = grind (arith, nat_tests, root.0, first) in
        let found : find (has_id id) (r ∷ es) ≡ Some r = rw this refl in
        let none : parent_of r.what ≡ None = no_parent objects.live r.id.0 r.what root.0 (belongs r found) in
        at_entity [] r es id objects.next rising.1 this (omega (arith, first))
        ∙ ap (λ (o : Option Id). below (path_in []) o r.name) none

-- Entities that stand by rising id

abbrev is_at : Id → Entity → Bool
is_at id e = nat_eq e.id.0 id.0

-- what is read at the place of an id is one entity
pub one_entity : (es : List Entity) (id : Id) (i : ℕ) (d e : Entity) → position (λ (e : Entity). nat_eq e.id.0 id.0) es ≡ Some i → get_or es i d ≡ get_or es i e
one_entity es id i d e at = get_or_default es i d e (position-Some (is_at id) es i d at).0

-- the path of the one at a place is told by those before it
pub path_of_place : (es : List Entity) (id : Id) (i : ℕ) (d : Entity) → IsById es → position (λ (e : Entity). nat_eq e.id.0 id.0) es ≡ Some i
    → path_in (reverse (map unlabelled es)) id ≡ below (path_in (reverse (map unlabelled (take i es)))) (parent_of (get_or es i d).what) (get_or es i d).name
path_of_place es id i d by_id at =
    let found = position-Some (is_at id) es i d at in
    let e : Entity = get_or es i d in
    let front : List LiveEntity = map unlabelled (take i es) in
    let rest : List Entity = drop (i + 1) es in
    let split : es ≡ take i es ++ e ∷ rest = sym (take-append-drop i es) ∙ ap (λ (xs : List Entity). take i es ++ xs) (drop_more es i d found.0) in
    ap (λ (xs : List Entity). path_in (reverse (map unlabelled xs)) id) split
    ∙ ap (λ (ls : List LiveEntity). path_in (reverse ls) id)
    (map-append unlabelled (take i es) (e ∷ rest) ∙ sym (append_assoc front (unlabelled e ∷ []) (map unlabelled rest)))
    ∙ skip (front ++ unlabelled e ∷ []) (map unlabelled rest) id (All-map (λ (l : LiveEntity). nat_eq l.id.0 id.0 ≡ false) unlabelled rest later)
    ∙ path_push front (unlabelled e) id
    ∙ ap (λ (b : Bool). cond b (below (path_in (reverse front)) (parent_of e.what) e.name) (path_in (reverse front) id)) found.1
  where
    later : All (λ (x : Entity). nat_eq x.id.0 id.0 ≡ false) (drop (i + 1) es)
    later k x l =
        let here = position-Some (is_at id) es i x at in
        let same : (get_or es i x).id.0 ≡ id.0 = eqb-true (get_or es i x).id.0 id.0 here.1 in
        let above : (get_or es i x).id.0 < (get_or es (i + 1 + k) x).id.0 = by_id i (i + 1 + k) x (omega arith) (omega (arith, l, length-drop (i + 1) es)) in
        rw (get_or-drop (i + 1) es k x) (differs id.0 (get_or es (i + 1 + k) x).id.0 (omega (arith, same, above)))

-- an id that none of them has leads nowhere
pub path_of_none : (es : List Entity) (id : Id) → position (λ (e : Entity). nat_eq e.id.0 id.0) es ≡ None → path_in (reverse (map unlabelled es)) id ≡ []
path_of_none es id none =
    skip [] (map unlabelled es) id (All-map (λ (l : LiveEntity). nat_eq l.id.0 id.0 ≡ false) unlabelled es (λ k x l. fails_before_first (is_at id) es k x (omega (arith, l, end)))) ∙ path_nothing id
  where
    over : (n m : ℕ) (b : Bool) → nat_lt n m ≡ b → cond b (Some n) None ≡ None → m ≤ n
    over n m true less is = cc is
    over n m false less is = grind (arith, nat_tests)

    end : length es ≤ position_or_len (is_at id) es
    end = over (position_or_len (is_at id) es) (length es) (nat_lt (position_or_len (is_at id) es) (length es)) refl none

-- nothing was appended
pub path_unsaid : (out path : List ℕ) → path ≡ [] → out ≡ out ++ path
path_unsaid out path none = sym (append-nil out) ∙ ap (λ (bytes : List ℕ). out ++ bytes) (sym none)
