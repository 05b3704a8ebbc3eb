-- Live entities by rising id: each id stands once.
use Rattle.std.proofs.Common.{◌≡◌, ◌≢◌, ℕ, ◌<◌, ◌≤◌, ◌+◌, List, [], ◌∷◌, ◌++◌, Some, length, get_or, set, map, remove, refl, ap, sym, ◌∙◌, arith, zero, suc, eq-eqb, Bool, true, false, not, cond}
use Rattle.std.specs.Prelude.{filter, find, All}
use Rattle.std.proofs.lemmas.List.Elements.{All-head}
use Rattle.std.proofs.lemmas.Bool.Decides.{nat_tests}
use Rattle.mf_objects.proofs.Entities.{changed_at}
use Rattle.mf_objects.specs.declared.id.Id.{Id}
use Rattle.mf_objects.specs.Live.{LiveEntity, has_id}
use Rattle.mf_objects.specs.Lives.{is_directory}
use Rattle.mf_objects.specs.Population.{IsRising, HasRoot}

pub rising_weaker : (low least next : ℕ) (es : List LiveEntity) → low ≤ least → IsRising least next es → IsRising low next es
rising_weaker low least next [] l rising = omega arith
rising_weaker low least next (e ∷ es) l rising = (omega (arith, rising.0), rising.1)

pub rising_push : (least next : ℕ) (es : List LiveEntity) (e : LiveEntity) → e.id.0 ≡ next → IsRising least next es → IsRising least (next + 1) (es ++ e ∷ [])
rising_push least next [] e is rising = (omega (arith, rising), omega arith)
rising_push least next (x ∷ es) e is rising = (rising.0, rising_push (x.id.0 + 1) next es e is rising.1)

pub rising_remove : (least next : ℕ) (es : List LiveEntity) (i : ℕ) → IsRising least next es → IsRising least next (remove es i)
rising_remove least next [] zero rising = rising
rising_remove least next [] (suc i) rising = rising
rising_remove least next (e ∷ es) zero rising = rising_weaker least (e.id.0 + 1) next es (omega (arith, rising.0)) rising.1
rising_remove least next (e ∷ es) (suc i) rising = (rising.0, rising_remove (e.id.0 + 1) next es i rising.1)

-- whether an entity has this id
pub id_is : (id : Id) (e : LiveEntity) → has_id id e ≡ true → e.id.0 ≡ id.0
id_is id e h = grind (arith, nat_tests)

pub id_differs : (id : Id) (e : LiveEntity) → e.id.0 ≢ id.0 → has_id id e ≡ false
id_differs id e ne = grind (arith, nat_tests)

-- no entity from the id on has it
pub at_least : (least next : ℕ) (es : List LiveEntity) (i : ℕ) (d : LiveEntity) → i < length es → IsRising least next es → least ≤ (get_or es i d).id.0
at_least least next [] i d within rising = absurd (omega arith)
at_least least next (e ∷ es) zero d within rising = rising.0
at_least least next (e ∷ es) (suc i) d within rising =
    let later : e.id.0 + 1 ≤ (get_or es i d).id.0 = at_least (e.id.0 + 1) next es i d (omega arith) rising.1 in
    omega (arith, rising.0, later)

changed_none : (change : LiveEntity → LiveEntity) (id : Id) (least next : ℕ) (es : List LiveEntity) → id.0 < least → IsRising least next es → map (changed_at change id) es ≡ es
changed_none change id least next [] l rising = refl
changed_none change id least next (e ∷ es) l rising =
    let no_id : has_id id e ≡ false = id_differs id e (λ same. omega (arith, rising.0, same)) in
    let rest : map (changed_at change id) es ≡ es = changed_none change id (e.id.0 + 1) next es (omega (arith, rising.0)) rising.1 in
    rw (no_id, rest) refl

-- the change of the entity at a place is that of the entity with its id
pub set_changed : (change : LiveEntity → LiveEntity) (id : Id) (least next : ℕ) (es : List LiveEntity) (i : ℕ) (e : LiveEntity) → i < length es → IsRising least next es
    → e ≡ get_or es i e → has_id id e ≡ true → set es i (change e) ≡ map (changed_at change id) es
set_changed change id least next [] i e within rising is has = absurd (omega arith)
set_changed change id least next (x ∷ es) zero e within rising is has =
    let has_x : has_id id x ≡ true = ap (has_id id) (sym is) ∙ has in
    let rest : map (changed_at change id) es ≡ es = changed_none change id (x.id.0 + 1) next es (omega (arith, id_is id x has_x)) rising.1 in
    rw (has_x, rest, is) refl
set_changed change id least next (x ∷ es) (suc i) e within rising is has =
    let later : x.id.0 + 1 ≤ (get_or es i e).id.0 = at_least (x.id.0 + 1) next es i e (omega arith) rising.1 in
    let same : (get_or es i e).id.0 ≡ id.0 = ap (λ (y : LiveEntity). y.id.0) (sym is) ∙ id_is id e has in
    let no_id : has_id id x ≡ false = id_differs id x (λ early. omega (arith, later, same, early)) in
    let rest : set es i (change e) ≡ map (changed_at change id) es = set_changed change id (x.id.0 + 1) next es i e (omega arith) rising.1 is has in
    rw no_id (ap (λ (ls : List LiveEntity). x ∷ ls) rest)

-- a change of all that keeps the ids
pub rising_mapped : (f : LiveEntity → LiveEntity) (least next : ℕ) (es : List LiveEntity) → ((e : LiveEntity) → (f e).id ≡ e.id) → IsRising least next es → IsRising least next (map f es)
rising_mapped f least next [] ids rising = rising
rising_mapped f least next (e ∷ es) ids rising = let rest = rising_mapped f (e.id.0 + 1) next es ids rising.1 in rw (ids e) (rising.0, rest)

-- a change of one that keeps the ids

pub changed_id : (change : LiveEntity → LiveEntity) (id : Id) → ((e : LiveEntity) → (change e).id ≡ e.id) → (e : LiveEntity) → (changed_at change id e).id ≡ e.id
changed_id change id ids e = one (has_id id e)
  where
    one : (b : Bool) → (cond b (change e) e).id ≡ e.id
    one true = ids e
    one false = refl

pub rising_changed : (change : LiveEntity → LiveEntity) (id : Id) (least next : ℕ) (es : List LiveEntity) → ((e : LiveEntity) → (change e).id ≡ e.id)
    → IsRising least next es → IsRising least next (map (changed_at change id) es)
rising_changed change id least next es keeps rising = rising_mapped (changed_at change id) least next es (changed_id change id keeps) rising

pub root_push : (es ys : List LiveEntity) → HasRoot es → HasRoot (es ++ ys)
root_push [] ys root = absurd root
root_push (e ∷ es) ys root = root

pub root_mapped : (f : LiveEntity → LiveEntity) (es : List LiveEntity) → ((e : LiveEntity) → (f e).id ≡ e.id)
    → All (λ e. is_directory (f e).what ≡ is_directory e.what) es → HasRoot es → HasRoot (map f es)
root_mapped f [] ids directory root = root
root_mapped f (e ∷ es) ids directory root =
    (ap (λ (i : Id). i.0) (ids e) ∙ root.0, All-head (λ (x : LiveEntity). is_directory (f x).what ≡ is_directory x.what) e es directory ∙ root.1)

pub root_changed : (change : LiveEntity → LiveEntity) (id : Id) (es : List LiveEntity) → ((e : LiveEntity) → (change e).id ≡ e.id)
    → All (λ e. has_id id e ≡ true → is_directory (change e).what ≡ is_directory e.what) es → HasRoot es → HasRoot (map (changed_at change id) es)
root_changed change id es keeps directory root =
    root_mapped (changed_at change id) es (changed_id change id keeps) (λ k d l. one (get_or es k d) (has_id id (get_or es k d)) refl (directory k d l)) root
  where
    one : (e : LiveEntity) (b : Bool) → has_id id e ≡ b → (has_id id e ≡ true → is_directory (change e).what ≡ is_directory e.what) → is_directory (cond b (change e) e).what ≡ is_directory e.what
    one e true has here = here has
    one e false has here = refl

pub root_remove : (es : List LiveEntity) (i : ℕ) → 0 < i → HasRoot es → HasRoot (remove es i)
root_remove [] i later root = absurd root
root_remove (e ∷ es) zero later root = absurd (omega arith)
root_remove (e ∷ es) (suc i) later root = root

-- the first element that passes the test
pub find_first : {X : Type 0} (p : X → Bool) (xs : List X) (k : ℕ) (d : X) → k < length xs → p (get_or xs k d) ≡ true
    → ((j : ℕ) → j < k → p (get_or xs j d) ≡ false) → find p xs ≡ Some (get_or xs k d)
find_first p [] k d within hit before = absurd (omega arith)
find_first p (x ∷ xs) zero d within hit before = rw hit refl
find_first p (x ∷ xs) (suc k) d within hit before =
    let no_x : p x ≡ false = before 0 (omega arith) in
    rw no_x (find_first p xs k d (omega arith) hit (λ j l. before (suc j) (omega arith)))

keep_all : (id : Id) (least next : ℕ) (es : List LiveEntity) → id.0 < least → IsRising least next es → filter (λ (e : LiveEntity). not (has_id id e)) es ≡ es
keep_all id least next [] l rising = refl
keep_all id least next (e ∷ es) l rising =
    let no_id : has_id id e ≡ false = id_differs id e (λ same. omega (arith, rising.0, same)) in
    let rest : filter (λ (x : LiveEntity). not (has_id id x)) es ≡ es = keep_all id (e.id.0 + 1) next es (omega (arith, rising.0)) rising.1 in
    rw (no_id, rest) refl

-- without the place of an id is without the id
pub remove_filter : (id : Id) (least next : ℕ) (es : List LiveEntity) (i : ℕ) (d : LiveEntity) → i < length es → IsRising least next es → has_id id (get_or es i d) ≡ true
    → remove es i ≡ filter (λ (e : LiveEntity). not (has_id id e)) es
remove_filter id least next [] i d within rising has = absurd (omega arith)
remove_filter id least next (x ∷ es) zero d within rising has =
    let rest : filter (λ (e : LiveEntity). not (has_id id e)) es ≡ es = keep_all id (x.id.0 + 1) next es (omega (arith, id_is id x has)) rising.1 in
    rw (has, rest) refl
remove_filter id least next (x ∷ es) (suc i) d within rising has =
    let later : x.id.0 + 1 ≤ (get_or es i d).id.0 = at_least (x.id.0 + 1) next es i d (omega arith) rising.1 in
    let same : (get_or es i d).id.0 ≡ id.0 = id_is id (get_or es i d) has in
    let no_id : has_id id x ≡ false = id_differs id x (λ early. omega (arith, later, same, early)) in
    rw no_id (ap (λ (ls : List LiveEntity). x ∷ ls) (remove_filter id (x.id.0 + 1) next es i d (omega arith) rising.1 has))

pub below_next : (low high : ℕ) (ls : List LiveEntity) → IsRising low high ls → low ≤ high
below_next low high [] rising = rising
below_next low high (l ∷ ls) rising = let rest : l.id.0 + 1 ≤ high = below_next (l.id.0 + 1) high ls rising.1 in omega (arith, rising.0, rest)

-- the entity that was made last is found by its id
pub find_new : (least next : ℕ) (es : List LiveEntity) (x : LiveEntity) → IsRising least next es → x.id.0 ≡ next → find (has_id x.id) (es ++ x ∷ []) ≡ Some x
find_new least next [] x rising is =
    let hit : has_id x.id x ≡ true = eq-eqb x.id.0 x.id.0 refl in
    rw hit refl
find_new least next (e ∷ es) x rising is =
    let within : e.id.0 + 1 ≤ next = below_next (e.id.0 + 1) next es rising.1 in
    let early : e.id.0 < next = omega arith in
    let miss : has_id x.id e ≡ false = id_differs x.id e (λ same. omega (arith, same, early, is)) in
    rw miss (find_new (e.id.0 + 1) next es x rising.1 is)
