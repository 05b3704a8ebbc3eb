-- What is found among live entities, when one comes, when one is changed, and when one goes.
use Rattle.std.proofs.Common.{◌≡◌, ℕ, ◌<◌, ◌+◌, Bool, true, false, cond, not, List, [], ◌∷◌, ◌++◌, Some, None, map, length, refl, ap, sym, ◌∙◌, arith, option_map}
use Rattle.std.specs.Prelude.{filter, find, count_by}
use Rattle.std.specs.List.{AllByRecursion}
use Rattle.std.proofs.lemmas.List.Sums.{length-filter}
use Rattle.mf_objects.specs.declared.id.Id.{Id}
use Rattle.mf_objects.specs.Live.{LiveEntity, has_id, is_entry}
use Rattle.mf_objects.specs.Titles.{entry_names}
use Rattle.mf_objects.specs.Population.{IsRising}
use Rattle.mf_objects.proofs.Rising.{id_is, id_differs}

-- Something is appended

pub find_push_found : (p : LiveEntity → Bool) (es : List LiveEntity) (x e : LiveEntity) → find p es ≡ Some e → find p (es ++ x ∷ []) ≡ Some e
find_push_found p [] x e found = cc
find_push_found p (y ∷ es) x e found = one (p y) (find_push_found p es x e) found
  where
    one : (b : Bool) → (find p es ≡ Some e → find p (es ++ x ∷ []) ≡ Some e) → cond b (Some y) (find p es) ≡ Some e
        → cond b (Some y) (find p (es ++ x ∷ [])) ≡ Some e
    one true rest found = found
    one false rest found = rest found

-- All are changed, in a way that the test doesn't see

pub find_map : (p : LiveEntity → Bool) (f : LiveEntity → LiveEntity) (es : List LiveEntity) → ((e : LiveEntity) → p (f e) ≡ p e) → find p (map f es) ≡ option_map f (find p es)
find_map p f [] same = refl
find_map p f (e ∷ es) same = ap (λ (b : Bool). cond b (Some (f e)) (find p (map f es))) (same e) ∙ one (p e) (find_map p f es same)
  where
    one : (b : Bool) → find p (map f es) ≡ option_map f (find p es) → cond b (Some (f e)) (find p (map f es)) ≡ option_map f (cond b (Some e) (find p es))
    one true rest = refl
    one false rest = rest

-- Some go

pub find_filter_kept : (p q : LiveEntity → Bool) (es : List LiveEntity) (e : LiveEntity) → find p es ≡ Some e → q e ≡ true → find p (filter q es) ≡ Some e
find_filter_kept p q [] e found kept = cc
find_filter_kept p q (x ∷ es) e found kept = one (p x) (q x) refl refl (find_filter_kept p q es e) found
  where
    one : (here there : Bool) → p x ≡ here → q x ≡ there → (find p es ≡ Some e → q e ≡ true → find p (filter q es) ≡ Some e) → cond here (Some x) (find p es) ≡ Some e
        → find p (cond there (x ∷ filter q es) (filter q es)) ≡ Some e
    one true true hit stays rest found = rw hit found
    one true false hit goes rest found = cc
    one false true miss stays rest found = rw miss (rest found kept)
    one false false miss goes rest found = rest found kept

pub find_filter_none : (p q : LiveEntity → Bool) (es : List LiveEntity) → find p es ≡ None → find p (filter q es) ≡ None
find_filter_none p q [] none = refl
find_filter_none p q (x ∷ es) none = one (p x) (q x) refl (find_filter_none p q es) none
  where
    one : (here there : Bool) → p x ≡ here → (find p es ≡ None → find p (filter q es) ≡ None) → cond here (Some x) (find p es) ≡ None
        → find p (cond there (x ∷ filter q es) (filter q es)) ≡ None
    one true there hit rest none = cc
    one false true miss rest none = rw miss (rest none)
    one false false miss rest none = rest none

-- all that pass the first test fail the second
pub find_filter_gone : (p q : LiveEntity → Bool) (es : List LiveEntity) → AllByRecursion (λ e. p e ≡ true → q e ≡ false) es → find p (filter q es) ≡ None
find_filter_gone p q [] all = refl
find_filter_gone p q (x ∷ es) all = one (p x) (q x) refl refl (find_filter_gone p q es all.1)
  where
    one : (here there : Bool) → p x ≡ here → q x ≡ there → find p (filter q es) ≡ None → find p (cond there (x ∷ filter q es) (filter q es)) ≡ None
    one true true hit stays rest = let goes : q x ≡ false = all.0 hit in cc
    one true false hit goes rest = rest
    one false true miss stays rest = rw miss rest
    one false false miss goes rest = rest

-- What is true of all

pub all_push : (P : LiveEntity → Type 0) (es : List LiveEntity) (x : LiveEntity) → AllByRecursion P es → P x → AllByRecursion P (es ++ x ∷ [])
all_push P [] x all here = (here, tt)
all_push P (e ∷ es) x all here = (all.0, all_push P es x all.1 here)

pub all_map : (P : LiveEntity → Type 0) (f : LiveEntity → LiveEntity) (es : List LiveEntity) → ((e : LiveEntity) → P e → P (f e)) → AllByRecursion P es → AllByRecursion P (map f es)
all_map P f [] keeps all = tt
all_map P f (e ∷ es) keeps all = (keeps e all.0, all_map P f es keeps all.1)

pub all_filter : (P : LiveEntity → Type 0) (q : LiveEntity → Bool) (es : List LiveEntity) → AllByRecursion P es → AllByRecursion P (filter q es)
all_filter P q [] all = tt
all_filter P q (e ∷ es) all = one (q e) (all_filter P q es all.1)
  where
    one : (b : Bool) → AllByRecursion P (filter q es) → AllByRecursion P (cond b (e ∷ filter q es) (filter q es))
    one true rest = (all.0, rest)
    one false rest = rest

pub all_from : (P Q : LiveEntity → Type 0) (es : List LiveEntity) → ((e : LiveEntity) → P e → Q e) → AllByRecursion P es → AllByRecursion Q es
all_from P Q [] gives all = tt
all_from P Q (e ∷ es) gives all = (gives e all.0, all_from P Q es gives all.1)

-- where none is found, all fail the test
pub none_passes : (p : LiveEntity → Bool) (es : List LiveEntity) → find p es ≡ None → AllByRecursion (λ e. p e ≡ false) es
none_passes p [] none = tt
none_passes p (e ∷ es) none = one (p e) refl (none_passes p es) none
  where
    one : (b : Bool) → p e ≡ b → (find p es ≡ None → AllByRecursion (λ x. p x ≡ false) es) → cond b (Some e) (find p es) ≡ None
        → (p e ≡ false) × AllByRecursion (λ x. p x ≡ false) es
    one true hit rest none = cc
    one false miss rest none = (miss, rest none)

pub all_pass : (p : LiveEntity → Bool) (es : List LiveEntity) → AllByRecursion (λ e. p e ≡ false) es → find p es ≡ None
all_pass p [] all = refl
all_pass p (e ∷ es) all = rw all.0 (all_pass p es all.1)

-- nothing that fails the test is counted
pub none_counted : (p : LiveEntity → Bool) (es : List LiveEntity) → AllByRecursion (λ e. p e ≡ false) es → count_by p es ≡ 0
none_counted p es all = sym (length-filter p es) ∙ ap (λ (xs : List LiveEntity). length xs) (none_left p es all)
  where
    none_left : (p : LiveEntity → Bool) (es : List LiveEntity) → AllByRecursion (λ e. p e ≡ false) es → filter p es ≡ []
    none_left p [] all = refl
    none_left p (e ∷ es) all = rw all.0 (none_left p es all.1)

-- Ids

-- the id is below all
stays_whole : (id : Id) (least next : ℕ) (es : List LiveEntity) → id.0 < least → IsRising least next es → filter (λ e. not (has_id id e)) es ≡ es
stays_whole id least next [] early rising = refl
stays_whole id least next (e ∷ es) early rising =
    let miss : has_id id e ≡ false = id_differs id e (λ same. omega (arith, rising.0, same)) in
    rw miss (ap (λ (xs : List LiveEntity). e ∷ xs) (stays_whole id (e.id.0 + 1) next es (omega (arith, rising.0)) rising.1))

-- one entity has an id, and one fewer is left without it
pub one_fewer : (id : Id) (least next : ℕ) (es : List LiveEntity) (x : LiveEntity) → IsRising least next es → find (has_id id) es ≡ Some x
    → length (filter (λ e. not (has_id id e)) es) + 1 ≡ length es
one_fewer id least next [] x rising found = cc
one_fewer id least next (e ∷ es) x rising found = one (has_id id e) refl (one_fewer id (e.id.0 + 1) next es x rising.1) found
  where
    one : (b : Bool) → has_id id e ≡ b → (find (has_id id) es ≡ Some x → length (filter (λ y. not (has_id id y)) es) + 1 ≡ length es)
        → cond b (Some e) (find (has_id id) es) ≡ Some x
        → length (cond (not b) (e ∷ filter (λ y. not (has_id id y)) es) (filter (λ y. not (has_id id y)) es)) + 1 ≡ length (e ∷ es)
    one true hit rest found =
        let same : e.id.0 ≡ id.0 = id_is id e hit in
        omega (arith, ap (λ (xs : List LiveEntity). length xs) (stays_whole id (e.id.0 + 1) next es (omega (arith, same)) rising.1))
    one false miss rest found = omega (arith, rest found)

-- the entity of an id is one
pub only_one : (id : Id) (least next : ℕ) (es : List LiveEntity) (x : LiveEntity) → IsRising least next es → find (has_id id) es ≡ Some x → AllByRecursion (λ e. has_id id e ≡ true → e ≡ x) es
only_one id least next [] x rising found = tt
only_one id least next (e ∷ es) x rising found = one (has_id id e) refl (only_one id (e.id.0 + 1) next es x rising.1) found
  where
    none_later : (least : ℕ) (ls : List LiveEntity) → id.0 < least → IsRising least next ls → AllByRecursion (λ y. has_id id y ≡ true → y ≡ x) ls
    none_later least [] early rising = tt
    none_later least (y ∷ ls) early rising = (
      λ hit. let same : y.id.0 ≡ id.0 = id_is id y hit in absurd (omega (arith, same, rising.0)),
      none_later (y.id.0 + 1) ls (omega (arith, rising.0)) rising.1,
    )

    one : (b : Bool) → has_id id e ≡ b → (find (has_id id) es ≡ Some x → AllByRecursion (λ y. has_id id y ≡ true → y ≡ x) es) → cond b (Some e) (find (has_id id) es) ≡ Some x
        → (has_id id e ≡ true → e ≡ x) × AllByRecursion (λ y. has_id id y ≡ true → y ≡ x) es
    one true hit rest found = let same : e.id.0 ≡ id.0 = id_is id e hit in (λ _. cc, none_later (e.id.0 + 1) es (omega (arith, same)) rising.1)
    one false miss rest found = (λ hit. cc, rest found)

-- The names in a directory

pub names_push_other : (dir : Id) (es : List LiveEntity) (x : LiveEntity) → is_entry dir x.what ≡ false → entry_names dir (es ++ x ∷ []) ≡ entry_names dir es
names_push_other dir [] x miss = rw miss refl
names_push_other dir (e ∷ es) x miss = one (is_entry dir e.what) (names_push_other dir es x miss)
  where
    one : (b : Bool) → entry_names dir (es ++ x ∷ []) ≡ entry_names dir es
        → map (λ (y : LiveEntity). y.name) (cond b (e ∷ filter (λ y. is_entry dir y.what) (es ++ x ∷ [])) (filter (λ y. is_entry dir y.what) (es ++ x ∷ [])))
        ≡ map (λ (y : LiveEntity). y.name) (cond b (e ∷ filter (λ y. is_entry dir y.what) es) (filter (λ y. is_entry dir y.what) es))
    one true rest = ap (λ (names : List (List ℕ)). e.name ∷ names) rest
    one false rest = rest

pub names_push : (dir : Id) (es : List LiveEntity) (x : LiveEntity) → is_entry dir x.what ≡ true → entry_names dir (es ++ x ∷ []) ≡ entry_names dir es ++ x.name ∷ []
names_push dir [] x hit = rw hit refl
names_push dir (e ∷ es) x hit = one (is_entry dir e.what) (names_push dir es x hit)
  where
    one : (b : Bool) → entry_names dir (es ++ x ∷ []) ≡ entry_names dir es ++ x.name ∷ []
        → map (λ (y : LiveEntity). y.name) (cond b (e ∷ filter (λ y. is_entry dir y.what) (es ++ x ∷ [])) (filter (λ y. is_entry dir y.what) (es ++ x ∷ [])))
        ≡ map (λ (y : LiveEntity). y.name) (cond b (e ∷ filter (λ y. is_entry dir y.what) es) (filter (λ y. is_entry dir y.what) es)) ++ x.name ∷ []
    one true rest = ap (λ (names : List (List ℕ)). e.name ∷ names) rest
    one false rest = rest

pub names_map : (dir : Id) (f : LiveEntity → LiveEntity) (es : List LiveEntity) → ((e : LiveEntity) → is_entry dir (f e).what ≡ is_entry dir e.what) → ((e : LiveEntity) → (f e).name ≡ e.name)
    → entry_names dir (map f es) ≡ entry_names dir es
names_map dir f [] entries named = refl
names_map dir f (e ∷ es) entries named =
    ap (λ (b : Bool). map (λ (y : LiveEntity). y.name) (cond b (f e ∷ filter (λ y. is_entry dir y.what) (map f es)) (filter (λ y. is_entry dir y.what) (map f es)))) (entries e)
    ∙ one (is_entry dir e.what) (names_map dir f es entries named)
  where
    one : (b : Bool) → entry_names dir (map f es) ≡ entry_names dir es
        → map (λ (y : LiveEntity). y.name) (cond b (f e ∷ filter (λ y. is_entry dir y.what) (map f es)) (filter (λ y. is_entry dir y.what) (map f es)))
        ≡ map (λ (y : LiveEntity). y.name) (cond b (e ∷ filter (λ y. is_entry dir y.what) es) (filter (λ y. is_entry dir y.what) es))
    one true rest = ap (λ (name : List ℕ). name ∷ entry_names dir (map f es)) (named e) ∙ ap (λ (names : List (List ℕ)). e.name ∷ names) rest
    one false rest = rest

-- those that go are known by their names
pub names_filter : (dir : Id) (q : LiveEntity → Bool) (r : List ℕ → Bool) (es : List LiveEntity) → AllByRecursion (λ e. is_entry dir e.what ≡ true → q e ≡ r e.name) es
    → entry_names dir (filter q es) ≡ filter r (entry_names dir es)
names_filter dir q r [] all = refl
names_filter dir q r (e ∷ es) all = one (is_entry dir e.what) (q e) refl refl (names_filter dir q r es all.1)
  where
    one : (here kept : Bool) → is_entry dir e.what ≡ here → q e ≡ kept → entry_names dir (filter q es) ≡ filter r (entry_names dir es)
        → entry_names dir (cond kept (e ∷ filter q es) (filter q es))
        ≡ filter r (map (λ (y : LiveEntity). y.name) (cond here (e ∷ filter (λ y. is_entry dir y.what) es) (filter (λ y. is_entry dir y.what) es)))
    one true true hit stays rest =
        let named : r e.name ≡ true = sym (all.0 hit) ∙ stays in
        rw (hit, named) (ap (λ (names : List (List ℕ)). e.name ∷ names) rest)
    one true false hit goes rest =
        let named : r e.name ≡ false = sym (all.0 hit) ∙ goes in
        rw named rest
    one false true miss stays rest = rw miss rest
    one false false miss goes rest = rest

-- none of the directory goes
pub names_stay : (dir : Id) (q : LiveEntity → Bool) (es : List LiveEntity) → AllByRecursion (λ e. is_entry dir e.what ≡ true → q e ≡ true) es
    → entry_names dir (filter q es) ≡ entry_names dir es
names_stay dir q [] all = refl
names_stay dir q (e ∷ es) all = one (is_entry dir e.what) (q e) refl refl (names_stay dir q es all.1)
  where
    one : (here kept : Bool) → is_entry dir e.what ≡ here → q e ≡ kept → entry_names dir (filter q es) ≡ entry_names dir es
        → entry_names dir (cond kept (e ∷ filter q es) (filter q es))
        ≡ map (λ (y : LiveEntity). y.name) (cond here (e ∷ filter (λ y. is_entry dir y.what) es) (filter (λ y. is_entry dir y.what) es))
    one true true hit stays rest = rw hit (ap (λ (names : List (List ℕ)). e.name ∷ names) rest)
    one true false hit goes rest = let stays : q e ≡ true = all.0 hit in cc
    one false true miss stays rest = rw miss rest
    one false false miss goes rest = rest
