-- The index of names, through each change of the entities, and what a look-up in it finds.
use Rattle.std.proofs.Common.{◌≡◌, ◌≢◌, ℕ, ◌<◌, ◌-◌, List, [], ◌∷◌, ◌++◌, length, get_or, set, take, map, remove, replicate, refl, ap, sym, ◌∙◌, arith, zero, suc, nat_eq, eq-eqb, Bool, true, false, not, cond, inl, inr}
use Rattle.std.specs.Prelude.{All, filter}
use Rattle.std.proofs.Math.Nat.{mod-lt}
use Rattle.std.proofs.Math.Seq.{take-append_seam}
use Rattle.std.proofs.lemmas.Bool.{cases_eq}
use Rattle.std.proofs.lemmas.Bool.Decides.{nat_tests}
use Rattle.std.proofs.lemmas.List.{get_or-set_same, get_or-set_other, get_or-replicate, length-set, length-replicate, length-append, set-set, set-get_or}
use Rattle.std.proofs.lemmas.List.Elements.{All-head, All-tail}
use Rattle.mf_objects.specs.declared.id.Id.{Id}
use Rattle.mf_objects.specs.declared.index.Group.{Group}
use Rattle.mf_objects.specs.declared.entity.Entity.{Entity}
use Rattle.mf_objects.specs.Sound.{IsById}
use Rattle.mf_objects.specs.Index.{group_of, bucket_of, bucket, IsIndex, with_id, without_id, without_last}

-- the bucket of an entity's name
abbrev pub home : Entity → ℕ
home e = bucket_of (group_of e.what) e.name

abbrev other_id : Id → Id → Bool
other_id id other = not (nat_eq other.0 id.0)

differs : (a b : ℕ) → a ≢ b → nat_eq a b ≡ false
differs a b ne = grind (arith, nat_tests)

pub bucket_within : (group : Group) (name : List ℕ) → bucket_of group name < 1024
unfolding bucket_of
bucket_within group name = mod-lt _ (omega arith)

-- Nothing yet

pub index_none : IsIndex (replicate 1024 []) []
index_none = record { count = length-replicate {A = List Id} 1024 []; each = λ at l. get_or-replicate {A = List Id} 1024 at [] [] l }

-- One entity more

bucket_push : (at : ℕ) (es : List Entity) (e : Entity) (b : Bool) → nat_eq (home e) at ≡ b → bucket at (es ++ e ∷ []) ≡ bucket at es ++ cond b (e.id ∷ []) []
bucket_push at [] e b is = one b is
  where
    one : (b : Bool) → nat_eq (home e) at ≡ b → bucket at (e ∷ []) ≡ cond b (e.id ∷ []) []
    one true is = rw is refl
    one false is = rw is refl
bucket_push at (x ∷ es) e b is = one (nat_eq (home x) at) (bucket_push at es e b is)
  where
    ids : List Entity → List Id
    ids xs = map (λ (y : Entity). y.id) xs

    kept : List Entity → List Entity
    kept xs = filter (λ (y : Entity). nat_eq (home y) at) xs

    one : (c : Bool) → ids (kept (es ++ e ∷ [])) ≡ ids (kept es) ++ cond b (e.id ∷ []) []
        → ids (cond c (x ∷ kept (es ++ e ∷ [])) (kept (es ++ e ∷ []))) ≡ ids (cond c (x ∷ kept es) (kept es)) ++ cond b (e.id ∷ []) []
    one true rest = ap (λ (is : List Id). x.id ∷ is) rest
    one false rest = rest

append_none : (ids : List Id) → ids ++ [] ≡ ids
append_none [] = refl
append_none (id ∷ ids) = ap (λ (is : List Id). id ∷ is) (append_none ids)

pub index_push : (index : List (List Id)) (es : List Entity) (e : Entity) → IsIndex index es → IsIndex (with_id (home e) e.id index) (es ++ e ∷ [])
index_push index es e is =
    record {
      count = length-set index (home e) (get_or index (home e) [] ++ e.id ∷ []) ∙ is.count;
      each = λ at l. elim (cases_eq at (home e)) [
        | inl here ↦
            ap (λ (n : ℕ). get_or (with_id (home e) e.id index) n []) here
            ∙ get_or-set_same index (home e) (get_or index (home e) [] ++ e.id ∷ []) [] (omega (arith, is.count, bucket_within (group_of e.what) e.name))
            ∙ ap (λ (ids : List Id). ids ++ e.id ∷ []) (is.each (home e) (bucket_within (group_of e.what) e.name))
            ∙ sym (bucket_push (home e) es e true (eq-eqb (home e) (home e) refl))
            ∙ ap (λ (n : ℕ). bucket n (es ++ e ∷ [])) (sym here)
        | inr apart ↦
            get_or-set_other index (home e) at (get_or index (home e) [] ++ e.id ∷ []) [] apart
            ∙ is.each at l
            ∙ sym (append_none (bucket at es))
            ∙ sym (bucket_push at es e false (differs (home e) at (λ same. apart (sym same))))
      ];
    }

-- the same, where the code tells the group, the name and the lists
pub index_added : (index index' : List (List Id)) (es es' : List Entity) (e : Entity) (group : Group) (name : List ℕ) → group ≡ group_of e.what → name ≡ e.name
    → index' ≡ with_id (bucket_of group name) e.id index → es' ≡ es ++ e ∷ [] → IsIndex index es → IsIndex index' es'
index_added index index' es es' e group name is_group is_name is_index is_list is =
    let at : bucket_of group name ≡ home e = ap (bucket_of group) is_name ∙ ap (λ (g : Group). bucket_of g e.name) is_group in
    let same : index' ≡ with_id (home e) e.id index = is_index ∙ ap (λ (n : ℕ). with_id n e.id index) at in
    rw (same, is_list) (index_push index es e is)

-- An id goes

all_other : (id : Id) (at : ℕ) (es : List Entity) → All (λ (e : Entity). e.id.0 ≢ id.0) es → filter (other_id id) (bucket at es) ≡ bucket at es
all_other id at [] apart = refl
all_other id at (e ∷ es) apart =
    one (nat_eq (home e) at) (all_other id at es (All-tail P e es apart))
  where
    P : Entity → Type 0
    P x = x.id.0 ≢ id.0

    ids : List Entity → List Id
    ids xs = map (λ (y : Entity). y.id) xs

    kept : List Entity → List Entity
    kept xs = filter (λ (y : Entity). nat_eq (home y) at) xs

    other : nat_eq e.id.0 id.0 ≡ false
    other = differs e.id.0 id.0 (All-head P e es apart)

    one : (c : Bool) → filter (other_id id) (ids (kept es)) ≡ ids (kept es) → filter (other_id id) (ids (cond c (e ∷ kept es) (kept es))) ≡ ids (cond c (e ∷ kept es) (kept es))
    one true rest = rw other (ap (λ (is : List Id). e.id ∷ is) rest)
    one false rest = rest

by_id_tail : (e : Entity) (es : List Entity) → IsById (e ∷ es) → IsById es
by_id_tail e es by_id i j d before within = by_id (suc i) (suc j) d (omega (arith, before)) (omega (arith, within))

by_id_head : (e : Entity) (es : List Entity) → IsById (e ∷ es) → All (λ (x : Entity). e.id.0 < x.id.0) es
by_id_head e es by_id k d l = by_id zero (suc k) d (omega arith) (omega (arith, l))

bucket_remove : (at : ℕ) (es : List Entity) (i : ℕ) (d : Entity) → i < length es → IsById es → home (get_or es i d) ≡ at
    → filter (other_id (get_or es i d).id) (bucket at es) ≡ bucket at (remove es i)
bucket_remove at [] i d within by_id here = absurd (omega arith)
bucket_remove at (e ∷ es) zero d within by_id here =
    let falls_here : nat_eq (home e) at ≡ true = eq-eqb (home e) at here in
    let own : nat_eq e.id.0 e.id.0 ≡ true = eq-eqb e.id.0 e.id.0 refl in
    let later : All (λ (x : Entity). e.id.0 < x.id.0) es = by_id_head e es by_id in
    rw (falls_here, own) (all_other e.id at es (λ k d l same. omega (arith, later k d l, same)))
bucket_remove at (e ∷ es) (suc i) d within by_id here =
    one (nat_eq (home e) at) (bucket_remove at es i d (omega arith) (by_id_tail e es by_id) here)
  where
    gone : Id
    gone = (get_or es i d).id

    ids : List Entity → List Id
    ids xs = map (λ (y : Entity). y.id) xs

    kept : List Entity → List Entity
    kept xs = filter (λ (y : Entity). nat_eq (home y) at) xs

    other : nat_eq e.id.0 gone.0 ≡ false
    other = let before : e.id.0 < gone.0 = by_id_head e es by_id i d (omega arith) in differs e.id.0 gone.0 (λ same. omega (arith, before, same))

    one : (c : Bool) → filter (other_id gone) (ids (kept es)) ≡ ids (kept (remove es i))
        → filter (other_id gone) (ids (cond c (e ∷ kept es) (kept es))) ≡ ids (cond c (e ∷ kept (remove es i)) (kept (remove es i)))
    one true rest = rw other (ap (λ (is : List Id). e.id ∷ is) rest)
    one false rest = rest

bucket_without : (at : ℕ) (es : List Entity) (i : ℕ) (d : Entity) → i < length es → home (get_or es i d) ≢ at → bucket at es ≡ bucket at (remove es i)
bucket_without at [] i d within apart = absurd (omega arith)
bucket_without at (e ∷ es) zero d within apart = rw (differs (home e) at apart) refl
bucket_without at (e ∷ es) (suc i) d within apart = one (nat_eq (home e) at) (bucket_without at es i d (omega arith) apart)
  where
    ids : List Entity → List Id
    ids xs = map (λ (y : Entity). y.id) xs

    kept : List Entity → List Entity
    kept xs = filter (λ (y : Entity). nat_eq (home y) at) xs

    one : (c : Bool) → ids (kept es) ≡ ids (kept (remove es i)) → ids (cond c (e ∷ kept es) (kept es)) ≡ ids (cond c (e ∷ kept (remove es i)) (kept (remove es i)))
    one true rest = ap (λ (is : List Id). e.id ∷ is) rest
    one false rest = rest

-- one entity less
pub index_remove : (index : List (List Id)) (es : List Entity) (i : ℕ) (e : Entity) → i < length es → e ≡ get_or es i e → IsById es → IsIndex index es
    → IsIndex (without_id (home e) e.id index) (remove es i)
index_remove index es i e within place by_id is =
    record {
      count = length-set index (home e) (filter (other_id e.id) (get_or index (home e) [])) ∙ is.count;
      each = λ at l. elim (cases_eq at (home e)) [
        | inl here ↦
            ap (λ (n : ℕ). get_or (without_id (home e) e.id index) n []) here
            ∙ get_or-set_same index (home e) (filter (other_id e.id) (get_or index (home e) [])) [] (omega (arith, is.count, bucket_within (group_of e.what) e.name))
            ∙ ap (filter (other_id e.id)) (is.each (home e) (bucket_within (group_of e.what) e.name))
            ∙ ap (λ (x : Entity). filter (other_id x.id) (bucket (home e) es)) place
            ∙ bucket_remove (home e) es i e within by_id (ap home (sym place))
            ∙ ap (λ (n : ℕ). bucket n (remove es i)) (sym here)
        | inr apart ↦
            get_or-set_other index (home e) at (filter (other_id e.id) (get_or index (home e) [])) [] apart
            ∙ is.each at l
            ∙ bucket_without at es i e within (λ same. apart (sym same ∙ ap home (sym place)))
      ];
    }

-- the same, where the code tells the group, the name and the lists
pub index_removed : (index index' : List (List Id)) (es es' : List Entity) (i : ℕ) (e : Entity) (group : Group) (name : List ℕ) → group ≡ group_of e.what → name ≡ e.name
    → index' ≡ without_id (bucket_of group name) e.id index → es' ≡ remove es i → i < length es → e ≡ get_or es i e → IsById es → IsIndex index es → IsIndex index' es'
index_removed index index' es es' i e group name is_group is_name is_index is_list within place by_id is =
    let at : bucket_of group name ≡ home e = ap (bucket_of group) is_name ∙ ap (λ (g : Group). bucket_of g e.name) is_group in
    let same : index' ≡ without_id (home e) e.id index = is_index ∙ ap (λ (n : ℕ). without_id n e.id index) at in
    rw (same, is_list) (index_remove index es i e within place by_id is)

-- an id that was put in and taken back
pub index_undone : (index : List (List Id)) (at : ℕ) (id : Id) → at < length index → without_last at (with_id at id index) ≡ index
index_undone index at id within =
    let old : List Id = get_or index at [] in
    let put : List (List Id) = set index at (old ++ id ∷ []) in
    let here : get_or put at [] ≡ old ++ id ∷ [] = get_or-set_same index at (old ++ id ∷ []) [] within in
    ap (λ (ids : List Id). set put at (take (length ids - 1) ids)) here
    ∙ ap (set put at) (all_but_last old id)
    ∙ set-set index at (old ++ id ∷ []) old
    ∙ set-get_or index at []
  where
    all_but_last : (ids : List Id) (id : Id) → take (length (ids ++ id ∷ []) - 1) (ids ++ id ∷ []) ≡ ids
    all_but_last ids id = ap (λ (n : ℕ). take n (ids ++ id ∷ [])) (let n : length (ids ++ id ∷ []) - 1 ≡ length ids = omega (arith, length-append ids (id ∷ [])) in n) ∙ take-append_seam ids (id ∷ [])

-- One entity changed, which keeps its id, its group and its name

bucket_set : (at : ℕ) (es : List Entity) (i : ℕ) (e e' : Entity) → e ≡ get_or es i e → e'.id ≡ e.id → home e' ≡ home e → bucket at (set es i e') ≡ bucket at es
bucket_set at [] i e e' place id kept = refl
bucket_set at (x ∷ es) zero e e' place id stays =
    let same : home e' ≡ home x = stays ∙ ap home place in
    let own : e'.id ≡ x.id = id ∙ ap (λ (y : Entity). y.id) place in
    rw same (one (nat_eq (home x) at) own)
  where
    ids : List Entity → List Id
    ids xs = map (λ (y : Entity). y.id) xs

    kept : List Entity → List Entity
    kept xs = filter (λ (y : Entity). nat_eq (home y) at) xs

    one : (c : Bool) → e'.id ≡ x.id → ids (cond c (e' ∷ kept es) (kept es)) ≡ ids (cond c (x ∷ kept es) (kept es))
    one true own = ap (λ (i : Id). i ∷ ids (kept es)) own
    one false own = refl
bucket_set at (x ∷ es) (suc i) e e' place id stays = one (nat_eq (home x) at) (bucket_set at es i e e' place id stays)
  where
    ids : List Entity → List Id
    ids xs = map (λ (y : Entity). y.id) xs

    kept : List Entity → List Entity
    kept xs = filter (λ (y : Entity). nat_eq (home y) at) xs

    one : (c : Bool) → ids (kept (set es i e')) ≡ ids (kept es) → ids (cond c (x ∷ kept (set es i e')) (kept (set es i e'))) ≡ ids (cond c (x ∷ kept es) (kept es))
    one true rest = ap (λ (is : List Id). x.id ∷ is) rest
    one false rest = rest

pub index_set : (index : List (List Id)) (es : List Entity) (i : ℕ) (e e' : Entity) → e ≡ get_or es i e → e'.id ≡ e.id → e'.name ≡ e.name → group_of e'.what ≡ group_of e.what
    → IsIndex index es → IsIndex index (set es i e')
index_set index es i e e' place id name group is =
    let stays : home e' ≡ home e = ap (bucket_of (group_of e'.what)) name ∙ ap (λ (g : Group). bucket_of g e.name) group in
    record { count = is.count; each = λ at l. is.each at l ∙ sym (bucket_set at es i e e' place id stays) }

-- Entities changed, which keep their ids, their groups and their names

bucket_mapped : (f : Entity → Entity) (at : ℕ) (es : List Entity) → ((e : Entity) → (f e).id ≡ e.id) → ((e : Entity) → home (f e) ≡ home e) → bucket at (map f es) ≡ bucket at es
bucket_mapped f at [] ids stay = refl
bucket_mapped f at (e ∷ es) ids stay = rw (stay e) (one (nat_eq (home e) at) (bucket_mapped f at es ids stay))
  where
    all : List Entity → List Id
    all xs = map (λ (y : Entity). y.id) xs

    kept : List Entity → List Entity
    kept xs = filter (λ (y : Entity). nat_eq (home y) at) xs

    one : (c : Bool) → all (kept (map f es)) ≡ all (kept es) → all (cond c (f e ∷ kept (map f es)) (kept (map f es))) ≡ all (cond c (e ∷ kept es) (kept es))
    one true rest = ap (λ (id : Id). id ∷ all (kept (map f es))) (ids e) ∙ ap (λ (is : List Id). e.id ∷ is) rest
    one false rest = rest

pub index_mapped : (f : Entity → Entity) (index : List (List Id)) (es : List Entity) → ((e : Entity) → (f e).id ≡ e.id) → ((e : Entity) → (f e).name ≡ e.name)
    → ((e : Entity) → group_of (f e).what ≡ group_of e.what) → IsIndex index es → IsIndex index (map f es)
index_mapped f index es ids names groups is =
    let stay : (e : Entity) → home (f e) ≡ home e =
    λ e. ap (bucket_of (group_of (f e).what)) (names e) ∙ ap (λ (g : Group). bucket_of g e.name) (groups e) in
    record { count = is.count; each = λ at l. is.each at l ∙ sym (bucket_mapped f at es ids stay) }
