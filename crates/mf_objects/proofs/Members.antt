-- What a look-up by name finds in the index.
use Rattle.std.proofs.Common.{◌≡◌, ◌≢◌, ℕ, ◌≤◌, ◌&&◌, List, [], ◌∷◌, Option, Some, None, length, get_or, map, refl, ap, sym, ◌∙◌, arith, nat_eq, nat_lt, eq-eqb, Bool, true, false, cond, position, option_map}
use Rattle.std.specs.Prelude.{All, find, filter}
use Rattle.std.specs.Str.{bytes_eq}
use Rattle.std.specs.List.{position_or_len}
use Rattle.std.proofs.lemmas.Bool.{false≢true, eqb-true}
use Rattle.std.proofs.lemmas.Bool.Decides.{nat_tests}
use Rattle.std.proofs.lemmas.Slice.Eq.{bytes_eq-Decides}
use Rattle.std.proofs.lemmas.List.Elements.{All-head, All-tail}
use Rattle.std.proofs.lemmas.List.Quantifiers.{position-Some}
use Rattle.std.proofs.lemmas.List.Sums.{fails_before_first}
use Rattle.mf_objects.specs.declared.id.Id.{Id}
use Rattle.mf_objects.specs.declared.index.Group.{Group}
use Rattle.mf_objects.specs.declared.index.Group.TheVariants.{Processes, Pipes, Sockets, Entries}
use Rattle.mf_objects.specs.declared.entity.Entity.{Entity}
use Rattle.mf_objects.specs.declared.entity.EntityData.{EntityData}
use Rattle.mf_objects.specs.declared.entity.EntityData.TheVariants.{Process, Vnode, Pipe, Socket}
use Rattle.mf_objects.specs.Lives.{is_held_by}
use Rattle.mf_objects.specs.Population.{is_entry_beside}
use Rattle.mf_objects.specs.Sound.{IsById}
use Rattle.mf_objects.specs.Index.{group_of, is_in, bucket_of, bucket, is_named_at, found_passes}
use Rattle.mf_objects.proofs.Rising.{find_first}
use Rattle.mf_objects.proofs.Belonging.{same_id}
use Rattle.mf_objects.proofs.Indexed.{home}

-- Found at a place, or nowhere

pub found_at : (p : Entity → Bool) (es : List Entity) (i : ℕ) (e : Entity) → position p es ≡ Some i → e ≡ get_or es i e → find p es ≡ Some e
found_at p es i e at place =
    let first = position-Some p es i e at in
    find_first p es i e first.0 first.1 first.2 ∙ ap (λ (x : Entity). Some x) (sym place)

pub find_none : {X : Type 0} (p : X → Bool) (xs : List X) → All (λ (x : X). p x ≡ false) xs → find p xs ≡ None
find_none p [] fails = refl
find_none {X} p (x ∷ xs) fails =
    let P : X → Type 0 = λ y. p y ≡ false in
    rw (All-head P x xs fails) (find_none p xs (All-tail P x xs fails))

pub found_nowhere : (p : Entity → Bool) (es : List Entity) → position p es ≡ None → find p es ≡ None
found_nowhere p es nowhere = one (nat_lt (position_or_len p es) (length es)) refl nowhere
  where
    one : (b : Bool) → nat_lt (position_or_len p es) (length es) ≡ b → cond b (Some (position_or_len p es)) None ≡ None → find p es ≡ None
    one true within some = cc
    one false beyond none =
        let past : length es ≤ position_or_len p es = grind (arith, nat_tests) in
        find_none p es (λ k d l. fails_before_first p es k d (omega arith))

-- its id finds an entity
own_id : (es : List Entity) → IsById es → All (λ (e : Entity). find (λ (x : Entity). nat_eq x.id.0 e.id.0) es ≡ Some e) es
own_id es by_id k d l =
    let e : Entity = get_or es k d in
    find_first (λ (x : Entity). nat_eq x.id.0 e.id.0) es k d l (eq-eqb e.id.0 e.id.0 refl)
    (λ j before. differs (get_or es j d).id.0 e.id.0 (λ same. omega (arith, by_id j k d before l, same)))
  where
    differs : (a b : ℕ) → a ≢ b → nat_eq a b ≡ false
    differs a b ne = grind (arith, nat_tests)

-- what belongs to a group is of that group
in_group : (group : Group) (w : EntityData) → is_in group w ≡ true → group_of w ≡ group
in_group Processes (Process process) is = refl
in_group Processes (Vnode vnode) is = absurd (false≢true is)
in_group Processes (Pipe pipe) is = absurd (false≢true is)
in_group Processes (Socket socket) is = absurd (false≢true is)
in_group Pipes (Process process) is = absurd (false≢true is)
in_group Pipes (Vnode vnode) is = absurd (false≢true is)
in_group Pipes (Pipe pipe) is = refl
in_group Pipes (Socket socket) is = absurd (false≢true is)
in_group Sockets (Process process) is = absurd (false≢true is)
in_group Sockets (Vnode vnode) is = absurd (false≢true is)
in_group Sockets (Pipe pipe) is = absurd (false≢true is)
in_group Sockets (Socket socket) is = refl
in_group (Entries parent) w is = by_parent parent w is
  where
    by_other : (dir : Id) (other : Option Id) → is_held_by dir other ≡ true → other ≡ Some dir
    by_other dir None is = absurd (false≢true is)
    by_other dir (Some d) is = ap (λ (i : Id). Some i) (same_id d dir (eqb-true d.0 dir.0 is))

    by_parent : (parent : Option Id) (w : EntityData) → is_entry_beside parent w ≡ true → group_of w ≡ Entries parent
    by_parent None w is = absurd (false≢true is)
    by_parent (Some dir) (Process process) is = absurd (false≢true is)
    by_parent (Some dir) (Vnode vnode) is = ap (λ (p : Option Id). Entries p) (by_other dir vnode.parent is)
    by_parent (Some dir) (Pipe pipe) is = absurd (false≢true is)
    by_parent (Some dir) (Socket socket) is = absurd (false≢true is)

module _ (es : List Entity) (group : Group) (name : List ℕ) where
  abbrev passes : Entity → Bool
  passes e = is_in group e.what && bytes_eq e.name name

  abbrev falls : Entity → Bool
  falls e = nat_eq (home e) (bucket_of group name)

  both : (a b : Bool) → a && b ≡ true → (a ≡ true) × (b ≡ true)
  both true true h = (refl, refl)
  both true false h = absurd (false≢true h)
  both false b h = absurd (false≢true h)

  -- a member lies in the bucket of its group and name
  passing_falls : (e : Entity) → passes e ≡ true → falls e ≡ true
  passing_falls e h =
      let parts = both (is_in group e.what) (bytes_eq e.name name) h in
      let same : home e ≡ bucket_of group name =
      ap (λ (g : Group). bucket_of g e.name) (in_group group e.what parts.0) ∙ ap (bucket_of group) ((bytes_eq-Decides e.name name).0 parts.1) in
      eq-eqb (home e) (bucket_of group name) same

  walk : (ts : List Entity) → All (λ (e : Entity). find (λ (x : Entity). nat_eq x.id.0 e.id.0) es ≡ Some e) ts
      → find (is_named_at es group name) (map (λ (e : Entity). e.id) (filter (λ (e : Entity). falls e) ts)) ≡ option_map (λ (e : Entity). e.id) (find (λ (e : Entity). passes e) ts)
  walk [] own = refl
  walk (e ∷ ts) own =
      let P : Entity → Type 0 = λ y. find (λ (x : Entity). nat_eq x.id.0 y.id.0) es ≡ Some y in
      let here : is_named_at es group name e.id ≡ passes e = ap (found_passes (λ (x : Entity). passes x)) (All-head P e ts own) in
      one (falls e) (passes e) refl refl here (walk ts (All-tail P e ts own))
    where
      rest : List Id
      rest = map (λ (x : Entity). x.id) (filter (λ (x : Entity). falls x) ts)

      one : (b c : Bool) → falls e ≡ b → passes e ≡ c → is_named_at es group name e.id ≡ passes e
          → find (is_named_at es group name) rest ≡ option_map (λ (x : Entity). x.id) (find (λ (x : Entity). passes x) ts)
          → find (is_named_at es group name) (map (λ (x : Entity). x.id) (cond b (e ∷ filter (λ (x : Entity). falls x) ts) (filter (λ (x : Entity). falls x) ts)))
          ≡ option_map (λ (x : Entity). x.id) (cond c (Some e) (find (λ (x : Entity). passes x) ts))
      one true true in_bucket member here later = let hit : is_named_at es group name e.id ≡ true = here ∙ member in rw hit refl
      one true false in_bucket member here later = let miss : is_named_at es group name e.id ≡ false = here ∙ member in rw miss later
      one false true in_bucket member here later = absurd (false≢true (sym in_bucket ∙ passing_falls e member))
      one false false in_bucket member here later = later

  -- the first of a bucket that is a member is the first of all
  pub member_found : IsById es → find (is_named_at es group name) (bucket (bucket_of group name) es) ≡ option_map (λ (e : Entity). e.id) (find (λ (e : Entity). is_in group e.what && bytes_eq e.name name) es)
  member_found by_id = walk es (own_id es by_id)
