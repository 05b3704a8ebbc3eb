-- Entry names and paths, of the entities and as contracts see them.
use Rattle.std.proofs.Common.{◌≡◌, ℕ, List, [], ◌∷◌, ◌++◌, Option, Some, None, map, reverse, refl, ap, sym, ◌∙◌, Bool, true, false, cond, nat_eq, Result, Ok, Err, OnOk, is_ok, if◌then◌else◌}
use Rattle.std.specs.declared.alloc.AllocError.{AllocError}
use Rattle.std.proofs.lemmas.List.{map-append, reverse-append}
use Rattle.std.specs.Prelude.{filter, codes}
use Rattle.mf_slots.specs.Zones.{Contents}
use Rattle.std.specs.Option.{option_map_or}
use Rattle.mf_objects.specs.declared.id.Id.{Id}
use Rattle.mf_objects.specs.declared.entity.Entity.{Entity}
use Rattle.mf_objects.specs.declared.entity.EntityData.{EntityData}
use Rattle.mf_objects.specs.declared.entity.EntityData.TheVariants.{Process, Vnode, Pipe, Socket}
use Rattle.mf_objects.specs.Live.{LiveEntity, is_entry}
use Rattle.mf_objects.specs.Names.{prefix_of, own_name}
use Rattle.mf_objects.specs.Titles.{path_in, parent_of, entry_names, title_of}
use Rattle.mf_objects.proofs.Shorthands.{below}
use Rattle.mf_objects.specs.Sound.{live_entity, live_of, unlabelled}

-- the names of the entries of a directory
abbrev pub raw_names : Id → List Entity → List (List ℕ)
raw_names dir es = map (λ (e : Entity). e.name) (filter (λ (e : Entity). is_entry dir e.what) es)

pub names_live : (dir : Id) (zones : Contents) (es : List Entity) → entry_names dir (live_of zones es) ≡ raw_names dir es
names_live dir zones [] = refl
names_live dir zones (e ∷ es) = one (is_entry dir e.what) (names_live dir zones es)
  where
    one : (b : Bool) → entry_names dir (live_of zones es) ≡ raw_names dir es
        → map (λ (x : LiveEntity). x.name) (cond b (live_entity zones e ∷ filter (λ (x : LiveEntity). is_entry dir x.what) (live_of zones es)) (filter (λ (x : LiveEntity). is_entry dir x.what) (live_of zones es)))
        ≡ map (λ (x : Entity). x.name) (cond b (e ∷ filter (λ (x : Entity). is_entry dir x.what) es) (filter (λ (x : Entity). is_entry dir x.what) es))
    one true rest = ap (λ (ns : List (List ℕ)). e.name ∷ ns) rest
    one false rest = rest

-- one entity more
pub names_yes : (dir : Id) (es : List Entity) (e : Entity) → is_entry dir e.what ≡ true → raw_names dir (es ++ e ∷ []) ≡ raw_names dir es ++ e.name ∷ []
names_yes dir [] e entry = rw entry refl
names_yes dir (x ∷ es) e entry = one (is_entry dir x.what) (names_yes dir es e entry)
  where
    one : (b : Bool) → raw_names dir (es ++ e ∷ []) ≡ raw_names dir es ++ e.name ∷ []
        → map (λ (y : Entity). y.name) (cond b (x ∷ filter (λ (y : Entity). is_entry dir y.what) (es ++ e ∷ [])) (filter (λ (y : Entity). is_entry dir y.what) (es ++ e ∷ [])))
        ≡ map (λ (y : Entity). y.name) (cond b (x ∷ filter (λ (y : Entity). is_entry dir y.what) es) (filter (λ (y : Entity). is_entry dir y.what) es)) ++ e.name ∷ []
    one true rest = ap (λ (ns : List (List ℕ)). x.name ∷ ns) rest
    one false rest = rest

pub names_no : (dir : Id) (es : List Entity) (e : Entity) → is_entry dir e.what ≡ false → raw_names dir (es ++ e ∷ []) ≡ raw_names dir es
names_no dir [] e entry = rw entry refl
names_no dir (x ∷ es) e entry = one (is_entry dir x.what) (names_no dir es e entry)
  where
    one : (b : Bool) → raw_names dir (es ++ e ∷ []) ≡ raw_names dir es
        → map (λ (y : Entity). y.name) (cond b (x ∷ filter (λ (y : Entity). is_entry dir y.what) (es ++ e ∷ [])) (filter (λ (y : Entity). is_entry dir y.what) (es ++ e ∷ [])))
        ≡ map (λ (y : Entity). y.name) (cond b (x ∷ filter (λ (y : Entity). is_entry dir y.what) es) (filter (λ (y : Entity). is_entry dir y.what) es))
    one true rest = ap (λ (ns : List (List ℕ)). x.name ∷ ns) rest
    one false rest = rest

-- a path depends on no label

abbrev pub title_in : List ℕ → Option LiveEntity → List ℕ
title_in path found = option_map_or (λ e. title_of path e.name e.what) found []

below_same : (path other : Id → List ℕ) → ((id : Id) → path id ≡ other id) → (parent : Option Id) (name : List ℕ) → below path parent name ≡ below other parent name
below_same path other same None name = refl
below_same path other same (Some dir) name = ap (λ (p : List ℕ). p ++ codes "/" ++ name) (same dir)

path_seen : (zones : Contents) (es : List Entity) (id : Id) → path_in (map (live_entity zones) es) id ≡ path_in (map unlabelled es) id
unfolding path_in
path_seen zones [] id = refl
path_seen zones (e ∷ es) id =
    elim (nat_eq e.id.0 id.0)
    as (λ b. cond b (below (path_in (map (live_entity zones) es)) (parent_of e.what) e.name) (path_in (map (live_entity zones) es) id)
    ≡ cond b (below (path_in (map unlabelled es)) (parent_of e.what) e.name) (path_in (map unlabelled es) id)) [
      | true ↦ below_same _ _ (path_seen zones es) (parent_of e.what) e.name
      | false ↦ path_seen zones es id
    ]

reverse_map : (f : Entity → LiveEntity) (es : List Entity) → reverse (map f es) ≡ map f (reverse es)
reverse_map f [] = refl
reverse_map f (e ∷ es) =
    reverse-append (f e ∷ []) (map f es) ∙ ap (λ (xs : List LiveEntity). xs ++ f e ∷ []) (reverse_map f es)
    ∙ sym (ap (map f) (reverse-append (e ∷ []) es) ∙ map-append f (reverse es) (e ∷ []))

pub path_live : (zones : Contents) (es : List Entity) (id : Id) → path_in (reverse (map unlabelled es)) id ≡ path_in (reverse (live_of zones es)) id
path_live zones es id =
    ap (λ (xs : List LiveEntity). path_in xs id) (reverse_map unlabelled es)
    ∙ sym (path_seen zones (reverse es) id)
    ∙ ap (λ (xs : List LiveEntity). path_in xs id) (sym (reverse_map (live_entity zones) es))

pub path_push : (ls : List LiveEntity) (l : LiveEntity) (id : Id)
    → path_in (reverse (ls ++ l ∷ [])) id ≡ cond (nat_eq l.id.0 id.0) (below (path_in (reverse ls)) (parent_of l.what) l.name) (path_in (reverse ls) id)
unfolding path_in
path_push ls l id = ap (λ (xs : List LiveEntity). path_in xs id) (reverse-append ls (l ∷ []))

pub path_nothing : (id : Id) → path_in [] id ≡ []
unfolding path_in
path_nothing id = refl

-- a text that grew by `push_str`, where memory was found
pub pushed : (r : Result (Unit {0}) AllocError) (new old text whole : List ℕ) → new ≡ (if is_ok r then old ++ text else old) → text ≡ whole → OnOk r (new ≡ old ++ whole)
pushed (Ok u) new old text whole is same = is ∙ ap (λ (bytes : List ℕ). old ++ bytes) same
pushed (Err error) new old text whole is same = tt

-- a title is its two parts
pub title_parts : (path name : List ℕ) (what : EntityData) → prefix_of what ++ own_name path name what ≡ title_of path name what
title_parts path name (Process process) = refl
title_parts path name (Vnode vnode) = refl
title_parts path name (Pipe pipe) = refl
title_parts path name (Socket socket) = refl
