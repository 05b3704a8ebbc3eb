-- Directories that hold the same entries are walked through alike.
use Rattle.std.proofs.Common.{◌≡◌, ℕ, Bool, true, false, ◌&&◌, ◌+◌, arith, cond, List, [], ◌∷◌, length, map, Option, Some, None, option_map, Ok, refl, ap, sym, ◌∙◌}
use Rattle.std.specs.List.{AllByRecursion}
use Rattle.std.specs.Option.{option_map_or}
use Rattle.std.specs.Prelude.{count_by, filter, find}
use Rattle.std.specs.Str.{bytes_eq}
use Rattle.std.proofs.lemmas.List.Sums.{sum_by-cons}
use Rattle.mf_errno.specs.declared.errno.Errno.TheVariants.{Enotdir}
use Rattle.mf_objects.specs.declared.id.Id.{Id}
use Rattle.mf_objects.specs.Live.{Entities, LiveEntity, entry_count, file_of, id_of, is_entry, is_one_named, no_file}
use Rattle.mf_objects.specs.Titles.{entry_names}
use Rattle.mf_plan.specs.declared.lookup.Lookup.{Lookup}
use Rattle.mf_plan.specs.declared.target.Target.TheVariants.{Name}
use Rattle.mf_plan.specs.Path.{entry_of, found_at, going_on, looking_into, lookup_from, nowhere}
use Rattle.mf_plan.specs.Views.{is_dir}
use Rattle.mf_moves.specs.Alike.{IsSame}

-- What is read of the entries

abbrev Entry : Type 0
Entry = Id × List ℕ

abbrev pair : LiveEntity → Entry
pair e = (e.id, e.name)

abbrev named_in : List Entry → List ℕ → Option Id
named_in entries name = option_map (λ (e : Entry). e.0) (find (λ (e : Entry). bytes_eq e.1 name) entries)

entry_is : (dir : Id) (name : List ℕ) (live : List LiveEntity)
    → id_of (find (is_one_named (is_entry dir) name) live) ≡ named_in (map pair (filter (λ e. is_entry dir e.what) live)) name
entry_is dir name [] = refl
entry_is dir name (e ∷ es) = one (is_entry dir e.what) (entry_is dir name es)
  where
    two : (b : Bool) → id_of (find (is_one_named (is_entry dir) name) es) ≡ named_in (map pair (filter (λ e. is_entry dir e.what) es)) name
        → id_of (cond b (Some e) (find (is_one_named (is_entry dir) name) es))
        ≡ option_map (λ (x : Entry). x.0) (cond b (Some (pair e)) (find (λ (x : Entry). bytes_eq x.1 name) (map pair (filter (λ e. is_entry dir e.what) es))))
    two true is = refl
    two false is = is

    one : (b : Bool) → id_of (find (is_one_named (is_entry dir) name) es) ≡ named_in (map pair (filter (λ e. is_entry dir e.what) es)) name
        → id_of (cond (b && bytes_eq e.name name) (Some e) (find (is_one_named (is_entry dir) name) es))
        ≡ named_in (map pair (cond b (e ∷ filter (λ e. is_entry dir e.what) es) (filter (λ e. is_entry dir e.what) es))) name
    one true is = two (bytes_eq e.name name) is
    one false is = is

names_are : (es : List LiveEntity) → map (λ (e : LiveEntity). e.name) es ≡ map (λ (e : Entry). e.1) (map pair es)
names_are [] = refl
names_are (e ∷ es) = ap (λ (names : List (List ℕ)). e.name ∷ names) (names_are es)

count_is : (dir : Id) (live : List LiveEntity) → count_by (λ e. is_entry dir e.what) live ≡ length (map pair (filter (λ e. is_entry dir e.what) live))
count_is dir [] = refl
count_is dir (e ∷ es) = sum_by-cons (λ (e : LiveEntity). cond (is_entry dir e.what) 1 0) e es ∙ one (is_entry dir e.what) (count_is dir es)
  where
    one : (b : Bool) → count_by (λ e. is_entry dir e.what) es ≡ length (map pair (filter (λ e. is_entry dir e.what) es))
        → cond b 1 0 + count_by (λ e. is_entry dir e.what) es ≡ length (map pair (cond b (e ∷ filter (λ e. is_entry dir e.what) es) (filter (λ e. is_entry dir e.what) es)))
    one true is = omega (arith, is)
    one false is = omega (arith, is)

module _ (o o' : Entities) where
  pub same_entry : (id : Id) (name : List ℕ) → IsSame o o' id → entry_of o id name ≡ entry_of o' id name
  same_entry id name same = entry_is id name o.live ∙ ap (λ (entries : List Entry). named_in entries name) same.entries ∙ sym (entry_is id name o'.live)

  pub same_names : (id : Id) → IsSame o o' id → entry_names id o.live ≡ entry_names id o'.live
  same_names id same =
      names_are (filter (λ e. is_entry id e.what) o.live) ∙ ap (map (λ (e : Entry). e.1)) same.entries ∙ sym (names_are (filter (λ e. is_entry id e.what) o'.live))

  pub same_count : (id : Id) → IsSame o o' id → entry_count o id ≡ entry_count o' id
  same_count id same = count_is id o.live ∙ ap (λ (entries : List Entry). length entries) same.entries ∙ sym (count_is id o'.live)

  pub same_dir : (id : Id) → IsSame o o' id → is_dir o id ≡ is_dir o' id
  same_dir id same = ap (λ (found : Option LiveEntity). (option_map_or (λ e. file_of e.what) found no_file).dir) same.entity

  -- Walks

  -- the directory that a walk begins with is looked into
  begins : (name : List ℕ) (rest : List (List ℕ)) (dir : Id) → AllByRecursion (IsSame o o') (lookup_from o (name ∷ rest) dir).lookups → IsSame o o' dir
  unfolding lookup_from
  begins name [] dir all = all.0
  begins name (below ∷ rest) dir all = all.0

  pub same_walk : (path : List (List ℕ)) (dir id : Id) → AllByRecursion (IsSame o o') (lookup_from o path dir).lookups
      → found_at (lookup_from o path dir).target ≡ Ok id → lookup_from o' path dir ≡ lookup_from o path dir
  unfolding lookup_from
  same_walk [] dir id all found = refl
  same_walk (name ∷ []) dir id all found =
      ap (λ (entry : Option Id). let walk : Lookup = record { lookups = dir ∷ []; target = Name dir entry } in walk) (sym (same_entry dir name all.0))
  same_walk (name ∷ below ∷ rest) dir id all found =
      ap (λ (entry : Option Id). looking_into dir (going_on o' (lookup_from o' (below ∷ rest)) entry)) (sym (same_entry dir name all.0))
      ∙ by_entry (λ mid all found. same_walk (below ∷ rest) mid id all found) (entry_of o dir name) all.1 found
    where
      by_dir : ((mid : Id) → AllByRecursion (IsSame o o') (lookup_from o (below ∷ rest) mid).lookups → found_at (lookup_from o (below ∷ rest) mid).target ≡ Ok id
          → lookup_from o' (below ∷ rest) mid ≡ lookup_from o (below ∷ rest) mid) → (mid : Id) (b : Bool) → is_dir o mid ≡ b → AllByRecursion (IsSame o o') (cond b (lookup_from o (below ∷ rest) mid) (nowhere Enotdir)).lookups
          → found_at (cond b (lookup_from o (below ∷ rest) mid) (nowhere Enotdir)).target ≡ Ok id
          → looking_into dir (cond (is_dir o' mid) (lookup_from o' (below ∷ rest) mid) (nowhere Enotdir)) ≡ looking_into dir (cond b (lookup_from o (below ∷ rest) mid) (nowhere Enotdir))
      by_dir on mid true is all found =
          ap (λ (b : Bool). looking_into dir (cond b (lookup_from o' (below ∷ rest) mid) (nowhere Enotdir))) (sym (same_dir mid (begins below rest mid all)) ∙ is)
          ∙ ap (looking_into dir) (on mid all found)
      by_dir on mid false is all found = cc

      by_entry : ((mid : Id) → AllByRecursion (IsSame o o') (lookup_from o (below ∷ rest) mid).lookups → found_at (lookup_from o (below ∷ rest) mid).target ≡ Ok id
          → lookup_from o' (below ∷ rest) mid ≡ lookup_from o (below ∷ rest) mid) → (entry : Option Id) → AllByRecursion (IsSame o o') (going_on o (lookup_from o (below ∷ rest)) entry).lookups
          → found_at (going_on o (lookup_from o (below ∷ rest)) entry).target ≡ Ok id
          → looking_into dir (going_on o' (lookup_from o' (below ∷ rest)) entry) ≡ looking_into dir (going_on o (lookup_from o (below ∷ rest)) entry)
      by_entry on None all found = cc
      by_entry on (Some mid) all found = by_dir on mid (is_dir o mid) refl all found
