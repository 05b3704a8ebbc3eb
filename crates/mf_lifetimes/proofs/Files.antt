-- The files of a script are made, each in its directory.
use Rattle.std.proofs.Common.{◌≡◌, ◌≢◌, ℕ, ◌==◌, ◌<◌, ◌≤◌, ◌+◌, suc, nat_eq, Bool, true, false, cond, ◌&&◌, ◌||◌, List, [], ◌∷◌, ◌++◌, length, Option, Some, None, refl, ap, sym, ◌∙◌, subst, arith, ◌⊎◌, inl, inr, eq-eqb, get_or}
use Rattle.std.specs.Prelude.{find, fold}
use Rattle.std.specs.Str.{bytes_eq}
use Rattle.std.specs.List.{AllByRecursion, list_any}
use Rattle.std.proofs.lemmas.Bool.Decides.{nat_tests}
use Rattle.std.proofs.lemmas.Slice.Eq.{bytes_eq-Decides}
use Rattle.std.proofs.lemmas.List.{length-append}
use Rattle.std.specs.Cmp.Lexicographic.{pointwise}
use Rattle.mf_policy.specs.declared.labels.Origin.TheVariants.{Boot}
use Rattle.mf_policy.specs.NewLabels.{new_label}
use Rattle.mf_policy.specs.Registration.{Entry}
use Rattle.mf_objects.specs.declared.id.Id.{Id}
use Rattle.mf_objects.specs.declared.entity.EntityData.{EntityData}
use Rattle.mf_objects.specs.declared.entity.EntityData.TheVariants.{Process, Vnode, Pipe, Socket}
use Rattle.mf_objects.specs.Live.{LiveEntity, Entities, id_of, has_id, is_process, is_one_named, is_entry, live_at, file_of, no_file}
use Rattle.mf_objects.proofs.Shorthands.{reading}
use Rattle.mf_objects.specs.Changes.{made, with_entity, new_vnode}
use Rattle.mf_objects.specs.Population.{IsRising}
use Rattle.mf_objects.proofs.Rising.{rising_push, below_next}
use Rattle.mf_calls.specs.declared.script.FileLine.{FileLine}
use Rattle.mf_calls.specs.Paths.{directory_of, is_directory_at, has_directory}
use Rattle.mf_plan.specs.declared.target.Target.TheVariants.{Name}
use Rattle.mf_plan.specs.Path.{root, entry_of, last_name, lookup_along}
use Rattle.mf_plan.specs.Views.{is_dir}
use Rattle.mf_core.specs.Opening.{with_file_at, with_file}
use Rattle.mf_item.specs.declared.view.Kind.TheVariants as kinds
use Rattle.mf_objects.proofs.Finding.{find_push_hit, find_beyond}
use Rattle.mf_lifetimes.proofs.Leading.{directory_and_last, same_path-is, Leads, leads_on, walk_leads, leads_kept, leads_given, Tells, StandsIn, IsFileAt, found_path, leads_path, no_process}

-- Lists

pub all_push : {X : Type 0} (P : X → Type 0) (xs : List X) (x : X) → AllByRecursion P xs → P x → AllByRecursion P (xs ++ x ∷ [])
all_push P [] x all here = (here, tt)
all_push P (y ∷ xs) x all here = (all.0, all_push P xs x all.1 here)

pub all_from : {X : Type 0} (P Q : X → Type 0) (xs : List X) → ((x : X) → P x → Q x) → AllByRecursion P xs → AllByRecursion Q xs
all_from P Q [] gives all = tt
all_from P Q (x ∷ xs) gives all = (gives x all.0, all_from P Q xs gives all.1)

pub all_both : {X : Type 0} (P Q : X → Type 0) (xs : List X) → AllByRecursion P xs → AllByRecursion Q xs → AllByRecursion (λ x. P x × Q x) xs
all_both P Q [] p q = tt
all_both P Q (x ∷ xs) p q = ((p.0, q.0), all_both P Q xs p.1 q.1)

pub by_place : {X : Type 0} (P : X → Type 0) (xs : List X) → ((k : ℕ) (d : X) → k < length xs → P (get_or xs k d)) → AllByRecursion P xs
by_place P [] all = tt
by_place P (x ∷ xs) all = (all 0 x (omega arith), by_place P xs (λ k d within. all (suc k) d (omega arith)))

any_push : {X : Type 0} (p : X → Bool) (xs : List X) (x : X) → list_any p (xs ++ x ∷ []) ≡ true → (list_any p xs ≡ true) ⊎ (p x ≡ true)
any_push p [] x some = one (p x) some
  where
    one : (b : Bool) → (b || false) ≡ true → (list_any p [] ≡ true) ⊎ (b ≡ true)
    one true some = inr refl
    one false some = cc
any_push p (y ∷ xs) x some = one (p y) (any_push p xs x) some
  where
    one : (b : Bool) → (list_any p (xs ++ x ∷ []) ≡ true → (list_any p xs ≡ true) ⊎ (p x ≡ true)) → (b || list_any p (xs ++ x ∷ [])) ≡ true
        → ((b || list_any p xs) ≡ true) ⊎ (p x ≡ true)
    one true rest some = inl refl
    one false rest some = rest some

-- Files

all_given : (least next : ℕ) (es : List LiveEntity) → IsRising least next es → AllByRecursion (λ e. e.id.0 < next) es
all_given least next [] rising = tt
all_given least next (e ∷ es) rising = (omega (arith, below_next (e.id.0 + 1) next es rising.1), all_given (e.id.0 + 1) next es rising.1)

-- the entity has the path of none of these files
abbrev pub Differs : (ℕ → List (List ℕ)) → List FileLine → LiveEntity → Type 0
Differs paths files e = AllByRecursion (λ f. paths e.id.0 ≢ f.path) files

-- the directories of these lines are there
abbrev pub HasDirectories : Entities → List FileLine → Type 0
HasDirectories o files = (path : List (List ℕ)) → has_directory files path ≡ true → (to : Id) × Leads o root path to

-- the files of the earlier lines are made, and each entity has a path that is none of those to come
pub record AreMade (o : Entities) (earlier later : List FileLine) (paths : ℕ → List (List ℕ)) : Type 0 where
  pub rising : IsRising 0 o.next o.live
  pub some : 0 < o.next
  pub at_root : paths 0 ≡ []
  pub tells : AllByRecursion (Tells paths o.next) o.live
  pub differs : AllByRecursion (Differs paths later) o.live
  pub directories : HasDirectories o earlier

-- the name of a file to come is free in its directory
is_free : (o : Entities) (earlier later : List FileLine) (f : FileLine) (paths : ℕ → List (List ℕ)) (dir : Id) → AreMade o earlier (f ∷ later) paths → 1 ≤ length f.path
    → Leads o root (directory_of f.path) dir → entry_of o dir (last_name f.path) ≡ None
is_free o earlier later f paths dir are below leads = one (find (is_one_named (is_entry dir) (last_name f.path)) o.live) refl
  where
    whole : paths dir.0 ++ last_name f.path ∷ [] ≡ f.path
    whole =
        let directory : paths dir.0 ≡ directory_of f.path =
        leads_path paths o (directory_of f.path) root dir are.tells leads ∙ ap (λ (p : List (List ℕ)). p ++ directory_of f.path) are.at_root in
        ap (λ (p : List (List ℕ)). p ++ last_name f.path ∷ []) directory ∙ directory_and_last f.path below

    taken : (es : List LiveEntity) (e : LiveEntity) → AllByRecursion (Differs paths (f ∷ later)) es → find (is_one_named (is_entry dir) (last_name f.path)) es ≡ Some e → paths e.id.0 ≢ f.path
    taken [] e differs found = cc
    taken (x ∷ es) e differs found = two (is_one_named (is_entry dir) (last_name f.path) x) (taken es e differs.1) found
      where
        two : (b : Bool) → (find (is_one_named (is_entry dir) (last_name f.path)) es ≡ Some e → paths e.id.0 ≢ f.path)
            → cond b (Some x) (find (is_one_named (is_entry dir) (last_name f.path)) es) ≡ Some e → paths e.id.0 ≢ f.path
        two true rest here = let is : x ≡ e = cc in subst (λ (y : LiveEntity). paths y.id.0 ≢ f.path) is differs.0.0
        two false rest there = rest there

    one : (found : Option LiveEntity) → find (is_one_named (is_entry dir) (last_name f.path)) o.live ≡ found → id_of found ≡ None
    one None is = refl
    one (Some e) is =
        let there : paths e.id.0 ≡ paths dir.0 ++ last_name f.path ∷ [] = found_path paths o.next dir e.id (last_name f.path) o.live are.tells (ap id_of is) in
        absurd (taken o.live e are.differs is (there ∙ whole))

-- one path more
with_path : (ℕ → List (List ℕ)) → ℕ → List (List ℕ) → ℕ → List (List ℕ)
with_path paths next path n = cond (nat_eq n next) path (paths n)

path_before : (paths : ℕ → List (List ℕ)) (next : ℕ) (path : List (List ℕ)) (n : ℕ) → n < next → with_path paths next path n ≡ paths n
unfolding with_path
path_before paths next path n before = let other : nat_eq n next ≡ false = grind (arith, nat_tests) in rw other refl

path_there : (paths : ℕ → List (List ℕ)) (next : ℕ) (path : List (List ℕ)) → with_path paths next path next ≡ path
unfolding with_path
path_there paths next path = let same : nat_eq next next ≡ true = eq-eqb next next refl in rw same refl

-- an entity that was there stands where it stood
tells_on : (paths : ℕ → List (List ℕ)) (next : ℕ) (path : List (List ℕ)) (e : LiveEntity) → Tells paths next e × (e.id.0 < next) → Tells (with_path paths next path) (next + 1) e
tells_on paths next path e both = one e.what both.0
  where
    stands : (parent : Option Id) → StandsIn paths next e.id e.name parent → StandsIn (with_path paths next path) (next + 1) e.id e.name parent
    stands None there = tt
    stands (Some dir) there = (omega (arith, there.0), rw (path_before paths next path e.id.0 both.1, path_before paths next path dir.0 there.0) there.1)

    one : (w : EntityData) → IsFileAt paths next e.id e.name w → IsFileAt (with_path paths next path) (next + 1) e.id e.name w
    one (Process process) tells = tells
    one (Vnode vnode) tells = stands vnode.parent tells
    one (Pipe pipe) tells = tells
    one (Socket socket) tells = tells

differs_on : (paths : ℕ → List (List ℕ)) (next : ℕ) (f : FileLine) (later : List FileLine) (e : LiveEntity) → Differs paths (f ∷ later) e × (e.id.0 < next)
    → Differs (with_path paths next f.path) later e
differs_on paths next f later e both =
    all_from (λ g. paths e.id.0 ≢ g.path) (λ g. with_path paths next f.path e.id.0 ≢ g.path) later
    (λ g other same. other (sym (path_before paths next f.path e.id.0 both.1) ∙ same)) both.0.1

-- a directory among the lines, one of which is this
directory_among : (earlier : List FileLine) (f : FileLine) (path : List (List ℕ)) → has_directory (earlier ++ f ∷ []) path ≡ true
    → (has_directory earlier path ≡ true) ⊎ ((f.file.dir ≡ true) × (f.path ≡ path))
directory_among earlier f path there = one (length path == 0) there
  where
    both : (dir same : Bool) → f.file.dir ≡ dir → pointwise bytes_eq f.path path ≡ same → (dir && same) ≡ true → (f.file.dir ≡ true) × (f.path ≡ path)
    both true true dir same is = (dir, same_path-is f.path path same)
    both true false dir same is = cc
    both false same dir other is = cc

    two : (list_any (is_directory_at path) earlier ≡ true) ⊎ (is_directory_at path f ≡ true)
        → (list_any (is_directory_at path) earlier ≡ true) ⊎ ((f.file.dir ≡ true) × (f.path ≡ path))
    two (inl before) = inl before
    two (inr here) = inr (both f.file.dir (pointwise bytes_eq f.path path) refl refl here)

    one : (b : Bool) → (b || list_any (is_directory_at path) (earlier ++ f ∷ [])) ≡ true
        → ((b || list_any (is_directory_at path) earlier) ≡ true) ⊎ ((f.file.dir ≡ true) × (f.path ≡ path))
    one true there = inl refl
    one false there = two (any_push (is_directory_at path) earlier f there)

-- one file more

abbrev new_file : List Entry → Entities → FileLine → Id → LiveEntity
new_file listed o f dir = made o (last_name f.path) (new_label listed kinds.Vnode (Boot f.label)) (new_vnode dir f.file f.text)

abbrev with_new_file : List Entry → Entities → FileLine → Id → Entities
with_new_file listed o f dir = with_entity o (last_name f.path) (new_label listed kinds.Vnode (Boot f.label)) (new_vnode dir f.file f.text)

none_found : (found : Option LiveEntity) → id_of found ≡ None → found ≡ None
none_found None none = refl
none_found (Some e) none = cc

module _ (listed : List Entry) (o : Entities) (earlier later : List FileLine) (f : FileLine) (paths : ℕ → List (List ℕ)) (dir : Id)
    (are : AreMade o earlier (f ∷ later) paths) (below : 1 ≤ length f.path) (leads : Leads o root (directory_of f.path) dir) where
  free : entry_of o dir (last_name f.path) ≡ None
  free = is_free o earlier later f paths dir are below leads

  file_made : with_file listed o f ≡ with_new_file listed o f dir
  file_made =
      let target : (lookup_along o f.path).target ≡ Name dir None =
      ap (λ (p : List (List ℕ)). (lookup_along o p).target) (sym (directory_and_last f.path below))
      ∙ walk_leads o (directory_of f.path) (last_name f.path) root dir leads
      ∙ ap (λ (found : Option Id). Name dir found) free in
      ap (with_file_at listed o f) target

  new_tells : Tells (with_path paths o.next f.path) (o.next + 1) (new_file listed o f dir)
  new_tells =
      let given : dir.0 < o.next = leads_given o (directory_of f.path) root dir are.rising are.some leads in
      let directory : paths dir.0 ≡ directory_of f.path =
      leads_path paths o (directory_of f.path) root dir are.tells leads ∙ ap (λ (p : List (List ℕ)). p ++ directory_of f.path) are.at_root in
      let whole : directory_of f.path ++ last_name f.path ∷ [] ≡ f.path = directory_and_last f.path below in (
        omega arith,
        path_there paths o.next f.path ∙ sym (ap (λ (p : List (List ℕ)). p ++ last_name f.path ∷ []) (path_before paths o.next f.path dir.0 given ∙ directory) ∙ whole),
      )

  new_entry : entry_of (with_new_file listed o f dir) dir (last_name f.path) ≡ Some (new_file listed o f dir).id
  new_entry =
      let here : nat_eq dir.0 dir.0 ≡ true = eq-eqb dir.0 dir.0 refl in
      let named : bytes_eq (last_name f.path) (last_name f.path) ≡ true = (bytes_eq-Decides (last_name f.path) (last_name f.path)).1 refl in
      let hit : is_one_named (is_entry dir) (last_name f.path) (new_file listed o f dir) ≡ true = rw (here, named) refl in
      ap id_of (find_push_hit (is_one_named (is_entry dir) (last_name f.path)) o.live (new_file listed o f dir)
      (none_found (find (is_one_named (is_entry dir) (last_name f.path)) o.live) free) hit)

  new_dir : f.file.dir ≡ true → is_dir (with_new_file listed o f dir) (new_file listed o f dir).id ≡ true
  new_dir is =
      let id : Id = (new_file listed o f dir).id in
      let hit : has_id id (new_file listed o f dir) ≡ true = eq-eqb o.next o.next refl in
      let found : live_at (with_new_file listed o f dir) id ≡ Some (new_file listed o f dir) =
      find_push_hit (has_id id) o.live (new_file listed o f dir) (find_beyond id 0 o.next o.live (omega arith) are.rising) hit in
      ap (λ (x : Option LiveEntity). (reading file_of no_file x).dir) found ∙ is

  has_directories : HasDirectories (with_new_file listed o f dir) (earlier ++ f ∷ [])
  has_directories path there = one (directory_among earlier f path there)
    where
      kept : (names : List (List ℕ)) (to : Id) → Leads o root names to → Leads (with_new_file listed o f dir) root names to
      kept names to = leads_kept o (with_new_file listed o f dir) (new_file listed o f dir ∷ []) names root to refl

      one : (has_directory earlier path ≡ true) ⊎ ((f.file.dir ≡ true) × (f.path ≡ path)) → (to : Id) × Leads (with_new_file listed o f dir) root path to
      one (inl before) = let old = are.directories path before in (old.0, kept path old.0 old.1)
      one (inr here) =
          let led : Leads (with_new_file listed o f dir) root (directory_of f.path ++ last_name f.path ∷ []) (new_file listed o f dir).id =
          leads_on (with_new_file listed o f dir) (directory_of f.path) (last_name f.path) root dir (new_file listed o f dir).id
          (kept (directory_of f.path) dir leads) new_entry (new_dir here.0) in
          let names : directory_of f.path ++ last_name f.path ∷ [] ≡ path = directory_and_last f.path below ∙ here.1 in
          ((new_file listed o f dir).id, subst (λ (p : List (List ℕ)). Leads (with_new_file listed o f dir) root p (new_file listed o f dir).id) names led)

  made_on : AllByRecursion (λ g. f.path ≢ g.path) later → AreMade (with_new_file listed o f dir) (earlier ++ f ∷ []) later (with_path paths o.next f.path)
  made_on others =
      let given : AllByRecursion (λ e. e.id.0 < o.next) o.live = all_given 0 o.next o.live are.rising in
      record {
        rising = rising_push 0 o.next o.live (new_file listed o f dir) refl are.rising;
        some = omega arith;
        at_root = path_before paths o.next f.path 0 are.some ∙ are.at_root;
        tells = all_push (Tells (with_path paths o.next f.path) (o.next + 1)) o.live (new_file listed o f dir)
            (all_from (λ e. Tells paths o.next e × (e.id.0 < o.next)) (Tells (with_path paths o.next f.path) (o.next + 1)) o.live (tells_on paths o.next f.path)
            (all_both (Tells paths o.next) (λ e. e.id.0 < o.next) o.live are.tells given)) new_tells;
        differs = all_push (Differs (with_path paths o.next f.path) later) o.live (new_file listed o f dir)
            (all_from (λ e. Differs paths (f ∷ later) e × (e.id.0 < o.next)) (Differs (with_path paths o.next f.path) later) o.live (differs_on paths o.next f later)
            (all_both (Differs paths (f ∷ later)) (λ e. e.id.0 < o.next) o.live are.differs given))
            (all_from (λ g. f.path ≢ g.path) (λ g. with_path paths o.next f.path o.next ≢ g.path) later
            (λ g other same. other (sym (path_there paths o.next f.path) ∙ same)) others);
        directories = has_directories;
      }

-- All files

-- what the lines of files say, one after another
abbrev pub AreFormed : List FileLine → List FileLine → Type 0
AreFormed earlier [] = Unit {0}
AreFormed earlier (f ∷ later) = (1 ≤ length f.path) × (has_directory earlier (directory_of f.path) ≡ true) × AllByRecursion (λ g. f.path ≢ g.path) later × AreFormed (earlier ++ f ∷ []) later

-- so many files or directories, and nothing else
pub record AreFiles (o : Entities) (count : ℕ) : Type 0 where
  pub files : AllByRecursion (λ e. is_process e.what ≡ false) o.live
  pub counts : length o.live ≡ count

pub files_made : (listed : List Entry) (o : Entities) (earlier later : List FileLine) (paths : ℕ → List (List ℕ)) → AreMade o earlier later paths → AreFormed earlier later
    → AreFiles (fold (with_file listed) o later) (length o.live + length later)
files_made listed o earlier [] paths are formed =
    record { files = all_from (Tells paths o.next) (λ e. is_process e.what ≡ false) o.live (no_process paths o.next) are.tells; counts = omega arith }
files_made listed o earlier (f ∷ later) paths are formed =
    let there = are.directories (directory_of f.path) formed.1 in
    let here : with_file listed o f ≡ with_new_file listed o f there.0 = file_made listed o earlier later f paths there.0 are formed.0 there.1 in
    let next = made_on listed o earlier later f paths there.0 are formed.0 there.1 formed.2 in
    let rest = files_made listed (with_new_file listed o f there.0) (earlier ++ f ∷ []) later (with_path paths o.next f.path) next formed.3 in
    let longer : length (o.live ++ new_file listed o f there.0 ∷ []) ≡ length o.live + 1 = length-append o.live (new_file listed o f there.0 ∷ []) in
    record {
      files = subst (λ (x : Entities). AllByRecursion (λ e. is_process e.what ≡ false) (fold (with_file listed) x later).live) (sym here) rest.files;
      counts = ap (λ (x : Entities). length (fold (with_file listed) x later).live) here ∙ rest.counts ∙ omega arith;
    }
