-- Paths that lead along live directories, and what becomes of them as an entity comes.
use Rattle.std.proofs.Common.{◌≡◌, ℕ, ◌<◌, ◌≤◌, ◌-◌, suc, Bool, true, false, cond, ◌&&◌, List, [], ◌∷◌, ◌++◌, append-nil, append_assoc, length, Option, Some, None, refl, ap, sym, ◌∙◌, subst, arith}
use Rattle.std.specs.Prelude.{find, if◌then◌else◌}
use Rattle.std.specs.Str.{bytes_eq}
use Rattle.std.specs.List.{AllByRecursion}
use Rattle.std.proofs.lemmas.Bool.Decides.{nat_tests}
use Rattle.std.proofs.lemmas.Slice.Eq.{bytes_eq-Decides}
use Rattle.std.specs.Cmp.Lexicographic.{pointwise}
use Rattle.mf_errno.specs.declared.errno.Errno.TheVariants.{Enotdir}
use Rattle.mf_objects.specs.declared.id.Id.{Id}
use Rattle.mf_objects.specs.declared.entity.EntityData.{EntityData}
use Rattle.mf_objects.specs.declared.entity.EntityData.TheVariants.{Process, Vnode, Pipe, Socket}
use Rattle.mf_objects.specs.Live.{LiveEntity, Entities, id_of, has_id, is_process, is_entry, is_one_named, file_of, no_file, live_at}
use Rattle.mf_objects.proofs.Shorthands.{reading}
use Rattle.mf_objects.specs.Lives.{is_held_by}
use Rattle.mf_objects.specs.Population.{IsRising}
use Rattle.mf_calls.specs.Paths.{directory_of}
use Rattle.mf_plan.specs.declared.target.Target.TheVariants.{Name}
use Rattle.mf_plan.specs.declared.lookup.Lookup.{Lookup}
use Rattle.mf_plan.specs.Path.{lookup_from, going_on, nowhere, entry_of, last_name}
use Rattle.mf_plan.specs.Views.{is_dir}
use Rattle.mf_objects.proofs.Finding.{find_given}

-- Paths

-- a path is that of its directory and its last component
pub directory_and_last : (path : List (List ℕ)) → 1 ≤ length path → directory_of path ++ last_name path ∷ [] ≡ path
directory_and_last [] some = absurd (omega arith)
directory_and_last (name ∷ []) some = refl
directory_and_last (name ∷ below ∷ rest) some =
    let one_less : length (name ∷ below ∷ rest) - 1 ≡ suc (length (below ∷ rest) - 1) = omega arith in
    rw one_less (ap (λ (names : List (List ℕ)). name ∷ names) (directory_and_last (below ∷ rest) (omega arith)))

pub same_path-is : (p q : List (List ℕ)) → pointwise bytes_eq p q ≡ true → p ≡ q
same_path-is [] [] same = refl
same_path-is [] (w ∷ ws) same = cc
same_path-is (v ∷ vs) [] same = cc
same_path-is (v ∷ vs) (w ∷ ws) same = one (bytes_eq v w) refl same (same_path-is vs ws)
  where
    one : (b : Bool) → bytes_eq v w ≡ b → (b && pointwise bytes_eq vs ws) ≡ true → (pointwise bytes_eq vs ws ≡ true → vs ≡ ws) → v ∷ vs ≡ w ∷ ws
    one true here both later =
        let first : v ≡ w = (bytes_eq-Decides v w).0 here in
        let others : vs ≡ ws = later both in
        cc
    one false other both later = cc

-- the names lead from one directory to another
abbrev pub Leads : Entities → Id → List (List ℕ) → Id → Type 0
Leads o from [] to = from ≡ to
Leads o from (name ∷ names) to = (mid : Id) × (entry_of o from name ≡ Some mid) × (is_dir o mid ≡ true) × Leads o mid names to

pub leads_on : (o : Entities) (names : List (List ℕ)) (name : List ℕ) (from to id : Id) → Leads o from names to → entry_of o to name ≡ Some id → is_dir o id ≡ true
    → Leads o from (names ++ name ∷ []) id
leads_on o [] name from to id leads entry dir = (id, ap (λ (d : Id). entry_of o d name) leads ∙ entry, dir, refl)
leads_on o (first ∷ names) name from to id leads entry dir = (leads.0, leads.1, leads.2, leads_on o names name leads.0 to id leads.3 entry dir)

goes_through : (o : Entities) (rest : Id → Lookup) (found : Option Id) (mid : Id) → found ≡ Some mid → is_dir o mid ≡ true
    → (going_on o rest found).target ≡ (rest mid).target
goes_through o rest found mid is dir =
    ap (λ (x : Option Id). (going_on o rest x).target) is ∙ ap (λ (b : Bool). (if b then rest mid else nowhere Enotdir).target) dir

-- where the walk along a path ends whose directory is there
pub walk_leads : (o : Entities) (names : List (List ℕ)) (name : List ℕ) (from to : Id) → Leads o from names to
    → (lookup_from o (names ++ name ∷ []) from).target ≡ Name to (entry_of o to name)
unfolding lookup_from
walk_leads o [] name from to leads = ap (λ (id : Id). Name id (entry_of o id name)) leads
walk_leads o (first ∷ []) name from to leads =
    goes_through o (lookup_from o (name ∷ [])) (entry_of o from first) leads.0 leads.1 leads.2 ∙ walk_leads o [] name leads.0 to leads.3
walk_leads o (first ∷ next ∷ names) name from to leads =
    goes_through o (lookup_from o (next ∷ (names ++ name ∷ []))) (entry_of o from first) leads.0 leads.1 leads.2
    ∙ walk_leads o (next ∷ names) name leads.0 to leads.3

-- More entities

find_kept : (p : LiveEntity → Bool) (es ys : List LiveEntity) (e : LiveEntity) → find p es ≡ Some e → find p (es ++ ys) ≡ Some e
find_kept p [] ys e found = cc
find_kept p (x ∷ es) ys e found = one (p x) (find_kept p es ys e) found
  where
    one : (b : Bool) → (find p es ≡ Some e → find p (es ++ ys) ≡ Some e) → cond b (Some x) (find p es) ≡ Some e → cond b (Some x) (find p (es ++ ys)) ≡ Some e
    one true rest here = here
    one false rest later = rest later

entry_kept : (p : LiveEntity → Bool) (es ys : List LiveEntity) (id : Id) → id_of (find p es) ≡ Some id → id_of (find p (es ++ ys)) ≡ Some id
entry_kept p es ys id = one (find p es) refl
  where
    one : (found : Option LiveEntity) → find p es ≡ found → id_of found ≡ Some id → id_of (find p (es ++ ys)) ≡ Some id
    one None is none = cc
    one (Some e) is some = ap id_of (find_kept p es ys e is) ∙ some

-- what has the attributes of a directory is live
dir_found : (found : Option LiveEntity) → (reading file_of no_file found).dir ≡ true → (e : LiveEntity) × (found ≡ Some e)
dir_found None dir = cc
dir_found (Some e) dir = (e, refl)

dir_kept : (o o' : Entities) (ys : List LiveEntity) (id : Id) → o'.live ≡ o.live ++ ys → is_dir o id ≡ true → is_dir o' id ≡ true
dir_kept o o' ys id more dir =
    let here = dir_found (live_at o id) dir in
    let there : live_at o' id ≡ Some here.0 = ap (find (has_id id)) more ∙ find_kept (has_id id) o.live ys here.0 here.1 in
    ap (λ (found : Option LiveEntity). (reading file_of no_file found).dir) (there ∙ sym here.1) ∙ dir

pub leads_kept : (o o' : Entities) (ys : List LiveEntity) (names : List (List ℕ)) (from to : Id) → o'.live ≡ o.live ++ ys → Leads o from names to → Leads o' from names to
leads_kept o o' ys [] from to more leads = leads
leads_kept o o' ys (name ∷ names) from to more leads =
    let entry : entry_of o' from name ≡ Some leads.0 =
    ap (λ (live : List LiveEntity). id_of (find (is_one_named (is_entry from) name) live)) more ∙ entry_kept (is_one_named (is_entry from) name) o.live ys leads.0 leads.1 in
    (leads.0, entry, dir_kept o o' ys leads.0 more leads.2, leads_kept o o' ys names leads.0 to more leads.3)

-- the id of a directory was given
pub dir_given : (o : Entities) (id : Id) → IsRising 0 o.next o.live → is_dir o id ≡ true → id.0 < o.next
dir_given o id rising dir =
    let here = dir_found (live_at o id) dir in
    find_given id here.0 0 o.next o.live here.1 rising

pub leads_given : (o : Entities) (names : List (List ℕ)) (from to : Id) → IsRising 0 o.next o.live → from.0 < o.next → Leads o from names to → to.0 < o.next
leads_given o [] from to rising given leads = subst (λ (id : Id). id.0 < o.next) leads given
leads_given o (name ∷ names) from to rising given leads = leads_given o names leads.0 to rising (dir_given o leads.0 rising leads.2) leads.3

-- Where entities stand

-- the path of an entity that stands in a directory is the directory's and its name
abbrev pub StandsIn : (ℕ → List (List ℕ)) → ℕ → Id → List ℕ → Option Id → Type 0
StandsIn paths next id name None = Unit {0}
StandsIn paths next id name (Some dir) = (dir.0 < next) × (paths id.0 ≡ paths dir.0 ++ name ∷ [])

-- it is a file or directory, of such a path
abbrev pub IsFileAt : (ℕ → List (List ℕ)) → ℕ → Id → List ℕ → EntityData → Type 0
IsFileAt paths next id name (Process process) = ⊥
IsFileAt paths next id name (Vnode vnode) = StandsIn paths next id name vnode.parent
IsFileAt paths next id name (Pipe pipe) = ⊥
IsFileAt paths next id name (Socket socket) = ⊥

abbrev pub Tells : (ℕ → List (List ℕ)) → ℕ → LiveEntity → Type 0
Tells paths next e = IsFileAt paths next e.id e.name e.what

held_path : (paths : ℕ → List (List ℕ)) (next : ℕ) (id from : Id) (own name : List ℕ) (parent : Option Id) → is_held_by from parent ≡ true → own ≡ name
    → StandsIn paths next id own parent → paths id.0 ≡ paths from.0 ++ name ∷ []
held_path paths next id from own name None held same stands = cc
held_path paths next id from own name (Some dir) held same stands =
    let is : dir.0 ≡ from.0 = grind (arith, nat_tests) in
    rw (← is, ← same) stands.1

entry_path : (paths : ℕ → List (List ℕ)) (next : ℕ) (id from : Id) (own name : List ℕ) (w : EntityData) → is_entry from w ≡ true → own ≡ name
    → IsFileAt paths next id own w → paths id.0 ≡ paths from.0 ++ name ∷ []
entry_path paths next id from own name (Process process) entry same tells = absurd tells
entry_path paths next id from own name (Vnode vnode) entry same tells = held_path paths next id from own name vnode.parent entry same tells
entry_path paths next id from own name (Pipe pipe) entry same tells = absurd tells
entry_path paths next id from own name (Socket socket) entry same tells = absurd tells

child_path : (paths : ℕ → List (List ℕ)) (next : ℕ) (from : Id) (name : List ℕ) (e : LiveEntity) → is_one_named (is_entry from) name e ≡ true → Tells paths next e
    → paths e.id.0 ≡ paths from.0 ++ name ∷ []
child_path paths next from name e child tells = one (is_entry from e.what) (bytes_eq e.name name) refl refl child
  where
    one : (a b : Bool) → is_entry from e.what ≡ a → bytes_eq e.name name ≡ b → (a && b) ≡ true → paths e.id.0 ≡ paths from.0 ++ name ∷ []
    one true true entry same both = entry_path paths next e.id from e.name name e.what entry ((bytes_eq-Decides e.name name).0 same) tells
    one true false entry same both = cc
    one false b entry same both = cc

pub found_path : (paths : ℕ → List (List ℕ)) (next : ℕ) (from mid : Id) (name : List ℕ) (es : List LiveEntity) → AllByRecursion (Tells paths next) es
    → id_of (find (is_one_named (is_entry from) name) es) ≡ Some mid → paths mid.0 ≡ paths from.0 ++ name ∷ []
found_path paths next from mid name [] tells found = cc
found_path paths next from mid name (e ∷ es) tells found = one (is_one_named (is_entry from) name e) refl (found_path paths next from mid name es tells.1) found
  where
    one : (b : Bool) → is_one_named (is_entry from) name e ≡ b → (id_of (find (is_one_named (is_entry from) name) es) ≡ Some mid → paths mid.0 ≡ paths from.0 ++ name ∷ [])
        → id_of (cond b (Some e) (find (is_one_named (is_entry from) name) es)) ≡ Some mid → paths mid.0 ≡ paths from.0 ++ name ∷ []
    one true child rest found =
        let is : e.id ≡ mid = cc in
        subst (λ (id : Id). paths id.0 ≡ paths from.0 ++ name ∷ []) is (child_path paths next from name e child tells.0)
    one false other rest found = rest found

-- the path of a directory that names lead to
pub leads_path : (paths : ℕ → List (List ℕ)) (o : Entities) (names : List (List ℕ)) (from to : Id) → AllByRecursion (Tells paths o.next) o.live → Leads o from names to
    → paths to.0 ≡ paths from.0 ++ names
leads_path paths o [] from to tells leads = rw (append-nil (paths from.0)) (ap (λ (id : Id). paths id.0) (sym leads))
leads_path paths o (name ∷ names) from to tells leads =
    let first : paths leads.0.0 ≡ paths from.0 ++ name ∷ [] = found_path paths o.next from leads.0 name o.live tells leads.1 in
    leads_path paths o names leads.0 to tells leads.3
    ∙ ap (λ (p : List (List ℕ)). p ++ names) first
    ∙ append_assoc (paths from.0) (name ∷ []) names

-- none of them is a process
pub no_process : (paths : ℕ → List (List ℕ)) (next : ℕ) (e : LiveEntity) → Tells paths next e → is_process e.what ≡ false
no_process paths next e tells = one e.what tells
  where
    one : (w : EntityData) → IsFileAt paths next e.id e.name w → is_process w ≡ false
    one (Process process) tells = absurd tells
    one (Vnode vnode) tells = refl
    one (Pipe pipe) tells = absurd tells
    one (Socket socket) tells = absurd tells
