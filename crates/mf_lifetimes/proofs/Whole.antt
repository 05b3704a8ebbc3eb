-- The opening state of a well-formed script has each file and the process of each task.
use Rattle.std.proofs.Common.{◌≡◌, ◌≢◌, ℕ, ◌==◌, ◌+◌, suc, Bool, true, false, ◌&&◌, ◌||◌, List, [], ◌∷◌, ◌++◌, length, None, refl, ap, ◌∙◌, arith}
use Rattle.std.specs.Prelude.{find, fold, All, AllPairs}
use Rattle.std.specs.Str.{bytes_eq}
use Rattle.std.specs.List.{AllByRecursion, list_any}
use Rattle.std.proofs.lemmas.Bool.Decides.{nat_tests}
use Rattle.std.proofs.lemmas.Slice.Eq.{bytes_eq-Decides}
use Rattle.std.proofs.lemmas.List.{length-append}
use Rattle.mf_core.proofs.LookedUp.{root_alone, with_task_at}
use Rattle.mf_errno.specs.declared.module.Module.{Module}
use Rattle.mf_item.specs.declared.view.Kind.TheVariants as kinds
use Rattle.mf_policy.specs.declared.labels.Origin.TheVariants.{Boot}
use Rattle.mf_policy.specs.NewLabels.{new_label}
use Rattle.mf_policy.specs.Registration.{Entry}
use Rattle.mf_objects.specs.Live.{LiveEntity, Entities, id_of, is_process, is_one_named}
use Rattle.mf_objects.specs.Changes.{made, new_process, with_entity}
use Rattle.mf_calls.specs.declared.script.Task.{Task}
use Rattle.mf_calls.specs.declared.script.FileLine.{FileLine}
use Rattle.mf_calls.specs.Paths.{has_directory, is_directory_at}
use Rattle.mf_calls.specs.WellFormed.{IsFormedFile, AreInDirectories}
use Rattle.mf_plan.specs.Path.{root}
use Rattle.mf_plan.specs.Views.{process_named}
use Rattle.mf_core.specs.Opening.{with_file, with_task, booted_specs}
use Rattle.mf_lifetimes.specs.Laws.{OpeningIsWhole}
use Rattle.mf_objects.proofs.Finding.{find_push_miss}
use Rattle.mf_lifetimes.proofs.Files.{by_place, all_from, all_both, AreMade, AreFormed, AreFiles, HasDirectories, files_made}

-- Files

files_formed : (boots : List Module) (earlier later : List FileLine) → AllPairs (λ f g. f.path ≢ g.path) later → All (IsFormedFile boots) later
    → AreInDirectories earlier later → AreFormed earlier later
files_formed boots earlier [] differ each there = tt
files_formed boots earlier (f ∷ later) differ each there = (
  (each 0 f (omega arith)).below_root,
  there.0,
  by_place (λ g. f.path ≢ g.path) later (λ k d within. differ 0 (suc k) d (omega arith) (omega arith)),
  files_formed boots (earlier ++ f ∷ []) later (λ i j d before within. differ (suc i) (suc j) d (omega arith) (omega arith))
      (λ k d within. each (suc k) d (omega arith)) there.1,
)

-- before any file there is no directory but the root
no_directory : (name : List ℕ) (names : List (List ℕ)) → has_directory [] (name ∷ names) ≡ true → ⊥
no_directory name names there = one (length (name ∷ names) == 0) refl there
  where
    one : (b : Bool) → (length (name ∷ names) == 0) ≡ b → (b || list_any (is_directory_at (name ∷ names)) []) ≡ true → ⊥
    one true is here = let none : length (name ∷ names) ≡ 0 = grind (arith, nat_tests) in omega (arith, none)
    one false is none = let never : false ≡ true = none in cc

root_directories : (listed : List Entry) → HasDirectories (root_alone listed) []
root_directories listed [] there = (root, refl)
root_directories listed (name ∷ names) there = absurd (no_directory name names there)

root_made : (listed : List Entry) (boots : List Module) (files : List FileLine) → All (IsFormedFile boots) files → AreMade (root_alone listed) [] files (λ _. [])
root_made listed boots files each =
    record {
      rising = (omega arith, omega arith);
      some = omega arith;
      at_root = refl;
      tells = (tt, tt);
      differs = (by_place (λ f. [] ≢ f.path) files (λ k d within same. let some = (each k d within).below_root in omega (arith, some, ap length same)), tt);
      directories = root_directories listed;
    }

-- Tasks

-- no two tasks have one name
abbrev pub NamesDiffer : List Task → Type 0
NamesDiffer [] = Unit {0}
NamesDiffer (t ∷ ts) = AllByRecursion (λ u. t.name ≢ u.name) ts × NamesDiffer ts

names_differ : (ts : List Task) → AllPairs (λ t u. t.name ≢ u.name) ts → NamesDiffer ts
names_differ [] differ = tt
names_differ (t ∷ ts) differ = (
  by_place (λ u. t.name ≢ u.name) ts (λ k d within. differ 0 (suc k) d (omega arith) (omega (arith, within))),
  names_differ ts (λ i j d before within. differ (suc i) (suc j) d (omega (arith, before)) (omega (arith, within))),
)

abbrev booted_process : List Entry → Entities → Task → LiveEntity
booted_process listed o t = made o t.name (new_label listed kinds.Process (Boot t.label)) (new_process t.cred)

abbrev with_booted_process : List Entry → Entities → Task → Entities
with_booted_process listed o t = with_entity o t.name (new_label listed kinds.Process (Boot t.label)) (new_process t.cred)

-- a name that isn't the new process's stays free
stays_free : (listed : List Entry) (o : Entities) (t u : Task) → (t.name ≢ u.name) × (process_named o u.name ≡ None)
    → process_named (with_booted_process listed o t) u.name ≡ None
stays_free listed o t u both = ap id_of (find_push_miss (is_one_named is_process u.name) o.live (booted_process listed o t) (one (bytes_eq t.name u.name) refl)) ∙ both.1
  where
    one : (b : Bool) → bytes_eq t.name u.name ≡ b → (true && b) ≡ false
    one true same = absurd (both.0 ((bytes_eq-Decides t.name u.name).0 same))
    one false other = refl

tasks_made : (listed : List Entry) (o : Entities) (ts : List Task) → NamesDiffer ts → AllByRecursion (λ t. process_named o t.name ≡ None) ts
    → length (fold (with_task listed) o ts).live ≡ length o.live + length ts
tasks_made listed o [] differ free = omega arith
tasks_made listed o (t ∷ ts) differ free =
    let here : with_task listed o t ≡ with_booted_process listed o t = ap (with_task_at listed o t) free.0 in
    let rest : length (fold (with_task listed) (with_booted_process listed o t) ts).live ≡ length (o.live ++ booted_process listed o t ∷ []) + length ts =
    tasks_made listed (with_booted_process listed o t) ts differ.1
    (all_from (λ u. (t.name ≢ u.name) × (process_named o u.name ≡ None)) (λ u. process_named (with_booted_process listed o t) u.name ≡ None) ts (stays_free listed o t)
    (all_both (λ u. t.name ≢ u.name) (λ u. process_named o u.name ≡ None) ts differ.0 free.1)) in
    let longer : length (o.live ++ booted_process listed o t ∷ []) ≡ length o.live + 1 = length-append o.live (booted_process listed o t ∷ []) in
    ap (λ (x : Entities). length (fold (with_task listed) x ts).live) here ∙ rest ∙ omega arith

none_named : (name : List ℕ) (es : List LiveEntity) → AllByRecursion (λ e. is_process e.what ≡ false) es → find (is_one_named is_process name) es ≡ None
none_named name [] files = refl
none_named name (e ∷ es) files = rw files.0 (none_named name es files.1)

all_free : (o : Entities) (ts : List Task) → AllByRecursion (λ e. is_process e.what ≡ false) o.live → AllByRecursion (λ t. process_named o t.name ≡ None) ts
all_free o [] files = tt
all_free o (t ∷ ts) files = (ap id_of (none_named t.name o.live files), all_free o ts files)

pub opening_whole : OpeningIsWhole
opening_whole s formed =
    let listed : List Entry = booted_specs s in
    let files : AreFiles (fold (with_file listed) (root_alone listed) s.files) (length (root_alone listed).live + length s.files) =
    files_made listed (root_alone listed) [] s.files (λ _. []) (root_made listed s.boots s.files formed.each_file)
    (files_formed s.boots [] s.files formed.paths formed.each_file formed.directories) in
    let o : Entities = fold (with_file listed) (root_alone listed) s.files in
    tasks_made listed o s.tasks (names_differ s.tasks formed.names) (all_free o s.tasks files.files)
    ∙ ap (λ (n : ℕ). n + length s.tasks) files.counts
