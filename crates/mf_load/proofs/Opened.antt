-- The load stands at boot.
use Rattle.std.proofs.Common.{◌≡◌, ◌≢◌, ℕ, zero, suc, ◌<◌, ◌≤◌, ◌+◌, ◌*◌, nat_eq, Bool, true, false, ◌&&◌, List, [], ◌∷◌, ◌++◌, Option, Some, None, fold, length, length-append, refl, ap, sym, ◌∙◌, subst, arith, eq-eqb}
use Rattle.std.specs.Prelude.{find}
use Rattle.std.specs.List.{AllByRecursion}
use Rattle.std.specs.Str.{bytes_eq}
use Rattle.std.proofs.lemmas.Bool.Decides.{nat_tests}
use Rattle.std.proofs.lemmas.List.{length-map}
use Rattle.std.proofs.lemmas.List.Sums.{fold-append}
use Rattle.mf_core.proofs.LookedUp.{root_alone, with_task_at}
use Rattle.mf_errno.specs.declared.errno.Errno.{Errno}
use Rattle.mf_objects.specs.declared.id.Id.{Id}
use Rattle.mf_objects.specs.Live.{LiveEntity, Entities, id_of, live_at, has_id, is_one_named, is_entry, is_process}
use Rattle.mf_objects.specs.Titles.{entry_names}
use Rattle.mf_calls.specs.declared.script.Task.{Task}
use Rattle.mf_calls.specs.Generated.{task_name, directory_name, file_name, scratch_name, load_directory, load_file, load_files, load_task, load_tasks, generated}
use Rattle.mf_plan.specs.declared.target.Target.TheVariants.{Name}
use Rattle.mf_plan.specs.declared.lookup.Lookup.{Lookup}
use Rattle.mf_plan.specs.Path.{lookup_from}
use Rattle.mf_core.specs.Opening.{with_file_at, with_file, with_task, opening_state}
use Rattle.mf_core.specs.Progress.{first_progress}
use Rattle.mf_core.specs.LegalHistory.{opening_run}
use Rattle.mf_core.proofs.Laws.{progress_at-first}
use Rattle.mf_load.specs.Alone.{Own, own_after}
use Rattle.mf_objects.proofs.Finding.{find_push_miss, find_push_hit, find_beyond}
use Rattle.mf_load.proofs.Finding.{find_push_found, all_push, all_pass, all_from, names_push, names_push_other}
use Rattle.mf_load.proofs.Names.{bytes_same, tasks_differ, directories_differ, file_no_scratch}
use Rattle.mf_load.proofs.Known.{biba_alone, at, directory_id, file_id, task_id, the_directory, the_file, the_task, IsDirectory, IsFile, IsTask, FitsLoad, IsFixed}
use Rattle.mf_load.proofs.Keeping.{pushed, push_fixed, ids_differ}
use Rattle.mf_load.proofs.Calls.{walk_inside}
use Rattle.mf_load.proofs.Totals.{total, total_same}
use Rattle.mf_load.proofs.Standing.{Stands, held_count, stands_same}
use Rattle.mf_calls.proofs.Loads.{task_count}
use Rattle.mf_load.proofs.Running.{IsGood, answered, answered_at, tally, tally_of}

and_none : (b : Bool) → (b && false) ≡ false
and_none true = refl
and_none false = refl

-- Files

-- the directories and files of so many tasks are made, and nothing else is beside the root
record IsFiled (t a : ℕ) (o : Entities) : Type 0 where
  fixed : IsFixed t a 0 o (λ u. [])
  next : o.next ≡ 2 * a + 1
  long : length o.live ≡ 2 * a + 1
  free : (u : ℕ) → a ≤ u → u < 16 → find (is_one_named (is_entry (at 0)) (directory_name u)) o.live ≡ None
  bare : (u : ℕ) → a ≤ u → (name : List ℕ) → find (is_one_named (is_entry (at (directory_id u))) name) o.live ≡ None
  scratch : (u j : ℕ) → u < a → find (is_one_named (is_entry (at (directory_id u))) (scratch_name j)) o.live ≡ None
  names : (u : ℕ) → u < a → entry_names (at (directory_id u)) o.live ≡ file_name ∷ []
  empty : (u : ℕ) → a ≤ u → entry_names (at (directory_id u)) o.live ≡ []
  files : AllByRecursion (λ e. is_process e.what ≡ false) o.live

root_filed : (t : ℕ) → IsFiled t 0 (root_alone biba_alone)
root_filed t =
    record {
      fixed =
          record {
            rising = (omega arith, omega arith);
            root = refl;
            directories = λ u within. absurd (omega arith);
            files = λ u within. absurd (omega arith);
            tasks = λ u within. absurd (omega arith);
            fit = (λ dir same. cc, tt);
          };
      next = refl;
      long = refl;
      free = λ u late few. refl;
      bare = λ u late name. refl;
      scratch = λ u j within. absurd (omega arith);
      names = λ u within. absurd (omega arith);
      empty = λ u late. refl;
      files = (refl, tt);
    }

module _ (t a : ℕ) (o : Entities) (few : t ≤ 16) (within : a < t) (filed : IsFiled t a o) where
  -- the directory

  directory_made : with_file biba_alone o (load_directory a) ≡ pushed o (the_directory a)
  unfolding lookup_from
  directory_made =
      ap (λ (found : Option LiveEntity). with_file_at biba_alone o (load_directory a) (Name (at 0) (id_of found))) (filed.free a (omega arith) (omega arith))
      ∙ ap (λ m. record { next = o.next + 1; live = o.live ++ record (the_directory a) { id = at m } ∷ [] }) filed.next

  directory_fits : FitsLoad (2 * t + 1) (the_directory a).what
  directory_fits dir same = let is : at 0 ≡ dir = cc in omega (arith, ap (λ (i : Id). i.0) is)

  directory_fixed : IsFixed t a 0 (pushed o (the_directory a)) (λ u. [])
  directory_fixed = push_fixed t a 0 o (λ u. []) (the_directory a) (sym filed.next) directory_fits filed.fixed

  directory_named : find (is_one_named (is_entry (at 0)) (directory_name a)) (pushed o (the_directory a)).live ≡ Some (the_directory a)
  directory_named =
      find_push_hit (is_one_named (is_entry (at 0)) (directory_name a)) o.live (the_directory a) (filed.free a (omega arith) (omega arith))
      (bytes_same (directory_name a) (directory_name a) refl)

  directory_here : live_at (pushed o (the_directory a)) (at (directory_id a)) ≡ Some (the_directory a)
  directory_here =
      find_push_hit (has_id (at (directory_id a))) o.live (the_directory a)
      (find_beyond (at (directory_id a)) 0 o.next o.live (omega (arith, filed.next)) filed.fixed.rising) (eq-eqb (directory_id a) (directory_id a) refl)

  -- it lies in no directory of a task
  directory_apart : (u : ℕ) (name : List ℕ) → is_one_named (is_entry (at (directory_id u))) name (the_directory a) ≡ false
  directory_apart u name = ap (λ (b : Bool). b && bytes_eq (directory_name a) name) (ids_differ 0 (directory_id u) (λ same. omega arith))

  -- the file

  no_file_yet : find (is_one_named (is_entry (at (directory_id a))) file_name) (pushed o (the_directory a)).live ≡ None
  no_file_yet =
      find_push_miss (is_one_named (is_entry (at (directory_id a))) file_name) o.live (the_directory a) (directory_apart a file_name) ∙ filed.bare a (omega arith) file_name

  file_made : with_file biba_alone (pushed o (the_directory a)) (load_file a) ≡ pushed (pushed o (the_directory a)) (the_file a [])
  file_made =
      ap (λ (w : Lookup). with_file_at biba_alone (pushed o (the_directory a)) (load_file a) w.target)
      (walk_inside (pushed o (the_directory a)) a file_name directory_named directory_here)
      ∙ ap (λ (found : Option LiveEntity). with_file_at biba_alone (pushed o (the_directory a)) (load_file a) (Name (at (directory_id a)) (id_of found))) no_file_yet
      ∙ ap (λ m. record { next = o.next + 1 + 1; live = (o.live ++ the_directory a ∷ []) ++ record (the_file a []) { id = at m } ∷ [] }) next_is
    where
      next_is : o.next + 1 ≡ file_id a
      next_is = omega (arith, filed.next)

  both_made : fold (with_file biba_alone) o (load_directory a ∷ load_file a ∷ []) ≡ pushed (pushed o (the_directory a)) (the_file a [])
  both_made = ap (λ (x : Entities). with_file biba_alone x (load_file a)) directory_made ∙ file_made

  file_fits : FitsLoad (2 * t + 1) (the_file a []).what
  file_fits dir same = let is : at (directory_id a) ≡ dir = cc in omega (arith, ap (λ (i : Id). i.0) is)

  file_next : file_id a ≡ o.next + 1
  file_next = omega (arith, filed.next)

  both_fixed : IsFixed t a 0 (pushed (pushed o (the_directory a)) (the_file a [])) (λ u. [])
  both_fixed = push_fixed t a 0 (pushed o (the_directory a)) (λ u. []) (the_file a []) file_next file_fits directory_fixed

  file_elsewhere : (u : ℕ) (name : List ℕ) → u ≢ a → is_one_named (is_entry (at (directory_id u))) name (the_file a []) ≡ false
  file_elsewhere u name other =
      ap (λ (b : Bool). b && bytes_eq file_name name) (ids_differ (directory_id a) (directory_id u) (λ same. other (omega arith)))

  new_directory : IsDirectory a (pushed (pushed o (the_directory a)) (the_file a []))
  new_directory =
      record {
        named = find_push_found (is_one_named (is_entry (at 0)) (directory_name a)) (pushed o (the_directory a)).live (the_file a []) (the_directory a) directory_named;
        here = find_push_found (has_id (at (directory_id a))) (pushed o (the_directory a)).live (the_file a []) (the_directory a) directory_here;
      }

  new_file : IsFile a [] (pushed (pushed o (the_directory a)) (the_file a []))
  new_file =
      let here : nat_eq (directory_id a) (directory_id a) ≡ true = eq-eqb (directory_id a) (directory_id a) refl in
      let hit : is_one_named (is_entry (at (directory_id a))) file_name (the_file a []) ≡ true = ap (λ (b : Bool). b && bytes_eq file_name file_name) here in
      record {
        named = find_push_hit (is_one_named (is_entry (at (directory_id a))) file_name) (pushed o (the_directory a)).live (the_file a []) no_file_yet hit;
        here = find_push_hit (has_id (at (file_id a))) (pushed o (the_directory a)).live (the_file a [])
            (find_beyond (at (file_id a)) 0 (o.next + 1) (pushed o (the_directory a)).live (omega (arith, filed.next)) directory_fixed.rising)
            (eq-eqb (file_id a) (file_id a) refl);
      }

  filed_on : IsFiled t (suc a) (pushed (pushed o (the_directory a)) (the_file a []))
  filed_on =
      record {
        fixed =
            record {
              rising = both_fixed.rising;
              root = both_fixed.root;
              directories = λ u below. one_directory u below (nat_eq u a) refl;
              files = λ u below. one_file u below (nat_eq u a) refl;
              tasks = λ u below. absurd (omega arith);
              fit = both_fixed.fit;
            };
        next = omega (arith, filed.next);
        long = omega (arith, length-append (pushed o (the_directory a)).live (the_file a [] ∷ []), length-append o.live (the_directory a ∷ []), filed.long);
        free = λ u late few_u.
            find_push_miss (is_one_named (is_entry (at 0)) (directory_name u)) (pushed o (the_directory a)).live (the_file a [])
            (ap (λ (b : Bool). b && bytes_eq file_name (directory_name u)) (ids_differ (directory_id a) 0 (λ same. omega arith)))
            ∙ find_push_miss (is_one_named (is_entry (at 0)) (directory_name u)) o.live (the_directory a) (directories_differ a u (omega arith) few_u (λ same. omega arith))
            ∙ filed.free u (omega arith) few_u;
        bare = λ u late name.
            find_push_miss (is_one_named (is_entry (at (directory_id u))) name) (pushed o (the_directory a)).live (the_file a []) (file_elsewhere u name (λ same. omega arith))
            ∙ find_push_miss (is_one_named (is_entry (at (directory_id u))) name) o.live (the_directory a) (directory_apart u name)
            ∙ filed.bare u (omega arith) name;
        scratch = λ u j below. one_scratch u j below (nat_eq u a) refl;
        names = λ u below. one_names u below (nat_eq u a) refl;
        empty = λ u late. names_of u [] (λ same. omega arith) (filed.empty u (omega arith));
        files = all_push (λ e. is_process e.what ≡ false) (pushed o (the_directory a)).live (the_file a [])
            (all_push (λ e. is_process e.what ≡ false) o.live (the_directory a) filed.files refl) refl;
      }
    where
      one_directory : (u : ℕ) → u < suc a → (b : Bool) → nat_eq u a ≡ b → IsDirectory u (pushed (pushed o (the_directory a)) (the_file a []))
      one_directory u below true is =
          let here : u ≡ a = grind (arith, nat_tests) in
          subst (λ v. IsDirectory v (pushed (pushed o (the_directory a)) (the_file a []))) (sym here) new_directory
      one_directory u below false differs =
          let other : u ≢ a = grind (arith, nat_tests) in both_fixed.directories u (omega (arith, other))

      -- another directory
      names_of : (u : ℕ) (held : List (List ℕ)) → u ≢ a → entry_names (at (directory_id u)) o.live ≡ held
          → entry_names (at (directory_id u)) (pushed (pushed o (the_directory a)) (the_file a [])).live ≡ held
      names_of u held other is =
          names_push_other (at (directory_id u)) (pushed o (the_directory a)).live (the_file a []) (ids_differ (directory_id a) (directory_id u) (λ same. other (omega arith)))
          ∙ names_push_other (at (directory_id u)) o.live (the_directory a) (ids_differ 0 (directory_id u) (λ same. omega arith)) ∙ is

      one_names : (u : ℕ) → u < suc a → (b : Bool) → nat_eq u a ≡ b
          → entry_names (at (directory_id u)) (pushed (pushed o (the_directory a)) (the_file a [])).live ≡ file_name ∷ []
      one_names u below true is =
          let here : u ≡ a = grind (arith, nat_tests) in
          subst (λ v. entry_names (at (directory_id v)) (pushed (pushed o (the_directory a)) (the_file a [])).live ≡ file_name ∷ []) (sym here)
          (names_push (at (directory_id a)) (pushed o (the_directory a)).live (the_file a []) (eq-eqb (directory_id a) (directory_id a) refl)
          ∙ ap (λ (ns : List (List ℕ)). ns ++ file_name ∷ [])
          (names_push_other (at (directory_id a)) o.live (the_directory a) (ids_differ 0 (directory_id a) (λ same. omega arith)) ∙ filed.empty a (omega arith)))
      one_names u below false differs =
          let other : u ≢ a = grind (arith, nat_tests) in names_of u (file_name ∷ []) other (filed.names u (omega (arith, other)))

      one_file : (u : ℕ) → u < suc a → (b : Bool) → nat_eq u a ≡ b → IsFile u [] (pushed (pushed o (the_directory a)) (the_file a []))
      one_file u below true is =
          let here : u ≡ a = grind (arith, nat_tests) in
          subst (λ v. IsFile v [] (pushed (pushed o (the_directory a)) (the_file a []))) (sym here) new_file
      one_file u below false differs =
          let other : u ≢ a = grind (arith, nat_tests) in both_fixed.files u (omega (arith, other))

      one_scratch : (u j : ℕ) → u < suc a → (b : Bool) → nat_eq u a ≡ b
          → find (is_one_named (is_entry (at (directory_id u))) (scratch_name j)) (pushed (pushed o (the_directory a)) (the_file a [])).live ≡ None
      one_scratch u j below true is =
          let here : u ≡ a = grind (arith, nat_tests) in
          subst (λ v. find (is_one_named (is_entry (at (directory_id v))) (scratch_name j)) (pushed (pushed o (the_directory a)) (the_file a [])).live ≡ None) (sym here)
          (find_push_miss (is_one_named (is_entry (at (directory_id a))) (scratch_name j)) (pushed o (the_directory a)).live (the_file a [])
          (ap (λ (b : Bool). nat_eq (directory_id a) (directory_id a) && b) (file_no_scratch j) ∙ and_none (nat_eq (directory_id a) (directory_id a)))
          ∙ find_push_miss (is_one_named (is_entry (at (directory_id a))) (scratch_name j)) o.live (the_directory a) (directory_apart a (scratch_name j))
          ∙ filed.bare a (omega arith) (scratch_name j))
      one_scratch u j below false differs =
          let other : u ≢ a = grind (arith, nat_tests) in
          find_push_miss (is_one_named (is_entry (at (directory_id u))) (scratch_name j)) (pushed o (the_directory a)).live (the_file a []) (file_elsewhere u (scratch_name j) other)
          ∙ find_push_miss (is_one_named (is_entry (at (directory_id u))) (scratch_name j)) o.live (the_directory a) (directory_apart u (scratch_name j))
          ∙ filed.scratch u j (omega (arith, other))

all_filed : (t a : ℕ) → t ≤ 16 → a ≤ t → IsFiled t a (fold (with_file biba_alone) (root_alone biba_alone) (load_files a))
unfolding load_files
all_filed t zero few within = root_filed t
all_filed t (suc a) few within =
    let before = all_filed t a few (omega arith) in
    subst (IsFiled t (suc a))
    (sym (fold-append (with_file biba_alone) (root_alone biba_alone) (load_files a) (load_directory a ∷ load_file a ∷ [])
    ∙ both_made t a (fold (with_file biba_alone) (root_alone biba_alone) (load_files a)) few (omega arith) before))
    (filed_on t a (fold (with_file biba_alone) (root_alone biba_alone) (load_files a)) few (omega arith) before)

-- Tasks

-- the processes of so many tasks are made too
record IsTasked (t b : ℕ) (o : Entities) : Type 0 where
  fixed : IsFixed t t b o (λ u. [])
  next : o.next ≡ 2 * t + 1 + b
  long : length o.live ≡ 2 * t + 1 + b
  free : (u : ℕ) → b ≤ u → u < 16 → find (is_one_named is_process (task_name u)) o.live ≡ None
  scratch : (u j : ℕ) → u < t → find (is_one_named (is_entry (at (directory_id u))) (scratch_name j)) o.live ≡ None
  names : (u : ℕ) → u < t → entry_names (at (directory_id u)) o.live ≡ file_name ∷ []

no_process : (name : List ℕ) (e : LiveEntity) → is_process e.what ≡ false → is_one_named is_process name e ≡ false
no_process name e other = ap (λ (b : Bool). b && bytes_eq e.name name) other

none_tasked : (t : ℕ) (o : Entities) → IsFiled t t o → IsTasked t 0 o
none_tasked t o filed =
    record {
      fixed = filed.fixed;
      next = omega (arith, filed.next);
      long = omega (arith, filed.long);
      free = λ u late few.
          all_pass (is_one_named is_process (task_name u)) o.live
          (all_from (λ e. is_process e.what ≡ false) (λ e. is_one_named is_process (task_name u) e ≡ false) o.live (no_process (task_name u)) filed.files);
      scratch = filed.scratch;
      names = filed.names;
    }

module _ (n t b : ℕ) (o : Entities) (few : t ≤ 16) (within : b < t) (tasked : IsTasked t b o) where
  task_made : with_task biba_alone o (load_task n b) ≡ pushed o (the_task t b)
  task_made =
      ap (λ (found : Option LiveEntity). with_task_at biba_alone o (load_task n b) (id_of found)) (tasked.free b (omega arith) (omega arith))
      ∙ ap (λ m. record { next = o.next + 1; live = o.live ++ record (the_task t b) { id = at m } ∷ [] }) tasked.next

  task_fixed : IsFixed t t b (pushed o (the_task t b)) (λ u. [])
  task_fixed = push_fixed t t b o (λ u. []) (the_task t b) (sym tasked.next) refl tasked.fixed

  new_task : IsTask t b (pushed o (the_task t b))
  new_task =
      record {
        named = find_push_hit (is_one_named is_process (task_name b)) o.live (the_task t b) (tasked.free b (omega arith) (omega arith))
            (bytes_same (task_name b) (task_name b) refl);
        here = find_push_hit (has_id (at (task_id t b))) o.live (the_task t b)
            (find_beyond (at (task_id t b)) 0 o.next o.live (omega (arith, tasked.next)) tasked.fixed.rising) (eq-eqb (task_id t b) (task_id t b) refl);
      }

  tasked_on : IsTasked t (suc b) (pushed o (the_task t b))
  tasked_on =
      record {
        fixed =
            record {
              rising = task_fixed.rising;
              root = task_fixed.root;
              directories = task_fixed.directories;
              files = task_fixed.files;
              tasks = λ u below. one u below (nat_eq u b) refl;
              fit = task_fixed.fit;
            };
        next = omega (arith, tasked.next);
        long = omega (arith, length-append o.live (the_task t b ∷ []), tasked.long);
        free = λ u late few_u.
            find_push_miss (is_one_named is_process (task_name u)) o.live (the_task t b) (tasks_differ b u (omega arith) few_u (λ same. omega arith))
            ∙ tasked.free u (omega arith) few_u;
        scratch = λ u j below. find_push_miss (is_one_named (is_entry (at (directory_id u))) (scratch_name j)) o.live (the_task t b) refl ∙ tasked.scratch u j below;
        names = λ u below. names_push_other (at (directory_id u)) o.live (the_task t b) refl ∙ tasked.names u below;
      }
    where
      one : (u : ℕ) → u < suc b → (c : Bool) → nat_eq u b ≡ c → IsTask t u (pushed o (the_task t b))
      one u below true is =
          let here : u ≡ b = grind (arith, nat_tests) in subst (λ v. IsTask t v (pushed o (the_task t b))) (sym here) new_task
      one u below false differs = let other : u ≢ b = grind (arith, nat_tests) in task_fixed.tasks u (omega (arith, other))

all_tasked : (n t b : ℕ) (o : Entities) → t ≤ 16 → b ≤ t → IsTasked t 0 o → IsTasked t b (fold (with_task biba_alone) o (load_tasks n b))
unfolding load_tasks
all_tasked n t zero o few within none = none
all_tasked n t (suc b) o few within none =
    let before = all_tasked n t b o few (omega arith) none in
    subst (IsTasked t (suc b))
    (sym (fold-append (with_task biba_alone) o (load_tasks n b) (load_task n b ∷ [])
    ∙ task_made n t b (fold (with_task biba_alone) o (load_tasks n b)) few (omega arith) before))
    (tasked_on n t b (fold (with_task biba_alone) o (load_tasks n b)) few (omega arith) before)

-- The opening

abbrev first_own : ℕ → Own
first_own u = record { content = []; held = λ j. false; names = file_name ∷ [] }

none_held : (t : ℕ) → total t (λ u. held_count (first_own u).held) ≡ 0
none_held zero = refl
none_held (suc t) = omega (arith, none_held t)

tasked_stands : (t : ℕ) (o : Entities) → IsTasked t t o → Stands t o first_own
tasked_stands t o tasked =
    record {
      next = omega (arith, tasked.next);
      fixed = tasked.fixed;
      names = tasked.names;
      scratch = λ u j within few. tasked.scratch u j within;
      count = omega (arith, tasked.long, none_held t);
    }

opening_is : (n t : ℕ) → (opening_state (generated n t)).objects
    ≡ fold (with_task biba_alone) (fold (with_file biba_alone) (root_alone biba_alone) (load_files t)) (load_tasks n t)
unfolding generated
opening_is n t = refl

opening_specs : (n t : ℕ) → (opening_state (generated n t)).specs ≡ biba_alone
unfolding generated
opening_specs n t = refl

opening_stands : (n t : ℕ) → t ≤ 16 → Stands t (opening_state (generated n t)).objects first_own
opening_stands n t few =
    subst (λ (o : Entities). Stands t o first_own) (sym (opening_is n t))
    (tasked_stands t (fold (with_task biba_alone) (fold (with_file biba_alone) (root_alone biba_alone) (load_files t)) (load_tasks n t))
    (all_tasked n t t (fold (with_file biba_alone) (root_alone biba_alone) (load_files t)) few (omega arith)
    (none_tasked t (fold (with_file biba_alone) (root_alone biba_alone) (load_files t)) (all_filed t t few (omega arith)))))

none_answered : (n t u : ℕ) → answered_at (opening_run (generated n t)).progress u ≡ 0
none_answered n t u = ap answered (progress_at-first (generated n t).tasks u)

first_after : (u i : ℕ) → i ≡ 0 → own_after u i ≡ first_own u
unfolding own_after
first_after u zero is = refl
first_after u (suc i) is = absurd (omega arith)

pub opening_good : (n t : ℕ) → n ≤ 4096 → t ≤ 16 → IsGood n t (opening_run (generated n t))
opening_good n t short few =
    record {
      few = few;
      short = short;
      specs = opening_specs n t;
      places = length-map (generated n t).tasks (λ (x : Task). first_progress) ∙ task_count n t;
      within = λ u. omega (arith, none_answered n t u);
      stands = stands_same t (opening_state (generated n t)).objects first_own (λ u. own_after u (answered_at (opening_run (generated n t)).progress u))
          (λ u. first_after u (answered_at (opening_run (generated n t)).progress u) (none_answered n t u)) (opening_stands n t few);
    }

none_tallied : (e : Errno) (t : ℕ) → total t (λ u. tally_of e u 0) ≡ 0
none_tallied e zero = refl
none_tallied e (suc t) = omega (arith, none_tallied e t)

pub opening_tally : (n t : ℕ) (e : Errno) → tally e t (opening_run (generated n t)).progress ≡ 0
opening_tally n t e =
    total_same t (λ u. tally_of e u (answered_at (opening_run (generated n t)).progress u)) (λ u. tally_of e u 0) (λ u within. ap (tally_of e u) (none_answered n t u))
    ∙ none_tallied e t
