-- The script of a load: its tasks and lines by their numbers, and that it is well formed.
use Rattle.std.proofs.Common.{◌≡◌, ◌≢◌, ℕ, zero, suc, ◌<◌, ◌≤◌, ◌+◌, ◌/◌, ◌%◌, nat_eq, nat_lt, Bool, true, false, cond, ◌||◌, List, [], ◌∷◌, ◌++◌, Option, Some, None, option_map, unwrap_or, slice_get, length, get_or, length-append, append_assoc, refl, ap, sym, ◌∙◌, subst, arith, All, AllPairs}
use Rattle.std.specs.Cmp.Lexicographic.{pointwise}
use Rattle.std.specs.List.{list_any, sum_by}
use Rattle.std.specs.Str.{bytes_eq}
use Rattle.std.proofs.lemmas.Bool.Decides.{nat_tests}
use Rattle.std.proofs.lemmas.Bool.{or_right}
use Rattle.std.proofs.lemmas.List.Elements.{All-nil, All-cons, All-push}
use Rattle.std.proofs.lemmas.List.Folds.{list_any-append}
use Rattle.std.proofs.lemmas.List.Sums.{sum_by-le}
use Rattle.std.proofs.lemmas.Option.{get_or_from_slice_get}
use Rattle.std.proofs.lemmas.List.Quantifiers.{all_pairs_push}
use Rattle.mf_errno.specs.declared.module.Module.TheVariants.{Biba}
use Rattle.mf_calls.specs.declared.script.Line.{Line}
use Rattle.mf_calls.specs.declared.script.Task.{Task}
use Rattle.mf_calls.specs.declared.script.FileLine.{FileLine}
use Rattle.mf_calls.specs.Names.{is_component}
use Rattle.mf_calls.specs.Paths.{directory_of, has_directory, is_directory_at}
use Rattle.mf_item.specs.declared.view.Kind.TheVariants as kinds
use Rattle.mf_calls.specs.WellFormed.{AreBoots, rule_list_count, IsPath, IsText, IsFormedFile, AreInDirectories, IsFormedCall, IsFormedLine, IsFormedTask, IsWellFormed}
use Rattle.mf_calls.specs.Tasks.{lines_of, lists_rules, name_of}
use Rattle.mf_calls.specs.Generated.{LoadCall, load_call, drawn, drawn_at, number_at, call_of, load_line, load_lines, load_directory, load_file, load_files, load_task, load_tasks, task_grade, is_even, task_name, directory_name, file_name, scratch_name, directory_path, path_under, generated}
use Rattle.mf_calls.specs.Generated.{LoadCall as load}
use Rattle.mf_calls.proofs.Directories.{same_path, last_in_directory}
use Rattle.mf_calls.proofs.LoadLabels.{grade_asked, equal_asked}
use Rattle.mf_calls.proofs.LoadNames.{task_named, directory_component, scratch_component, same_task, same_directory}

-- Lists by places

-- a list of so many elements, each of which its place determines
pub record IsTable {A : Type 0} (f : ℕ → A) (xs : List A) (n : ℕ) : Type 0 where
  pub long : length xs ≡ n
  pub get : (i : ℕ) → i < n → slice_get xs i ≡ Some (f i)
  pub past : (i : ℕ) → n ≤ i → slice_get xs i ≡ None

push_before : {A : Type 0} (xs : List A) (x : A) (i : ℕ) → i < length xs → slice_get (xs ++ x ∷ []) i ≡ slice_get xs i
push_before [] x i within = absurd (omega arith)
push_before (y ∷ xs) x zero within = refl
push_before (y ∷ xs) x (suc i) within = push_before xs x i (omega arith)

push_at : {A : Type 0} (xs : List A) (x : A) (i : ℕ) → i ≡ length xs → slice_get (xs ++ x ∷ []) i ≡ Some x
push_at [] x zero is = refl
push_at [] x (suc i) is = absurd (omega arith)
push_at (y ∷ xs) x zero is = absurd (omega arith)
push_at (y ∷ xs) x (suc i) is = push_at xs x i (omega arith)

push_past : {A : Type 0} (xs : List A) (x : A) (i : ℕ) → length xs < i → slice_get (xs ++ x ∷ []) i ≡ None
push_past [] x zero late = absurd (omega arith)
push_past [] x (suc i) late = refl
push_past (y ∷ xs) x zero late = absurd (omega arith)
push_past (y ∷ xs) x (suc i) late = push_past xs x i (omega arith)

table_push : {A : Type 0} (f : ℕ → A) (xs : List A) (n : ℕ) → IsTable f xs n → IsTable f (xs ++ f n ∷ []) (suc n)
table_push f xs n table =
    record {
      long = omega (arith, length-append xs (f n ∷ []), table.long);
      get = λ i within. one i within (nat_eq i n) refl;
      past = λ i late. push_past xs (f n) i (omega (arith, table.long));
    }
  where
    one : (i : ℕ) → i < suc n → (b : Bool) → nat_eq i n ≡ b → slice_get (xs ++ f n ∷ []) i ≡ Some (f i)
    one i within true is =
        let last : i ≡ n = grind (arith, nat_tests) in push_at xs (f n) i (omega (arith, table.long)) ∙ ap (λ m. Some (f m)) (sym last)
    one i within false differs =
        let other : i ≢ n = grind (arith, nat_tests) in
        let below : i < n = omega (arith, other) in
        push_before xs (f n) i (omega (arith, table.long)) ∙ table.get i below

pub lines_table : (k n : ℕ) → IsTable (λ i. load_line k (drawn_at k i)) (load_lines k n) n
unfolding load_lines
lines_table k zero = record { long = refl; get = λ i within. absurd (omega arith); past = λ i late. refl }
lines_table k (suc n) = table_push (λ i. load_line k (drawn_at k i)) (load_lines k n) n (lines_table k n)

pub tasks_table : (n t : ℕ) → IsTable (load_task n) (load_tasks n t) t
unfolding load_tasks
tasks_table n zero = record { long = refl; get = λ i within. absurd (omega arith); past = λ i late. refl }
tasks_table n (suc t) = table_push (load_task n) (load_tasks n t) t (tasks_table n t)

-- The tasks and lines

pub tasks_are : (n t : ℕ) → (generated n t).tasks ≡ load_tasks n t
unfolding generated
tasks_are n t = refl

pub task_count : (n t : ℕ) → length (generated n t).tasks ≡ t
task_count n t = ap (λ (ts : List Task). length ts) (tasks_are n t) ∙ (tasks_table n t).long

task_at : (n t u : ℕ) → u < t → slice_get (generated n t).tasks u ≡ Some (load_task n u)
task_at n t u within = ap (λ (ts : List Task). slice_get ts u) (tasks_are n t) ∙ (tasks_table n t).get u within

pub name_at : (n t u : ℕ) → u < t → name_of (generated n t) u ≡ task_name u
name_at n t u within = ap (λ (x : Option Task). unwrap_or (option_map (λ (task : Task). task.name) x) []) (task_at n t u within)

pub lines_at : (n t u : ℕ) → u < t → lines_of (generated n t) u ≡ load_lines u n
lines_at n t u within = ap (λ (x : Option Task). unwrap_or (option_map (λ (task : Task). task.lines) x) []) (task_at n t u within)

no_lines : (n t u : ℕ) → t ≤ u → lines_of (generated n t) u ≡ []
no_lines n t u late =
    ap (λ (ts : List Task). unwrap_or (option_map (λ (task : Task). task.lines) (slice_get ts u)) []) (tasks_are n t)
    ∙ ap (λ (x : Option Task). unwrap_or (option_map (λ (task : Task). task.lines) x) []) ((tasks_table n t).past u late)

pub line_at : (n t u i : ℕ) → u < t → i < n → slice_get (lines_of (generated n t) u) i ≡ Some (load_line u (drawn_at u i))
line_at n t u i within below = ap (λ (ls : List Line). slice_get ls i) (lines_at n t u within) ∙ (lines_table u n).get i below

pub line_past : (n t u i : ℕ) → u < t → n ≤ i → slice_get (lines_of (generated n t) u) i ≡ None
line_past n t u i within late = ap (λ (ls : List Line). slice_get ls i) (lines_at n t u within) ∙ (lines_table u n).past i late

line_beyond : (n t u i : ℕ) → t ≤ u → slice_get (lines_of (generated n t) u) i ≡ None
line_beyond n t u i late = ap (λ (ls : List Line). slice_get ls i) (no_lines n t u late)

-- the task of a line is one of the script's, and the line is one of its lines
pub record IsLineOf (n t u i : ℕ) (line : Line) : Type 0 where
  pub task : u < t
  pub index : i < n
  pub is : line ≡ load_line u (drawn_at u i)

pub some_line : (n t u i : ℕ) (line : Line) → slice_get (lines_of (generated n t) u) i ≡ Some line → IsLineOf n t u i line
some_line n t u i line some = one (nat_lt u t) (nat_lt i n) refl refl
  where
    one : (b c : Bool) → nat_lt u t ≡ b → nat_lt i n ≡ c → IsLineOf n t u i line
    one true true is_task is_index =
        let task : u < t = grind (arith, nat_tests) in
        let index : i < n = grind (arith, nat_tests) in
        let here : slice_get (lines_of (generated n t) u) i ≡ Some (load_line u (drawn_at u i)) = line_at n t u i task index in
        record { task = task; index = index; is = cc }
    one true false is_task late =
        let task : u < t = grind (arith, nat_tests) in
        let past : n ≤ i = grind (arith, nat_tests) in
        let none : slice_get (lines_of (generated n t) u) i ≡ None = line_past n t u i task past in
        cc
    one false c beyond index =
        let past : t ≤ u = grind (arith, nat_tests) in
        let none : slice_get (lines_of (generated n t) u) i ≡ None = line_beyond n t u i past in
        cc

-- what is so of each element of a table
all_in : {A : Type 0} (P : A → Type 0) (f : ℕ → A) (n : ℕ) (xs : ℕ → List A) → All P (xs 0) → ((k : ℕ) → k < n → P (f k)) → ((k : ℕ) → xs (suc k) ≡ xs k ++ f k ∷ [])
    → (k : ℕ) → k ≤ n → All P (xs k)
all_in P f n xs none each more zero within = none
all_in P f n xs none each more (suc k) within =
    subst (All P) (sym (more k)) (All-push P (xs k) (f k) (all_in P f n xs none each more k (omega arith)) (each k (omega arith)))

-- Draws

-- what a line draws: one of four files
abbrev pub IsDrawn : LoadCall → Type 0
IsDrawn load.Write = Unit {0}
IsDrawn load.Read = Unit {0}
IsDrawn load.Stat = Unit {0}
IsDrawn load.Readdir = Unit {0}
IsDrawn (load.Create j) = j < 4
IsDrawn (load.Unlink j) = j < 4

drawn_by : (a b c d e : Bool) (j : ℕ) → j < 4
    → IsDrawn (cond a load.Write (cond b load.Read (cond c load.Stat (cond d load.Readdir (cond e (load.Create j) (load.Unlink j))))))
drawn_by true b c d e j few = tt
drawn_by false true c d e j few = tt
drawn_by false false true d e j few = tt
drawn_by false false false true e j few = tt
drawn_by false false false false true j few = few
drawn_by false false false false false j few = few

kind_drawn : (kind j : ℕ) → j < 4 → IsDrawn (load_call kind j)
kind_drawn kind j few = drawn_by (nat_eq kind 0) (nat_eq kind 1) (nat_eq kind 2) (nat_eq kind 3) (nat_eq kind 4) j few

rest_few : (m : ℕ) → m % 4 < 4
rest_few m = omega arith

pub all_drawn : (x : ℕ) → IsDrawn (drawn x)
unfolding drawn
all_drawn x = kind_drawn (x / 65536 % 6) (x / 65536 / 6 % 4) (rest_few (x / 65536 / 6))

-- Paths, lines and files

directory_is_path : (k : ℕ) → k < 100 → IsPath (directory_path k)
directory_is_path k few =
    record { few = omega arith; each = All-cons (λ name. is_component name ≡ true) (directory_name k) [] (directory_component k few) (All-nil _) }

is_path_in : (k : ℕ) (name : List ℕ) → k < 100 → is_component name ≡ true → IsPath (path_under k name)
is_path_in k name few is =
    record {
      few = omega arith;
      each = All-cons (λ w. is_component w ≡ true) (directory_name k) (name ∷ []) (directory_component k few)
          (All-cons (λ w. is_component w ≡ true) name [] is (All-nil _));
    }

call_formed : (k : ℕ) (what : LoadCall) → k < 100 → IsDrawn what → IsFormedCall (call_of k what)
call_formed k load.Write few drawn = (is_path_in k file_name few refl, record { few = omega arith; each = All-cons (λ byte. byte < 256) 120 [] (omega arith) (All-nil _) })
call_formed k load.Read few drawn = is_path_in k file_name few refl
call_formed k load.Stat few drawn = is_path_in k file_name few refl
call_formed k load.Readdir few drawn = directory_is_path k few
call_formed k (load.Create j) few drawn = is_path_in k (scratch_name j) few (scratch_component j (omega (arith, drawn)))
call_formed k (load.Unlink j) few drawn = is_path_in k (scratch_name j) few (scratch_component j (omega (arith, drawn)))

lines_more : (k i : ℕ) → load_lines k (suc i) ≡ load_lines k i ++ load_line k (drawn_at k i) ∷ []
unfolding load_lines
lines_more k i = refl

no_line : (k : ℕ) → All IsFormedLine (load_lines k 0)
unfolding load_lines
no_line k = All-nil _

lines_formed : (k n : ℕ) → k < 100 → All IsFormedLine (load_lines k n)
lines_formed k n few =
    all_in IsFormedLine (λ i. load_line k (drawn_at k i)) n (load_lines k) (no_line k)
    (λ i within. record { child = tt; call = call_formed k (drawn_at k i) few (all_drawn (number_at k (suc i))) }) (lines_more k) n (omega arith)

task_formed : (n k : ℕ) → n ≤ 4096 → k < 100 → IsFormedTask (Biba ∷ []) (load_task n k)
task_formed n k short few =
    record {
      name = task_named k few;
      cred = record { real = refl; saved = refl; fits = omega arith; some = omega arith; few = omega arith; each = All-cons (λ group. group ≤ 4294967295) 0 [] (omega arith) (All-nil _) };
      label = grade_asked kinds.Process (task_grade k) (by_grade (is_even k));
      few = omega (arith, (lines_table k n).long);
      lines = lines_formed k n few;
    }
  where
    by_grade : (b : Bool) → cond b 10 20 ≤ 65535
    by_grade true = omega arith
    by_grade false = omega arith

tasks_more : (n t : ℕ) → load_tasks n (suc t) ≡ load_tasks n t ++ load_task n t ∷ []
unfolding load_tasks
tasks_more n t = refl

no_task : (n : ℕ) → All (IsFormedTask (Biba ∷ [])) (load_tasks n 0)
unfolding load_tasks
no_task n = All-nil _

tasks_formed : (n t : ℕ) → n ≤ 4096 → t ≤ 16 → All (IsFormedTask (Biba ∷ [])) (load_tasks n t)
tasks_formed n t short few =
    all_in (IsFormedTask (Biba ∷ [])) (load_task n) t (load_tasks n) (no_task n) (λ k within. task_formed n k short (omega arith)) (tasks_more n) t (omega arith)

-- No line of a load lists the rules.

lists_nothing : (k : ℕ) (what : LoadCall) → lists_rules (call_of k what) ≡ false
lists_nothing k load.Write = refl
lists_nothing k load.Read = refl
lists_nothing k load.Stat = refl
lists_nothing k load.Readdir = refl
lists_nothing k (load.Create j) = refl
lists_nothing k (load.Unlink j) = refl

ListsNone : Line → Type 0
ListsNone line = cond (lists_rules line.call) 1 0 ≤ 0

line_lists_none : (k : ℕ) (what : LoadCall) → ListsNone (load_line k what)
unfolding ListsNone
line_lists_none k what = let none : cond {A = ℕ} (lists_rules (call_of k what)) 1 0 ≡ 0 = ap {B = ℕ} (λ b. cond b 1 0) (lists_nothing k what) in omega (arith, none)

no_line_listed : (k : ℕ) → All ListsNone (load_lines k 0)
unfolding load_lines
no_line_listed k = All-nil _

task_lists_none : (n k : ℕ) → rule_list_count (load_task n k) ≤ 0
unfolding ListsNone
task_lists_none n k =
    omega (
      arith,
      sum_by-le (λ line. cond (lists_rules line.call) 1 0) 0 (load_lines k n)
          (all_in ListsNone (λ i. load_line k (drawn_at k i)) n (load_lines k) (no_line_listed k) (λ i within. line_lists_none k (drawn_at k i)) (lines_more k) n (omega arith)),
    )

no_task_listed : (n : ℕ) → All (λ task. rule_list_count task ≤ 0) (load_tasks n 0)
unfolding load_tasks
no_task_listed n = All-nil _

load_lists_none : (n t : ℕ) → sum_by rule_list_count (load_tasks n t) ≤ 64
load_lists_none n t =
    omega (
      arith,
      sum_by-le rule_list_count 0 (load_tasks n t)
          (all_in (λ task. rule_list_count task ≤ 0) (load_task n) t (load_tasks n) (no_task_listed n) (λ k within. task_lists_none n k) (tasks_more n) t (omega arith)),
    )

-- names of tasks at two places differ
named_apart : (n t : ℕ) → t ≤ 16 → AllPairs (λ v w. v.name ≢ w.name) (load_tasks n t)
named_apart n t few i j d before within same =
    let long : length (load_tasks n t) ≡ t = (tasks_table n t).long in
    let first : get_or (load_tasks n t) i d ≡ load_task n i = get_or_from_slice_get (load_tasks n t) i (load_task n i) d ((tasks_table n t).get i (omega (arith, before, within, long))) in
    let second : get_or (load_tasks n t) j d ≡ load_task n j = get_or_from_slice_get (load_tasks n t) j (load_task n j) d ((tasks_table n t).get j (omega (arith, within, long))) in
    let is : i ≡ j = same_task i j (omega (arith, before, within, long)) (omega (arith, within, long)) (sym (ap (λ (x : Task). x.name) first) ∙ same ∙ ap (λ (x : Task). x.name) second) in
    omega (arith, is, before)

no_text : IsText 65536 []
no_text = record { few = omega arith; each = All-nil _ }

directory_formed : (k : ℕ) → k < 100 → IsFormedFile (Biba ∷ []) (load_directory k)
directory_formed k few =
    record { path = directory_is_path k few; below_root = omega arith; uid = omega arith; gid = omega arith; mode = omega arith; label = equal_asked kinds.Vnode; text = no_text; directory = λ is. refl }

file_formed : (k : ℕ) → k < 100 → IsFormedFile (Biba ∷ []) (load_file k)
file_formed k few =
    record { path = is_path_in k file_name few refl; below_root = omega arith; uid = omega arith; gid = omega arith; mode = omega arith; label = grade_asked kinds.Vnode 15 (omega arith); text = no_text; directory = λ is. refl }

-- All files

-- the path begins with the directory of one of the first tasks
abbrev IsBelow : ℕ → FileLine → Type 0
IsBelow k f = (u : ℕ) × (rest : List (List ℕ)) × (u < k) × (f.path ≡ directory_name u ∷ rest)

record AreLoaded (k : ℕ) (files : List FileLine) : Type 0 where
  long : length files ≡ k + k
  paths : AllPairs (λ f g. f.path ≢ g.path) files
  each : All (IsFormedFile (Biba ∷ [])) files
  directories : AreInDirectories [] files
  below : All (IsBelow k) files

first_of : (v w : List ℕ) (vs ws : List (List ℕ)) → v ∷ vs ≡ w ∷ ws → v ≡ w
first_of v w vs ws same = cc

other_path : (k : ℕ) (f : FileLine) (rest : List (List ℕ)) → k < 100 → IsBelow k f → f.path ≢ directory_name k ∷ rest
other_path k f rest few below same =
    let is : below.0 ≡ k = same_directory below.0 k (omega (arith, below.2)) few (first_of (directory_name below.0) (directory_name k) below.1 rest (sym below.3 ∙ same)) in
    omega (arith, below.2, is)

all_by : {A : Type 0} (P Q : A → Type 0) (xs : List A) → ((x : A) → P x → Q x) → All P xs → All Q xs
all_by P Q xs gives all i d within = gives (get_or xs i d) (all i d within)

in_root : (files : List FileLine) (k : ℕ) → has_directory files (directory_of (directory_path k)) ≡ true
in_root files k = refl

in_directory : (files : List FileLine) (k : ℕ) → has_directory (files ++ load_directory k ∷ []) (directory_of (path_under k file_name)) ≡ true
in_directory files k =
    let same : pointwise bytes_eq (directory_path k) (directory_path k) ≡ true = same_path (directory_path k) in
    list_any-append (is_directory_at (directory_path k)) files (load_directory k ∷ [])
    ∙ or_right (list_any (is_directory_at (directory_path k)) files) _ (ap (λ (b : Bool). b || false) same)

longer_path : (k : ℕ) → directory_path k ≢ path_under k file_name
longer_path k same = let lengths : 1 ≡ 2 = ap (λ (p : List (List ℕ)). length p) same in omega (arith, lengths)

loaded_more : (k : ℕ) (files : List FileLine) → k < 16 → AreLoaded k files → AreLoaded (suc k) ((files ++ load_directory k ∷ []) ++ load_file k ∷ [])
loaded_more k files few are =
    let with_one = files ++ load_directory k ∷ [] in
    record {
      long = omega (arith, are.long, length-append (files ++ load_directory k ∷ []) (load_file k ∷ []), length-append files (load_directory k ∷ []));
      paths = all_pairs_push (λ (f g : FileLine). f.path ≢ g.path) (files ++ load_directory k ∷ []) (load_file k)
          (all_pairs_push (λ (f g : FileLine). f.path ≢ g.path) files (load_directory k) are.paths
          (all_by (IsBelow k) (λ (f : FileLine). f.path ≢ directory_path k) files (λ f below. other_path k f [] (omega arith) below) are.below))
          (All-push (λ (f : FileLine). f.path ≢ path_under k file_name) files (load_directory k)
          (all_by (IsBelow k) (λ (f : FileLine). f.path ≢ path_under k file_name) files (λ f below. other_path k f (file_name ∷ []) (omega arith) below) are.below)
          (longer_path k));
      each = All-push (IsFormedFile (Biba ∷ [])) (files ++ load_directory k ∷ []) (load_file k)
          (All-push (IsFormedFile (Biba ∷ [])) files (load_directory k) are.each (directory_formed k (omega arith))) (file_formed k (omega arith));
      directories = last_in_directory [] (files ++ load_directory k ∷ []) (load_file k)
          (last_in_directory [] files (load_directory k) are.directories (in_root files k)) (in_directory files k);
      below = All-push (IsBelow (suc k)) (files ++ load_directory k ∷ []) (load_file k)
          (All-push (IsBelow (suc k)) files (load_directory k)
          (all_by (IsBelow k) (IsBelow (suc k)) files (λ f below. (below.0, below.1, omega (arith, below.2), below.3)) are.below)
          (k, [], omega arith, refl))
          (k, file_name ∷ [], omega arith, refl);
    }

files_loaded : (t : ℕ) → t ≤ 16 → AreLoaded t (load_files t)
unfolding load_files
files_loaded zero few =
    record { long = refl; paths = λ i j d before within. absurd (omega arith); each = All-nil _; directories = tt; below = All-nil _ }
files_loaded (suc k) few =
    subst (AreLoaded (suc k)) (append_assoc (load_files k) (load_directory k ∷ []) (load_file k ∷ []))
    (loaded_more k (load_files k) (omega arith) (files_loaded k (omega arith)))

-- The script

boots_formed : AreBoots (Biba ∷ [])
boots_formed = λ i j d before within. absurd (omega arith)

pub generated_formed : (n t : ℕ) → n ≤ 4096 → t ≤ 16 → IsWellFormed (generated n t)
unfolding generated
generated_formed n t short few =
    let loaded = files_loaded t few in
    record {
      boots = boots_formed;
      files = omega (arith, loaded.long);
      paths = loaded.paths;
      each_file = loaded.each;
      directories = loaded.directories;
      tasks = omega (arith, (tasks_table n t).long);
      names = named_apart n t few;
      each_task = tasks_formed n t short few;
      rule_lists = load_lists_none n t;
      steps = omega arith;
      each_step = All-nil _;
    }
