-- What a call of the load leaves as it is.
use Rattle.std.proofs.Common.{◌≡◌, ◌≢◌, ℕ, ◌<◌, ◌≤◌, ◌+◌, ◌*◌, nat_eq, Bool, true, false, cond, not, ◌&&◌, List, [], ◌∷◌, ◌++◌, Some, map, option_map, refl, ap, sym, ◌∙◌, subst, arith, eq-eqb}
use Rattle.std.specs.Prelude.{find}
use Rattle.std.specs.List.{AllByRecursion}
use Rattle.std.specs.Str.{bytes_eq}
use Rattle.std.proofs.lemmas.Bool.Decides.{nat_tests}
use Rattle.mf_objects.proofs.Entities.{changed_at}
use Rattle.mf_objects.specs.declared.id.Id.{Id}
use Rattle.mf_objects.specs.declared.entity.EntityData.{EntityData}
use Rattle.mf_objects.specs.declared.entity.EntityData.TheVariants.{Process, Vnode, Pipe, Socket}
use Rattle.mf_objects.specs.Live.{LiveEntity, Entities, has_id, is_process, is_entry, is_one_named}
use Rattle.mf_objects.specs.declared.descriptors.Fd.{Fd}
use Rattle.mf_objects.specs.Changes.{appended, with_what, with_change, without}
use Rattle.mf_objects.specs.Descriptors.{closed_on, with_fds, without_vnode}
use Rattle.mf_objects.specs.Titles.{entry_names}
use Rattle.mf_objects.proofs.Rising.{rising_push, rising_changed}
use Rattle.mf_calls.specs.Generated.{task_name, directory_name, file_name, scratch_name}
use Rattle.mf_objects.proofs.Finding.{find_push_miss, rising_filter}
use Rattle.mf_load.proofs.Finding.{find_push_found, find_map, find_filter_kept, find_filter_none, all_push, all_map, all_filter, names_map}
use Rattle.mf_load.proofs.Known.{at, directory_id, file_id, task_id, the_root, the_directory, the_file, the_task, the_scratch, IsFile, FitsLoad, IsFixed, HasScratch}

pub ids_differ : (a b : ℕ) → a ≢ b → nat_eq a b ≡ false
ids_differ a b other = grind (arith, nat_tests)

-- One entity more

abbrev pub pushed : Entities → LiveEntity → Entities
pushed o x = record { next = o.next + 1; live = o.live ++ x ∷ [] }

pub push_fixed : (t a b : ℕ) (o : Entities) (content : ℕ → List ℕ) (x : LiveEntity) → x.id.0 ≡ o.next → FitsLoad (2 * t + 1) x.what → IsFixed t a b o content
    → IsFixed t a b (pushed o x) content
push_fixed t a b o content x next fits fixed =
    record {
      rising = rising_push 0 o.next o.live x next fixed.rising;
      root = find_push_found (has_id (at 0)) o.live x the_root fixed.root;
      directories = λ u within.
          let is = fixed.directories u within in
          record {
            named = find_push_found (is_one_named (is_entry (at 0)) (directory_name u)) o.live x (the_directory u) is.named;
            here = find_push_found (has_id (at (directory_id u))) o.live x (the_directory u) is.here;
          };
      files = λ u within.
          let is = fixed.files u within in
          record {
            named = find_push_found (is_one_named (is_entry (at (directory_id u))) file_name) o.live x (the_file u (content u)) is.named;
            here = find_push_found (has_id (at (file_id u))) o.live x (the_file u (content u)) is.here;
          };
      tasks = λ u within.
          let is = fixed.tasks u within in
          record {
            named = find_push_found (is_one_named is_process (task_name u)) o.live x (the_task t u) is.named;
            here = find_push_found (has_id (at (task_id t u))) o.live x (the_task t u) is.here;
          };
      fit = all_push (λ e. FitsLoad (2 * t + 1) e.what) o.live x fixed.fit fits;
    }

-- another file of the load
pub push_scratch : (t u j : ℕ) (o : Entities) (x : LiveEntity) (held : Bool) → is_one_named (is_entry (at (directory_id u))) (scratch_name j) x ≡ false
    → HasScratch t u j o held → HasScratch t u j (pushed o x) held
push_scratch t u j o x false miss has = find_push_miss (is_one_named (is_entry (at (directory_id u))) (scratch_name j)) o.live x miss ∙ has
push_scratch t u j o x true miss has =
    record {
      id = has.id;
      late = has.late;
      named = find_push_found (is_one_named (is_entry (at (directory_id u))) (scratch_name j)) o.live x (the_scratch has.id u j) has.named;
      here = find_push_found (has_id (at has.id)) o.live x (the_scratch has.id u j) has.here;
      only = all_push (λ e. is_one_named (is_entry (at (directory_id u))) (scratch_name j) e ≡ true → e.id.0 ≡ has.id) o.live x has.only (λ passes. cc);
    }

-- A file is written

abbrev written : List ℕ → ℕ → LiveEntity → LiveEntity
written text n e = changed_at (with_what (appended text)) (at n) e

appended_entry : (text : List ℕ) (dir : Id) (w : EntityData) → is_entry dir (appended text w) ≡ is_entry dir w
appended_entry text dir (Process process) = refl
appended_entry text dir (Vnode vnode) = refl
appended_entry text dir (Pipe pipe) = refl
appended_entry text dir (Socket socket) = refl

appended_process : (text : List ℕ) (w : EntityData) → is_process (appended text w) ≡ is_process w
appended_process text (Process process) = refl
appended_process text (Vnode vnode) = refl
appended_process text (Pipe pipe) = refl
appended_process text (Socket socket) = refl

appended_fits : (text : List ℕ) (n : ℕ) (w : EntityData) → FitsLoad n w → FitsLoad n (appended text w)
appended_fits text n (Process process) fits = fits
appended_fits text n (Vnode vnode) fits = fits
appended_fits text n (Pipe pipe) fits = fits
appended_fits text n (Socket socket) fits = fits

written_child : (text : List ℕ) (n : ℕ) (dir : Id) (name : List ℕ) (e : LiveEntity) → is_one_named (is_entry dir) name (written text n e) ≡ is_one_named (is_entry dir) name e
written_child text n dir name e = one (has_id (at n) e)
  where
    one : (b : Bool) → is_one_named (is_entry dir) name (cond b (with_what (appended text) e) e) ≡ is_one_named (is_entry dir) name e
    one true = ap (λ (c : Bool). c && bytes_eq e.name name) (appended_entry text dir e.what)
    one false = refl

written_entry : (text : List ℕ) (n : ℕ) (dir : Id) (e : LiveEntity) → is_entry dir (written text n e).what ≡ is_entry dir e.what
written_entry text n dir e = one (has_id (at n) e)
  where
    one : (b : Bool) → is_entry dir (cond b (with_what (appended text) e) e).what ≡ is_entry dir e.what
    one true = appended_entry text dir e.what
    one false = refl

written_name : (text : List ℕ) (n : ℕ) (e : LiveEntity) → (written text n e).name ≡ e.name
written_name text n e = one (has_id (at n) e)
  where
    one : (b : Bool) → (cond b (with_what (appended text) e) e).name ≡ e.name
    one true = refl
    one false = refl

written_process : (text : List ℕ) (n : ℕ) (name : List ℕ) (e : LiveEntity) → is_one_named is_process name (written text n e) ≡ is_one_named is_process name e
written_process text n name e = one (has_id (at n) e)
  where
    one : (b : Bool) → is_one_named is_process name (cond b (with_what (appended text) e) e) ≡ is_one_named is_process name e
    one true = ap (λ (c : Bool). c && bytes_eq e.name name) (appended_process text e.what)
    one false = refl

written_id : (text : List ℕ) (n : ℕ) (id : Id) (e : LiveEntity) → has_id id (written text n e) ≡ has_id id e
written_id text n id e = one (has_id (at n) e)
  where
    one : (b : Bool) → has_id id (cond b (with_what (appended text) e) e) ≡ has_id id e
    one true = refl
    one false = refl

written_fits : (text : List ℕ) (n m : ℕ) (e : LiveEntity) → FitsLoad m e.what → FitsLoad m (written text n e).what
written_fits text n m e fits = one (has_id (at n) e)
  where
    one : (b : Bool) → FitsLoad m (cond b (with_what (appended text) e) e).what
    one true = appended_fits text m e.what fits
    one false = fits

written_same_id : (text : List ℕ) (n : ℕ) (e : LiveEntity) → (written text n e).id ≡ e.id
written_same_id text n e = one (has_id (at n) e)
  where
    one : (b : Bool) → (cond b (with_what (appended text) e) e).id ≡ e.id
    one true = refl
    one false = refl

-- another entity stays as it is
written_other : (text : List ℕ) (n : ℕ) (test : LiveEntity → Bool) (es : List LiveEntity) (x : LiveEntity) → ((e : LiveEntity) → test (written text n e) ≡ test e) → x.id.0 ≢ n
    → find test es ≡ Some x → find test (map (written text n) es) ≡ Some x
written_other text n test es x same other found =
    let miss : nat_eq x.id.0 n ≡ false = ids_differ x.id.0 n other in
    find_map test (written text n) es same ∙ ap (option_map (written text n)) found ∙ ap (λ (b : Bool). Some (cond b (with_what (appended text) x) x)) miss

-- the entity itself is written
written_there : (text : List ℕ) (n : ℕ) (test : LiveEntity → Bool) (es : List LiveEntity) (x : LiveEntity) → ((e : LiveEntity) → test (written text n e) ≡ test e) → x.id.0 ≡ n
    → find test es ≡ Some x → find test (map (written text n) es) ≡ Some (with_what (appended text) x)
written_there text n test es x same here found =
    let hit : nat_eq x.id.0 n ≡ true = eq-eqb x.id.0 n here in
    find_map test (written text n) es same ∙ ap (option_map (written text n)) found ∙ ap (λ (b : Bool). Some (cond b (with_what (appended text) x) x)) hit

-- the file of a task holds more bytes, and the others hold what they held
pub write_fixed : (t k : ℕ) (o : Entities) (content content' : ℕ → List ℕ) (text : List ℕ) → k < t → content' k ≡ content k ++ text
    → ((u : ℕ) → u ≢ k → content' u ≡ content u) → IsFixed t t t o content → IsFixed t t t (with_change (with_what (appended text)) o (at (file_id k))) content'
write_fixed t k o content content' text few more others fixed =
    record {
      rising = rising_changed (with_what (appended text)) (at (file_id k)) 0 o.next o.live (λ e. refl) fixed.rising;
      root = written_other text (file_id k) (has_id (at 0)) o.live the_root (written_id text (file_id k) (at 0)) (λ same. omega arith) fixed.root;
      directories = λ u within.
          let is = fixed.directories u within in
          record {
            named = written_other text (file_id k) (is_one_named (is_entry (at 0)) (directory_name u)) o.live (the_directory u)
                (written_child text (file_id k) (at 0) (directory_name u)) (λ same. omega arith) is.named;
            here = written_other text (file_id k) (has_id (at (directory_id u))) o.live (the_directory u)
                (written_id text (file_id k) (at (directory_id u))) (λ same. omega arith) is.here;
          };
      files = λ u within. file u within (nat_eq u k) refl;
      tasks = λ u within.
          let is = fixed.tasks u within in
          record {
            named = written_other text (file_id k) (is_one_named is_process (task_name u)) o.live (the_task t u)
                (written_process text (file_id k) (task_name u)) (λ same. omega arith) is.named;
            here = written_other text (file_id k) (has_id (at (task_id t u))) o.live (the_task t u)
                (written_id text (file_id k) (at (task_id t u))) (λ same. omega arith) is.here;
          };
      fit = all_map (λ e. FitsLoad (2 * t + 1) e.what) (written text (file_id k)) o.live (written_fits text (file_id k) (2 * t + 1)) fixed.fit;
    }
  where
    file : (u : ℕ) → u < t → (b : Bool) → nat_eq u k ≡ b → IsFile u (content' u) (with_change (with_what (appended text)) o (at (file_id k)))
    file u within true same =
        let is : u ≡ k = grind (arith, nat_tests) in
        let longer : content' u ≡ content u ++ text = subst (λ v. content' v ≡ content v ++ text) (sym is) more in
        let old = fixed.files u within in
        subst (λ (bytes : List ℕ). IsFile u bytes (with_change (with_what (appended text)) o (at (file_id k)))) (sym longer)
        (record {
          named = written_there text (file_id k) (is_one_named (is_entry (at (directory_id u))) file_name) o.live (the_file u (content u))
              (written_child text (file_id k) (at (directory_id u)) file_name) (ap file_id is) old.named;
          here = written_there text (file_id k) (has_id (at (file_id u))) o.live (the_file u (content u))
              (written_id text (file_id k) (at (file_id u))) (ap file_id is) old.here;
        })
    file u within false differs =
        let other : u ≢ k = grind (arith, nat_tests) in
        let old = fixed.files u within in
        subst (λ (bytes : List ℕ). IsFile u bytes (with_change (with_what (appended text)) o (at (file_id k)))) (sym (others u other))
        (record {
          named = written_other text (file_id k) (is_one_named (is_entry (at (directory_id u))) file_name) o.live (the_file u (content u))
              (written_child text (file_id k) (at (directory_id u)) file_name) (λ same. other (omega arith)) old.named;
          here = written_other text (file_id k) (has_id (at (file_id u))) o.live (the_file u (content u))
              (written_id text (file_id k) (at (file_id u))) (λ same. other (omega arith)) old.here;
        })

pub write_scratch : (t k u j : ℕ) (o : Entities) (text : List ℕ) (held : Bool) → k < t → HasScratch t u j o held
    → HasScratch t u j (with_change (with_what (appended text)) o (at (file_id k))) held
write_scratch t k u j o text false few has =
    find_map (is_one_named (is_entry (at (directory_id u))) (scratch_name j)) (written text (file_id k)) o.live
    (written_child text (file_id k) (at (directory_id u)) (scratch_name j))
    ∙ ap (option_map (written text (file_id k))) has
write_scratch t k u j o text true few has =
    let late : 3 * t + 1 ≤ has.id = has.late in
    record {
      id = has.id;
      late = has.late;
      named = written_other text (file_id k) (is_one_named (is_entry (at (directory_id u))) (scratch_name j)) o.live (the_scratch has.id u j)
          (written_child text (file_id k) (at (directory_id u)) (scratch_name j)) (λ same. omega arith) has.named;
      here = written_other text (file_id k) (has_id (at has.id)) o.live (the_scratch has.id u j)
          (written_id text (file_id k) (at has.id)) (λ same. omega arith) has.here;
      only = all_map (λ e. is_one_named (is_entry (at (directory_id u))) (scratch_name j) e ≡ true → e.id.0 ≡ has.id) (written text (file_id k)) o.live
          (λ e one passes.
          ap (λ (id : Id). id.0) (written_same_id text (file_id k) e)
          ∙ one (sym (written_child text (file_id k) (at (directory_id u)) (scratch_name j) e) ∙ passes)) has.only;
    }

-- the names in a directory stay
pub write_names : (k : ℕ) (dir : Id) (o : Entities) (text : List ℕ)
    → entry_names dir (with_change (with_what (appended text)) o (at (file_id k))).live ≡ entry_names dir o.live
write_names k dir o text = names_map dir (written text (file_id k)) o.live (written_entry text (file_id k) dir) (written_name text (file_id k))

-- A file goes

-- nothing is open on it
none_open : (file : Id) (n : ℕ) (w : EntityData) → FitsLoad n w → with_fds (closed_on file) w ≡ w
none_open file n (Process process) none =
    ap (λ (fds : List Fd). Process (record process { fds = closed_on file fds })) none ∙ sym (ap (λ (fds : List Fd). Process (record process { fds = fds })) none)
none_open file n (Vnode vnode) fits = refl
none_open file n (Pipe pipe) fits = refl
none_open file n (Socket socket) fits = refl

none_closed : (file : Id) (n : ℕ) (es : List LiveEntity) → AllByRecursion (λ e. FitsLoad n e.what) es → map (with_what (with_fds (closed_on file))) es ≡ es
none_closed file n [] fit = refl
none_closed file n (e ∷ es) fit =
    ap (λ (w : EntityData). record e { what = w } ∷ map (with_what (with_fds (closed_on file))) es) (none_open file n e.what fit.0)
    ∙ ap (λ (xs : List LiveEntity). e ∷ xs) (none_closed file n es fit.1)

pub vnode_goes : (id : Id) (n : ℕ) (o : Entities) → AllByRecursion (λ e. FitsLoad n e.what) o.live → without_vnode id o ≡ without (has_id id) o
vnode_goes id n o fit = ap (λ (es : List LiveEntity). without (has_id id) (record o { live = es })) (none_closed id n o.live fit)

abbrev stays : ℕ → LiveEntity → Bool
stays n e = not (has_id (at n) e)

stays_other : (n : ℕ) (x : LiveEntity) → x.id.0 ≢ n → stays n x ≡ true
stays_other n x other = ap not (ids_differ x.id.0 n other)

pub remove_fixed : (t n : ℕ) (o : Entities) (content : ℕ → List ℕ) → 3 * t + 1 ≤ n → IsFixed t t t o content → IsFixed t t t (without (has_id (at n)) o) content
remove_fixed t n o content late fixed =
    record {
      rising = rising_filter (stays n) 0 o.next o.live fixed.rising;
      root = find_filter_kept (has_id (at 0)) (stays n) o.live the_root fixed.root (stays_other n the_root (λ same. omega arith));
      directories = λ u within.
          let is = fixed.directories u within in
          let kept : stays n (the_directory u) ≡ true = stays_other n (the_directory u) (λ same. omega arith) in
          record {
            named = find_filter_kept (is_one_named (is_entry (at 0)) (directory_name u)) (stays n) o.live (the_directory u) is.named kept;
            here = find_filter_kept (has_id (at (directory_id u))) (stays n) o.live (the_directory u) is.here kept;
          };
      files = λ u within.
          let is = fixed.files u within in
          let kept : stays n (the_file u (content u)) ≡ true = stays_other n (the_file u (content u)) (λ same. omega arith) in
          record {
            named = find_filter_kept (is_one_named (is_entry (at (directory_id u))) file_name) (stays n) o.live (the_file u (content u)) is.named kept;
            here = find_filter_kept (has_id (at (file_id u))) (stays n) o.live (the_file u (content u)) is.here kept;
          };
      tasks = λ u within.
          let is = fixed.tasks u within in
          let kept : stays n (the_task t u) ≡ true = stays_other n (the_task t u) (λ same. omega arith) in
          record {
            named = find_filter_kept (is_one_named is_process (task_name u)) (stays n) o.live (the_task t u) is.named kept;
            here = find_filter_kept (has_id (at (task_id t u))) (stays n) o.live (the_task t u) is.here kept;
          };
      fit = all_filter (λ e. FitsLoad (2 * t + 1) e.what) (stays n) o.live fixed.fit;
    }

-- the file that goes is another
abbrev pub OtherThan : (t n u j : ℕ) (o : Entities) (held : Bool) → HasScratch t u j o held → Type 0
OtherThan t n u j o true has = has.id ≢ n
OtherThan t n u j o false has = Unit {0}

-- another file of the load
pub remove_scratch : (t n u j : ℕ) (o : Entities) (held : Bool) (has : HasScratch t u j o held) → OtherThan t n u j o held has
    → HasScratch t u j (without (has_id (at n)) o) held
remove_scratch t n u j o false has other = find_filter_none (is_one_named (is_entry (at (directory_id u))) (scratch_name j)) (stays n) o.live has
remove_scratch t n u j o true has other =
    let kept : stays n (the_scratch has.id u j) ≡ true = stays_other n (the_scratch has.id u j) other in
    record {
      id = has.id;
      late = has.late;
      named = find_filter_kept (is_one_named (is_entry (at (directory_id u))) (scratch_name j)) (stays n) o.live (the_scratch has.id u j) has.named kept;
      here = find_filter_kept (has_id (at has.id)) (stays n) o.live (the_scratch has.id u j) has.here kept;
      only = all_filter (λ e. is_one_named (is_entry (at (directory_id u))) (scratch_name j) e ≡ true → e.id.0 ≡ has.id) (stays n) o.live has.only;
    }
