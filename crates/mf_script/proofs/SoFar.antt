-- What was read so far of a script is well formed, and each line that is read keeps it so.
use Rattle.std.proofs.Common.{◌≡◌, ◌≢◌, ℕ, ◌+◌, ◌≤◌, Bool, true, false, List, [], ◌∷◌, ◌++◌, length, Result, Ok, Err, refl, sym, ap, ◌∙◌, subst, arith, length-append, lit≤}
use Rattle.std.proofs.lemmas.Bool.{ltb-true}
use Rattle.std.proofs.lemmas.List.Elements.{All-nil, All-push}
use Rattle.std.proofs.lemmas.List.Quantifiers.{all_pairs_push}
use Rattle.std.proofs.lemmas.List.Sums.{sum_by_push}
use Rattle.std.specs.Prelude.{nat_lt, All, codes, IfOk}
use Rattle.std.specs.List.{sum_by}
use Rattle.std.specs.Str.{bytes_eq}
use Rattle.mf_errno.specs.declared.module.Module.{Module}
use Rattle.mf_names.specs.declared.limits.TheConstants.{SCRIPT_LIMIT}
use Rattle.mf_words.specs.Words.{Words, words_in, is_comment}
use Rattle.mf_calls.specs.declared.limits.TheConstants.{RULE_LIST_LIMIT, STEP_LIMIT}
use Rattle.mf_calls.specs.declared.script.FileLine.{FileLine}
use Rattle.mf_calls.specs.declared.script.Step.{Step}
use Rattle.mf_calls.specs.declared.script.Task.{Task}
use Rattle.mf_calls.specs.declared.script.Script.{Script}
use Rattle.mf_calls.specs.WellFormed.{AreBoots, IsFormedFile, IsFormedTask, IsWellFormed, rule_list_count, IsName}
use Rattle.mf_script.specs.declared.error.ScriptError.{ScriptError}
use Rattle.mf_script.specs.declared.error.ScriptError.TheVariants as error
use Rattle.mf_script.specs.declared.rows.Place.{Place}
use Rattle.mf_script.specs.declared.rows.Place.TheVariants as place
use Rattle.mf_script.specs.Grammar.{Reading, boot_in, tunable_in, file_in, task_in, line_in, step_in, nothing_behind, behind_tasks, behind_files, behind_tunable, behind_boots, in_task, in_steps, row_in, words_line, line_read, blank, ended}
use Rattle.mf_script.specs.Outcome.{IsScriptOf}
use Rattle.mf_script.proofs.ScriptWords.{AreWords, script_words}
use Rattle.mf_script.proofs.FormedLines.{file_formed, task_formed, step_formed}
use Rattle.mf_script.proofs.FormedCalls.{line_formed}
use Rattle.mf_script.proofs.Formed.{no_pairs, boot_listed, AreFiles, file_judged, IsNextTask, task_judged, lists_formed, line_added, lists_added}
use Rattle.mf_script.proofs.Yields.{Yields, done, refused, chain, skip, checked, either}

-- the task that is open, and how many lines list the rules, with its own
record IsOpen (s : Script) (t : Task) (lists : ℕ) : Type 0 where
  next : IsNextTask s.boots s.tasks t
  counted : lists ≡ sum_by rule_list_count s.tasks + rule_list_count t
  few : lists ≤ RULE_LIST_LIMIT

IsAt : Script → Place → Type 0
IsAt s place.Boots = (s.files ≡ []) × (s.tasks ≡ [])
IsAt s place.Tunable = s.tasks ≡ []
IsAt s place.Files = s.tasks ≡ []
IsAt s (place.Tasks lists) = lists ≡ sum_by rule_list_count s.tasks
IsAt s (place.Task t lists) = IsOpen s t lists
IsAt s place.Steps = Unit {0}
IsAt s place.End = Unit {0}

pub record IsSoFar (s : Script) (p : Place) : Type 0 where
  pub formed : IsWellFormed s
  at : IsAt s p

Keeps : Reading → Type 0
Keeps state = IsSoFar state.0 state.1

none_formed : IsWellFormed blank
none_formed =
    record {
      boots = no_pairs (λ (m n : Module). m ≢ n);
      files = lit≤ tt;
      paths = no_pairs (λ (f g : FileLine). f.path ≢ g.path);
      each_file = All-nil _;
      directories = tt;
      tasks = lit≤ tt;
      names = no_pairs (λ (t u : Task). t.name ≢ u.name);
      each_task = All-nil _;
      rule_lists = lit≤ tt;
      steps = lit≤ tt;
      each_step = All-nil _;
    }

-- before the first line
pub starts : (s : Script) → s ≡ blank → IsSoFar s place.Boots
unfolding IsAt
starts s is = subst (λ s. IsSoFar s place.Boots) (sym is) (record { formed = none_formed; at = (refl, refl) })

-- One more of each

with_boots : (s : Script) (boots : List Module) → IsWellFormed s → s.files ≡ [] → s.tasks ≡ [] → AreBoots boots → IsWellFormed (record s { boots = boots })
with_boots s boots formed no_files no_tasks are =
    record {
      boots = are;
      files = formed.files;
      paths = formed.paths;
      each_file = subst (All (IsFormedFile boots)) (sym no_files) (All-nil _);
      directories = formed.directories;
      tasks = formed.tasks;
      names = formed.names;
      each_task = subst (All (IsFormedTask boots)) (sym no_tasks) (All-nil _);
      rule_lists = formed.rule_lists;
      steps = formed.steps;
      each_step = formed.each_step;
    }

with_revocation : (s : Script) (revocation : Bool) → IsWellFormed s → IsWellFormed (record s { revocation = revocation })
with_revocation s revocation formed =
    record {
      boots = formed.boots;
      files = formed.files;
      paths = formed.paths;
      each_file = formed.each_file;
      directories = formed.directories;
      tasks = formed.tasks;
      names = formed.names;
      each_task = formed.each_task;
      rule_lists = formed.rule_lists;
      steps = formed.steps;
      each_step = formed.each_step;
    }

with_files : (s : Script) (files : List FileLine) → IsWellFormed s → AreFiles s.boots files → IsWellFormed (record s { files = files })
with_files s files formed are =
    record {
      boots = formed.boots;
      files = are.few;
      paths = are.paths;
      each_file = are.each;
      directories = are.directories;
      tasks = formed.tasks;
      names = formed.names;
      each_task = formed.each_task;
      rule_lists = formed.rule_lists;
      steps = formed.steps;
      each_step = formed.each_step;
    }

lists_with : (s : Script) (t : Task) (lists : ℕ) → IsOpen s t lists → lists ≡ sum_by rule_list_count (s.tasks ++ t ∷ [])
lists_with s t lists open_ = open_.counted ∙ sym (sum_by_push rule_list_count s.tasks t)

with_task : (s : Script) (t : Task) (lists : ℕ) → IsWellFormed s → IsOpen s t lists → IsWellFormed (record s { tasks = s.tasks ++ t ∷ [] })
with_task s t lists formed open_ =
    record {
      boots = formed.boots;
      files = formed.files;
      paths = formed.paths;
      each_file = formed.each_file;
      directories = formed.directories;
      tasks = omega (arith, open_.next.room, length-append s.tasks (t ∷ []));
      names = all_pairs_push (λ (t u : Task). t.name ≢ u.name) s.tasks t formed.names open_.next.differs;
      each_task = All-push (IsFormedTask s.boots) s.tasks t formed.each_task open_.next.formed;
      rule_lists = omega (arith, open_.few, lists_with s t lists open_);
      steps = formed.steps;
      each_step = formed.each_step;
    }

with_step : (s : Script) (step : Step) → IsWellFormed s → length s.steps ≤ STEP_LIMIT → IsName step.task → nat_lt (length s.steps) STEP_LIMIT ≡ true → IsWellFormed (record s { steps = s.steps ++ step ∷ [] })
with_step s step formed few is room =
    record {
      boots = formed.boots;
      files = formed.files;
      paths = formed.paths;
      each_file = formed.each_file;
      directories = formed.directories;
      tasks = formed.tasks;
      names = formed.names;
      each_task = formed.each_task;
      rule_lists = formed.rule_lists;
      steps = omega (arith, ltb-true _ _ room, length-append s.steps (step ∷ []));
      each_step = All-push (λ (step : Step). IsName step.task) s.steps step formed.each_step is;
    }

-- Lines

boot_keeps : (s : Script) (ws : Words) → IsWellFormed s → s.files ≡ [] → s.tasks ≡ [] → Yields Keeps (boot_in s ws)
unfolding boot_in Keeps IsAt
boot_keeps s ws formed no_files no_tasks =
    chain _ _ (boot_listed s.boots ws formed.boots)
    (λ m are. done (record { formed = with_boots s (s.boots ++ m ∷ []) formed no_files no_tasks are; at = (no_files, no_tasks) }))

tunable_keeps : (s : Script) (again : Bool) (ws : Words) → IsWellFormed s → s.tasks ≡ [] → Yields Keeps (tunable_in s again ws)
unfolding tunable_in Keeps IsAt
tunable_keeps s again ws formed no_tasks =
    skip _ _ (λ sides. skip _ _ (λ revocation. done (record { formed = with_revocation s revocation formed; at = no_tasks })))

files_of : (s : Script) → IsWellFormed s → AreFiles s.boots s.files
files_of s formed = record { few = formed.files; paths = formed.paths; each = formed.each_file; directories = formed.directories }

file_keeps : (s : Script) (ws : Words) → AreWords ws → IsWellFormed s → s.tasks ≡ [] → Yields Keeps (file_in s ws)
unfolding file_in Keeps IsAt
file_keeps s ws are formed no_tasks =
    chain _ _ (file_formed ws are) (λ words words_ok. chain _ _ (file_judged s.boots s.files words (files_of s formed) words_ok)
    (λ file files_ok. done (record { formed = with_files s (s.files ++ file ∷ []) formed files_ok; at = no_tasks })))

task_keeps : (s : Script) (lists : ℕ) (ws : Words) → AreWords ws → IsWellFormed s → lists ≡ sum_by rule_list_count s.tasks → Yields Keeps (task_in s lists ws)
unfolding task_in Keeps IsAt
task_keeps s lists ws are formed counted =
    chain _ _ (task_formed ws are) (λ words words_ok. chain _ _ (task_judged s.boots s.tasks words words_ok)
    (λ task ok. done (record { formed = formed; at = record { next = ok.0; counted = omega (arith, counted, ok.1); few = omega (arith, counted, formed.rule_lists) } })))

line_keeps : (s : Script) (t : Task) (lists : ℕ) (w : List ℕ) (ws : Words) → AreWords ws → IsWellFormed s → IsOpen s t lists → Yields Keeps (line_in s t lists w ws)
unfolding line_in Keeps IsAt
line_keeps s t lists w ws are formed open_ =
    chain _ _ (line_formed w ws are) (λ line line_ok. checked _ _ _ (λ room. chain _ _ (lists_formed line.call lists open_.few) (λ n n_ok. done (record {
      formed = formed;
      at = record {
        next = line_added s.boots s.tasks t line open_.next line_ok (ltb-true _ _ room);
        counted = omega (arith, open_.counted, n_ok.0, lists_added t line);
        few = n_ok.1;
      };
    }))))

step_keeps : (s : Script) (w : List ℕ) (ws : Words) → AreWords ws → IsWellFormed s → Yields Keeps (step_in s w ws)
unfolding step_in Keeps IsAt
step_keeps s w ws are formed =
    chain _ _ (step_formed w ws are) (λ step step_ok. checked _ _ _ (λ room. done (record { formed = with_step s step formed formed.steps step_ok room; at = tt })))

alone_keeps : (next : Reading) (ws : Words) → Keeps next → Yields Keeps (nothing_behind next ws)
unfolding nothing_behind
alone_keeps next ws kept = skip _ _ (λ u. done kept)

-- Lines at each place

tasks_keep : (s : Script) (lists : ℕ) (w : List ℕ) (ws : Words) → AreWords ws → IsWellFormed s → lists ≡ sum_by rule_list_count s.tasks → Yields Keeps (behind_tasks s lists w ws)
unfolding behind_tasks Keeps IsAt
tasks_keep s lists w ws are formed counted =
    either (bytes_eq w (codes "task")) _ _ (task_keeps s lists ws are formed counted)
    (either (bytes_eq w (codes "steps")) _ _ (alone_keeps (s, place.Steps) ws (record { formed = formed; at = tt })) refused)

files_keep : (s : Script) (w : List ℕ) (ws : Words) → AreWords ws → IsWellFormed s → s.tasks ≡ [] → Yields Keeps (behind_files s w ws)
unfolding behind_files
files_keep s w ws are formed no_tasks =
    either (bytes_eq w (codes "file")) _ _ (file_keeps s ws are formed no_tasks) (tasks_keep s 0 w ws are formed (ap (sum_by rule_list_count) (sym no_tasks)))

tunable_keep : (s : Script) (again : Bool) (w : List ℕ) (ws : Words) → AreWords ws → IsWellFormed s → s.tasks ≡ [] → Yields Keeps (behind_tunable s again w ws)
unfolding behind_tunable
tunable_keep s again w ws are formed no_tasks =
    either (bytes_eq w (codes "tunable")) _ _ (tunable_keeps s again ws formed no_tasks) (files_keep s w ws are formed no_tasks)

boots_keep : (s : Script) (w : List ℕ) (ws : Words) → AreWords ws → IsWellFormed s → s.files ≡ [] → s.tasks ≡ [] → Yields Keeps (behind_boots s w ws)
unfolding behind_boots
boots_keep s w ws are formed no_files no_tasks =
    either (bytes_eq w (codes "boot")) _ _ (boot_keeps s ws formed no_files no_tasks) (tunable_keep s false w ws are formed no_tasks)

in_task_keeps : (s : Script) (t : Task) (lists : ℕ) (w : List ℕ) (ws : Words) → AreWords ws → IsWellFormed s → IsOpen s t lists → Yields Keeps (in_task s t lists w ws)
unfolding in_task Keeps IsAt
in_task_keeps s t lists w ws are formed open_ =
    either (bytes_eq w (codes "end")) _ _
    (alone_keeps (record s { tasks = s.tasks ++ t ∷ [] }, place.Tasks lists) ws (record { formed = with_task s t lists formed open_; at = lists_with s t lists open_ }))
    (line_keeps s t lists w ws are formed open_)

in_steps_keeps : (s : Script) (w : List ℕ) (ws : Words) → AreWords ws → IsWellFormed s → Yields Keeps (in_steps s w ws)
unfolding in_steps Keeps IsAt
in_steps_keeps s w ws are formed =
    either (bytes_eq w (codes "end")) _ _ (alone_keeps (s, place.End) ws (record { formed = formed; at = tt })) (step_keeps s w ws are formed)

row_keeps : (s : Script) (p : Place) (w : List ℕ) (ws : Words) → AreWords ws → IsSoFar s p → Yields Keeps (row_in s p w ws)
unfolding row_in IsAt
row_keeps s place.Boots w ws are so = boots_keep s w ws are so.formed so.at.0 so.at.1
row_keeps s place.Tunable w ws are so = tunable_keep s true w ws are so.formed so.at
row_keeps s place.Files w ws are so = files_keep s w ws are so.formed so.at
row_keeps s (place.Tasks lists) w ws are so = tasks_keep s lists w ws are so.formed so.at
row_keeps s (place.Task t lists) w ws are so = in_task_keeps s t lists w ws are so.formed so.at
row_keeps s place.Steps w ws are so = in_steps_keeps s w ws are so.formed
row_keeps s place.End w ws are so = refused

words_keep : (s : Script) (p : Place) (ws : Words) → AreWords ws → IsSoFar s p → Yields Keeps (words_line s p ws)
unfolding words_line Keeps
words_keep s p [] are so = done so
words_keep s p (w ∷ ws) are so = either (is_comment w) _ _ (done so) (row_keeps s p w ws are.1 so)

reads : (s : Script) (p : Place) (line : List ℕ) → length line ≤ SCRIPT_LIMIT → IsSoFar s p → Yields Keeps (line_read s p line)
unfolding line_read
reads s p line few so = checked _ _ _ (λ plain. words_keep s p (words_in line) (script_words line plain few) so)

pub line_kept : (s : Script) (p : Place) (line : List ℕ) (s' : Script) (p' : Place) → length line ≤ SCRIPT_LIMIT → IsSoFar s p → line_read s p line ≡ Ok (s', p') → IsSoFar s' p'
unfolding Keeps
line_kept s p line s' p' few so e = (reads s p line few so).of (s', p') e

-- The end

same_script : (s : Script) (p : Place) (n : ℕ) (found : Script) → ended s p n ≡ Ok found → s ≡ found
same_script s place.Boots n found e = cc
same_script s place.Tunable n found e = cc
same_script s place.Files n found e = cc
same_script s (place.Tasks lists) n found e = cc
same_script s (place.Task t lists) n found e = cc
same_script s place.Steps n found e = cc
same_script s place.End n found e = cc

pub ends : (s : Script) (p : Place) (n : ℕ) (result : Result Script ScriptError) → IsSoFar s p → IsScriptOf result (ended s p n) → IfOk result (λ s. IsWellFormed s)
ends s p n (Ok found) so is = subst IsWellFormed (same_script s p n found is) so.formed
ends s p n (Err error.Memory) so is = tt
ends s p n (Err (error.Fault line fault errno)) so is = tt
