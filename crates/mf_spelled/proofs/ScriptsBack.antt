-- Texts that spell a well-formed script are read as it.
use Rattle.std.proofs.Common.{◌≡◌, ◌≢◌, ℕ, ◌==◌, ◌+◌, ◌<◌, ◌≤◌, Bool, true, false, cond, List, [], ◌∷◌, ◌++◌, map, length, Ok, refl, sym, subst, ap, ◌∙◌, inl, inr, codes, arith}
use Rattle.std.proofs.lemmas.Bool.Decides.{nat_tests}
use Rattle.std.specs.Prelude.{All, AllPairs, if◌then◌else◌, nat_lt}
use Rattle.std.specs.List.{flat_map, list_any, sum_by, AllZip}
use Rattle.std.specs.Str.{bytes_eq}
use Rattle.std.proofs.lemmas.Bool.{lt-ltb, false_from_ne_true}
use Rattle.std.proofs.lemmas.List.{append_assoc, append-nil}
use Rattle.std.proofs.lemmas.List.Sums.{sum_by_push}
use Rattle.std.proofs.lemmas.Slice.Eq.{bytes_eq-Decides}
use Rattle.mf_errno.specs.Same.{same_module}
use Rattle.mf_errno.proofs.Modules.{same_module-is}
use Rattle.mf_errno.specs.declared.module.Module.{Module}
use Rattle.mf_errno.specs.declared.module.Module.TheVariants.{Biba}
use Rattle.mf_words.specs.Words.{Words, lines_in, is_comment}
use Rattle.mf_calls.specs.declared.limits.TheConstants.{FILE_LIMIT, TASK_LIMIT, LINE_LIMIT, RULE_LIST_LIMIT, STEP_LIMIT}
use Rattle.mf_calls.specs.declared.script.Call.{Call}
use Rattle.mf_calls.specs.declared.script.FileLine.{FileLine}
use Rattle.mf_calls.specs.declared.script.Line.{Line}
use Rattle.mf_calls.specs.declared.script.Task.{Task}
use Rattle.mf_calls.specs.declared.script.Step.{Step}
use Rattle.mf_calls.specs.declared.script.Script.{Script}
use Rattle.mf_calls.specs.declared.script.StepKind.{StepKind}
use Rattle.mf_calls.specs.declared.script.StepKind.TheVariants as step
use Rattle.mf_item.specs.declared.view.Kind.TheVariants as kinds
use Rattle.mf_calls.specs.Boots.{is_booted}
use Rattle.mf_calls.specs.Paths.{directory_of, has_directory}
use Rattle.mf_calls.specs.Tasks.{lists_rules}
use Rattle.mf_calls.specs.WellFormed.{AreBoots, AreInDirectories, IsFormedFile, IsFormedLine, IsFormedTask, IsWellFormed, rule_list_count, IsName}
use Rattle.mf_calls.proofs.Directories.{same_path_decides}
use Rattle.mf_calls.proofs.FewBoots.{few_boots}
use Rattle.mf_script.specs.declared.error.ScriptFault.TheVariants as fault
use Rattle.mf_script.specs.declared.rows.Place.{Place}
use Rattle.mf_script.specs.declared.rows.Place.TheVariants as place
use Rattle.mf_script.specs.Readers.{Read, and_then, unless}
use Rattle.mf_script.specs.Grammar as grammar
use Rattle.mf_script.specs.Grammar.{Reading, has_path, has_name, with_list, judged_task, boot_in, file_in, task_in, line_in, step_in, behind_tasks, behind_files, behind_tunable, behind_boots, in_task, in_steps, row_in, words_line, blank, ended, script_from, script_of}
use Rattle.mf_spelling.specs.Spelling.{Pieces, SpellLine, boot_pieces, tunable_pieces, file_pieces, task_pieces, line_pieces, step_pieces, step_word, task_rows, step_rows, SayTunable, SaySteps, front_rows, sayings, SpellScript, IsTextOf, Word}
use Rattle.mf_spelled.proofs.CallsBack.{line_back, no_words}
use Rattle.mf_spelled.proofs.Lines.{none}
use Rattle.mf_spelled.proofs.LinesBack.{boot_back, tunable_back, file_back, file_judged, task_back, step_back, request_judged}
use Rattle.mf_spelled.proofs.WordsBack.{passes}
use Rattle.mf_spelled.proofs.Reaching.{Reaches, nowhere, one_row, and_on, each_on, each_row, by_first, read_lines}
use Rattle.mf_spelled.proofs.Wholes.{longer, at_one, before_one, none_pass, total_so_far}

abbrev script : List Module → Bool → List FileLine → List Task → List Step → Script
script boots revocation files tasks steps = record { boots = boots; revocation = revocation; files = files; tasks = tasks; steps = steps }

-- Boots

not_booted : (done : List Module) (m : Module) (rest whole : List Module) → done ++ m ∷ rest ≡ whole → AreBoots whole → is_booted done m ≡ false
not_booted done m rest whole e are =
    none_pass (same_module m) (λ n. n ≢ m) (λ n other. false_from_ne_true (same_module m n) (λ same. other (sym (same_module-is m n same)))) done (before_one (λ n m. n ≢ m) done m rest whole e are)

abbrev booted : List Module → Module → Reading
booted done m = (script (done ++ m ∷ []) false [] [] [], place.Boots)

and_booted : (done : List Module) (m : Module) (read : Read Module) → read ≡ Ok m → and_then read (λ m. Ok (booted done m)) ≡ Ok (booted done m)
unfolding and_then
and_booted done m read e = rw e refl

boots_back : (boots : List Module) → AreBoots boots → Reaches (map boot_pieces boots) blank place.Boots (script boots false [] [] []) place.Boots
unfolding row_in behind_boots boot_in
boots_back boots are = each_row boot_pieces (λ done. script done false [] [] []) (λ done. place.Boots) boots (λ done m rest e.
    by_first (codes "boot") _ (script done false [] [] []) place.Boots (script (done ++ m ∷ []) false [] [] [], place.Boots) refl (λ ws spelled.
    and_booted done m (grammar.booted_after done ws)
    (boot_back done m (omega (arith, few_boots boots are, longer done m rest boots e)) (not_booted done m rest boots e are) (codes "boot") ws spelled)))

-- The tunable

abbrev after_tunable : List Pieces → Place
after_tunable [] = place.Boots
after_tunable (row ∷ rows) = place.Tunable

tunable_set : (boots : List Module) (revocation : Bool) → is_booted boots Biba ≡ true
    → Reaches (tunable_pieces revocation ∷ []) (script boots false [] [] []) place.Boots (script boots revocation [] [] []) place.Tunable
unfolding row_in behind_boots behind_tunable
tunable_set boots revocation booted =
    one_row (tunable_pieces revocation) (script boots false [] [] []) place.Boots (script boots revocation [] [] []) place.Tunable
    (by_first (codes "tunable") _ (script boots false [] [] []) place.Boots (script boots revocation [] [] [], place.Tunable) refl (λ ws spelled.
    tunable_back (script boots false [] [] []) revocation booted ws spelled.1))

tunable_reached : (boots : List Module) (revocation : Bool) (tunable : List Pieces) → SayTunable (script boots revocation [] [] []) tunable
    → Reaches tunable (script boots false [] [] []) place.Boots (script boots revocation [] [] []) (after_tunable tunable)
tunable_reached boots revocation tunable (inl said) =
    subst (λ rows. Reaches rows (script boots false [] [] []) place.Boots (script boots revocation [] [] []) (after_tunable rows)) (sym said.0) (tunable_set boots revocation said.1)
tunable_reached boots revocation tunable (inr unsaid) =
    subst (λ rows. Reaches rows (script boots false [] [] []) place.Boots (script boots revocation [] [] []) (after_tunable rows)) (sym unsaid.0)
    (subst (λ (revocation : Bool). Reaches [] (script boots false [] [] []) place.Boots (script boots revocation [] [] []) place.Boots) (sym unsaid.1) (nowhere (script boots false [] [] []) place.Boots))

-- Files

abbrev after_files : List Pieces → List FileLine → Place
after_files tunable [] = after_tunable tunable
after_files tunable (f ∷ files) = place.Files

files_after : (tunable : List Pieces) (done : List FileLine) (f : FileLine) → after_files tunable (done ++ f ∷ []) ≡ place.Files
files_after tunable [] f = refl
files_after tunable (g ∷ done) f = refl

at_file : (s : Script) (tunable : List Pieces) (done : List FileLine) (ws : Words) → row_in s (after_files tunable done) (codes "file") ws ≡ file_in s ws
unfolding row_in behind_boots behind_tunable behind_files file_in
at_file s [] [] ws = refl
at_file s (row ∷ rows) [] ws = refl
at_file s tunable (f ∷ done) ws = refl

not_there : (done : List FileLine) (f : FileLine) (rest whole : List FileLine) → done ++ f ∷ rest ≡ whole → AllPairs (λ f g. f.path ≢ g.path) whole → list_any (has_path f.path) done ≡ false
not_there done f rest whole e differ =
    none_pass (has_path f.path) (λ (g : FileLine). g.path ≢ f.path) (λ g other. false_from_ne_true (has_path f.path g) (λ same. other ((same_path_decides g.path f.path).0 same))) done
    (before_one (λ (f g : FileLine). f.path ≢ g.path) done f rest whole e differ)

directory_there : (earlier done : List FileLine) (f : FileLine) (rest : List FileLine) → AreInDirectories earlier (done ++ f ∷ rest) → has_directory (earlier ++ done) (directory_of f.path) ≡ true
directory_there earlier [] f rest are = ap (λ files. has_directory files (directory_of f.path)) (append-nil earlier) ∙ are.0
directory_there earlier (g ∷ done) f rest are =
    ap (λ files. has_directory files (directory_of f.path)) (sym (append_assoc earlier (g ∷ []) done)) ∙ directory_there (earlier ++ g ∷ []) done f rest are.1

below_root : (path : List (List ℕ)) → 1 ≤ length path → (length path == 0) ≡ false
below_root path some = grind (arith, nat_tests)

files_back : (boots : List Module) (revocation : Bool) (tunable : List Pieces) (files : List FileLine) → length files ≤ FILE_LIMIT → AllPairs (λ f g. f.path ≢ g.path) files → All (IsFormedFile boots) files
    → AreInDirectories [] files
    → Reaches (map file_pieces files) (script boots revocation [] [] []) (after_tunable tunable) (script boots revocation files [] []) (after_files tunable files)
unfolding file_in and_then
files_back boots revocation tunable files few differ each there = each_row file_pieces (λ done. script boots revocation done [] []) (after_files tunable) files (λ done f rest e.
    let next = script boots revocation (done ++ f ∷ []) [] [] in
    by_first (codes "file") _ (script boots revocation done [] []) (after_files tunable done) (next, after_files tunable (done ++ f ∷ [])) refl (λ ws spelled.
    let formed = at_one (IsFormedFile boots) done f rest files e each in
    let read = file_back boots f formed (codes "file") ws spelled in
    let judged = file_judged boots done f read.label formed read.asks (omega (arith, few, longer done f rest files e)) (below_root f.path formed.below_root) (not_there done f rest files e differ)
    (directory_there [] done f rest (subst (AreInDirectories []) (sym e) there)) in
    at_file (script boots revocation done [] []) tunable done ws ∙ rw (read.is, judged) (ap (λ p. Ok (next, p)) (sym (files_after tunable done f)))))

-- Steps

-- the words of steps are no ends and no comments
no_end : (kind : StepKind) → bytes_eq (step_word kind) (codes "end") ≡ false
no_end step.Enter = refl
no_end step.Plan = refl
no_end step.Done = refl
no_end step.Leave = refl
no_end step.Change = refl

no_comment : (kind : StepKind) → is_comment (step_word kind) ≡ false
no_comment step.Enter = refl
no_comment step.Plan = refl
no_comment step.Done = refl
no_comment step.Leave = refl
no_comment step.Change = refl

steps_back : (begun : Script) (steps : List Step) → length steps ≤ STEP_LIMIT → All (λ (step : Step). IsName step.task) steps
    → Reaches (map step_pieces steps) (record begun { steps = [] }) place.Steps (record begun { steps = steps }) place.Steps
unfolding row_in in_steps step_in and_then
steps_back begun steps few each = each_row step_pieces (λ done. record begun { steps = done }) (λ done. place.Steps) steps (λ done x rest e.
    by_first (step_word x.kind) _ (record begun { steps = done }) place.Steps (record begun { steps = done ++ x ∷ [] }, place.Steps) (no_comment x.kind) (λ ws spelled.
    rw (no_end x.kind, step_back x (at_one (λ (step : Step). IsName step.task) done x rest steps e each) (step_word x.kind) ws spelled, lt-ltb (length done) STEP_LIMIT (omega (arith, few, longer done x rest steps e))) refl))

-- Tasks

abbrev lists_in : List Task → ℕ
lists_in tasks = sum_by rule_list_count tasks

abbrev after_tasks : List Pieces → List FileLine → List Task → Place
after_tasks tunable files [] = after_files tunable files
after_tasks tunable files (t ∷ tasks) = place.Tasks (lists_in (t ∷ tasks))

tasks_after : (tunable : List Pieces) (files : List FileLine) (done : List Task) (t : Task) → after_tasks tunable files (done ++ t ∷ []) ≡ place.Tasks (lists_in (done ++ t ∷ []))
tasks_after tunable files [] t = refl
tasks_after tunable files (u ∷ done) t = refl

at_task : (s : Script) (tunable : List Pieces) (files : List FileLine) (done : List Task) (ws : Words) → row_in s (after_tasks tunable files done) (codes "task") ws ≡ task_in s (lists_in done) ws
unfolding row_in behind_boots behind_tunable behind_files behind_tasks task_in
at_task s [] [] [] ws = refl
at_task s (row ∷ rows) [] [] ws = refl
at_task s tunable (f ∷ files) [] ws = refl
at_task s tunable files (t ∷ done) ws = refl

-- the task with these lines
abbrev lined : Task → List Line → Task
lined t lines = record t { lines = lines }

new_name : (done : List Task) (t : Task) (rest whole : List Task) → done ++ t ∷ rest ≡ whole → AllPairs (λ t u. t.name ≢ u.name) whole → list_any (has_name t.name) done ≡ false
new_name done t rest whole e differ =
    none_pass (has_name t.name) (λ (u : Task). u.name ≢ t.name) (λ u other. false_from_ne_true (has_name t.name u) (λ same. other ((bytes_eq-Decides u.name t.name).0 same))) done
    (before_one (λ (t u : Task). t.name ≢ u.name) done t rest whole e differ)

task_row : (boots : List Module) (revocation : Bool) (tunable : List Pieces) (files : List FileLine) (done : List Task) (t : Task) → IsFormedTask boots t → length done < TASK_LIMIT
    → list_any (has_name t.name) done ≡ false → (ws : Words) → SpellLine ws (task_pieces t)
    → words_line (script boots revocation files done []) (after_tasks tunable files done) ws ≡ Ok (script boots revocation files done [], place.Task (lined t []) (lists_in done))
unfolding task_in judged_task grammar.task_label and_then
task_row boots revocation tunable files done t formed room new =
    let s = script boots revocation files done [] in
    by_first (codes "task") _ s (after_tasks tunable files done) (s, place.Task (lined t []) (lists_in done)) refl (λ ws spelled.
    let read = task_back boots t formed (codes "task") ws spelled in
    at_task s tunable files done ws
    ∙ rw (read.is, lt-ltb (length done) TASK_LIMIT room, new, request_judged kinds.Process boots t.label read.label formed.label read.asks) refl)

-- one where the call lists the rules
abbrev one_list : Call → ℕ
one_list c = cond (lists_rules c) 1 0

lists_back : (c : Call) (lists : ℕ) → lists + one_list c ≤ RULE_LIST_LIMIT → with_list c lists ≡ Ok (lists + one_list c)
unfolding with_list and_then
lists_back c lists few = by_test (lists_rules c) few where
  by_test : (t : Bool) → lists + cond t 1 0 ≤ RULE_LIST_LIMIT → (if t then (and_then (unless fault.TooMany (nat_lt lists RULE_LIST_LIMIT)) (λ u. Ok (lists + 1))) else Ok lists) ≡ Ok (lists + cond t 1 0)
  by_test true small = passes fault.TooMany (nat_lt lists RULE_LIST_LIMIT) (λ u. Ok (lists + 1)) (lt-ltb lists RULE_LIST_LIMIT (omega (arith, small)))
  by_test false small = ap Ok (omega arith)

line_row : (s : Script) (t : Task) (lists : ℕ) (line : Line) → IsFormedLine line → length t.lines < LINE_LIMIT → lists + one_list line.call ≤ RULE_LIST_LIMIT
    → (ws : Words) → SpellLine ws (line_pieces line) → words_line s (place.Task t lists) ws ≡ Ok (s, place.Task (lined t (t.lines ++ line ∷ [])) (lists + one_list line.call))
unfolding words_line row_in in_task line_in and_then
line_row s t lists line formed room few [] spelled = absurd (no_words line.child line.call spelled)
line_row s t lists line formed room few (w ∷ ws) spelled =
    let read = line_back line formed w ws spelled in
    rw (read.no_comment, read.no_end, read.is, lt-ltb (length t.lines) LINE_LIMIT room, lists_back line.call lists few) refl

lines_back : (s : Script) (t : Task) (base : ℕ) → length t.lines ≤ LINE_LIMIT → All IsFormedLine t.lines → base + rule_list_count t ≤ RULE_LIST_LIMIT
    → Reaches (map line_pieces t.lines) s (place.Task (lined t []) (base + rule_list_count (lined t []))) s (place.Task t (base + rule_list_count t))
lines_back s t base few each small = each_row line_pieces (λ done. s) (λ done. place.Task (lined t done) (base + rule_list_count (lined t done))) t.lines (λ done line rest e ws spelled.
    let more : rule_list_count (lined t (done ++ line ∷ [])) ≡ rule_list_count (lined t done) + one_list line.call = sum_by_push (λ (l : Line). one_list l.call) done line in
    let total = total_so_far (λ (l : Line). one_list l.call) done line rest t.lines e in
    line_row s (lined t done) (base + rule_list_count (lined t done)) line (at_one IsFormedLine done line rest t.lines e each) (omega (arith, few, longer done line rest t.lines e)) (within done line total) ws spelled
    ∙ ap (λ n. Ok (s, place.Task (lined t (done ++ line ∷ [])) n)) (omega (arith, more)))
  where
    within : (done : List Line) (line : Line) → sum_by (λ (l : Line). one_list l.call) done + one_list line.call ≤ sum_by (λ (l : Line). one_list l.call) t.lines
        → base + rule_list_count (lined t done) + one_list line.call ≤ RULE_LIST_LIMIT
    within done line total =
        let here : rule_list_count (lined t done) ≡ sum_by (λ (l : Line). one_list l.call) done = refl in
        let whole : rule_list_count t ≡ sum_by (λ (l : Line). one_list l.call) t.lines = refl in
        omega (arith, small, total, here, whole)

task_reached : (boots : List Module) (revocation : Bool) (tunable : List Pieces) (files : List FileLine) (tasks : List Task) → length tasks ≤ TASK_LIMIT → AllPairs (λ t u. t.name ≢ u.name) tasks
    → All (IsFormedTask boots) tasks → lists_in tasks ≤ RULE_LIST_LIMIT → (done : List Task) (t : Task) (rest : List Task) → done ++ t ∷ rest ≡ tasks
    → Reaches (task_rows t) (script boots revocation files done []) (after_tasks tunable files done) (script boots revocation files (done ++ t ∷ []) []) (after_tasks tunable files (done ++ t ∷ []))
unfolding row_in in_task grammar.nothing_behind and_then
task_reached boots revocation tunable files tasks few differ each small done t rest e =
    let formed = at_one (IsFormedTask boots) done t rest tasks e each in
    let s = script boots revocation files done [] in
    let next = script boots revocation files (done ++ t ∷ []) [] in
    let opened = place.Task (lined t []) (lists_in done + rule_list_count (lined t [])) in
    let closed = place.Task t (lists_in done + rule_list_count t) in
    let total = total_so_far rule_list_count done t rest tasks e in
    and_on (task_pieces t ∷ []) (map line_pieces t.lines ++ (Word (codes "end") ∷ []) ∷ []) s (after_tasks tunable files done) s opened _ _
    (one_row (task_pieces t) s (after_tasks tunable files done) s opened (λ ws spelled.
    task_row boots revocation tunable files done t formed (omega (arith, few, longer done t rest tasks e)) (new_name done t rest tasks e differ) ws spelled
    ∙ ap (λ n. Ok (s, place.Task (lined t []) n)) (omega arith)))
    (and_on (map line_pieces t.lines) ((Word (codes "end") ∷ []) ∷ []) s opened s closed _ _
    (lines_back s t (lists_in done) formed.few formed.lines (omega (arith, total, small)))
    (one_row (Word (codes "end") ∷ []) s closed next (after_tasks tunable files (done ++ t ∷ []))
    (by_first (codes "end") [] s closed (next, after_tasks tunable files (done ++ t ∷ [])) refl (λ ws spelled.
    rw (none ws spelled.1) (ap (λ p. Ok (next, p)) (ap place.Tasks (sym (sum_by_push rule_list_count done t)) ∙ sym (tasks_after tunable files done t)))))))

-- Scripts

ends_there : (s : Script) (tunable : List Pieces) (files : List FileLine) (tasks : List Task) (n : ℕ) → ended s (after_tasks tunable files tasks) n ≡ Ok s
ends_there s [] [] [] n = refl
ends_there s (row ∷ rows) [] [] n = refl
ends_there s tunable (f ∷ files) [] n = refl
ends_there s tunable files (t ∷ tasks) n = refl

-- the script before its steps
abbrev begun : Script → Script
begun s = record s { steps = [] }

front_back : (s : Script) (tunable : List Pieces) → IsWellFormed s → SayTunable s tunable → Reaches (front_rows tunable s) blank place.Boots (begun s) (after_tasks tunable s.files s.tasks)
front_back s tunable formed say =
    let booted = script s.boots false [] [] [] in
    let set = script s.boots s.revocation [] [] [] in
    and_on (map boot_pieces s.boots ++ tunable ++ map file_pieces s.files) (flat_map task_rows s.tasks) blank place.Boots (script s.boots s.revocation s.files [] []) (after_files tunable s.files) _ _
    (and_on (map boot_pieces s.boots ++ tunable) (map file_pieces s.files) blank place.Boots set (after_tunable tunable) _ _
    (and_on (map boot_pieces s.boots) tunable blank place.Boots booted place.Boots _ _ (boots_back s.boots formed.boots) (tunable_reached s.boots s.revocation tunable say))
    (files_back s.boots s.revocation tunable s.files formed.files formed.paths formed.each_file formed.directories))
    (each_on task_rows (λ done. script s.boots s.revocation s.files done []) (after_tasks tunable s.files) s.tasks
    (task_reached s.boots s.revocation tunable s.files s.tasks formed.tasks formed.names formed.each_task formed.rule_lists) s.tasks [] refl)

at_steps : (s : Script) (tunable : List Pieces) (files : List FileLine) (tasks : List Task) (ws : Words) → ws ≡ [] → row_in s (after_tasks tunable files tasks) (codes "steps") ws ≡ Ok (s, place.Steps)
unfolding row_in behind_boots behind_tunable behind_files behind_tasks grammar.nothing_behind and_then
at_steps s [] [] [] ws e = rw e refl
at_steps s (row ∷ rows) [] [] ws e = rw e refl
at_steps s tunable (f ∷ files) [] ws e = rw e refl
at_steps s tunable files (t ∷ tasks) ws e = rw e refl

step_rows_back : (s : Script) (tunable : List Pieces) → IsWellFormed s → Reaches (step_rows s.steps) (begun s) (after_tasks tunable s.files s.tasks) s place.End
unfolding row_in in_steps grammar.nothing_behind and_then
step_rows_back s tunable formed =
    and_on ((Word (codes "steps") ∷ []) ∷ []) (map step_pieces s.steps ++ (Word (codes "end") ∷ []) ∷ []) (begun s) (after_tasks tunable s.files s.tasks) (begun s) place.Steps _ _
    (one_row (Word (codes "steps") ∷ []) (begun s) (after_tasks tunable s.files s.tasks) (begun s) place.Steps
    (by_first (codes "steps") [] (begun s) (after_tasks tunable s.files s.tasks) (begun s, place.Steps) refl (λ ws spelled. at_steps (begun s) tunable s.files s.tasks ws (none ws spelled.1))))
    (and_on (map step_pieces s.steps) ((Word (codes "end") ∷ []) ∷ []) (begun s) place.Steps s place.Steps _ _
    (steps_back s s.steps formed.steps formed.each_step)
    (one_row (Word (codes "end") ∷ []) s place.Steps s place.End (by_first (codes "end") [] s place.Steps (s, place.End) refl (λ ws spelled. rw (none ws spelled.1) refl))))

pub lines_read : (lines : List (List ℕ)) (s : Script) → IsWellFormed s → SpellScript lines s → script_from blank place.Boots 1 lines ≡ Ok s
lines_read lines s formed text = by_steps text.steps text.say_steps text.spelled where
  front : Reaches (front_rows text.tunable s) blank place.Boots (begun s) (after_tasks text.tunable s.files s.tasks)
  front = front_back s text.tunable formed text.say_tunable

  with_steps : AllZip SpellLine (sayings lines) (front_rows text.tunable s ++ step_rows s.steps) → script_from blank place.Boots 1 lines ≡ Ok s
  with_steps spelled =
      read_lines lines blank place.Boots 1 s place.End text.plain
      ((and_on (front_rows text.tunable s) (step_rows s.steps) blank place.Boots (begun s) (after_tasks text.tunable s.files s.tasks) s place.End front (step_rows_back s text.tunable formed)).of _ spelled)
      (λ n. refl)

  without_steps : s.steps ≡ [] → AllZip SpellLine (sayings lines) (front_rows text.tunable s) → script_from blank place.Boots 1 lines ≡ Ok s
  without_steps no_steps spelled =
      let same : begun s ≡ s = ap (λ (steps : List Step). record s { steps = steps }) (sym no_steps) in
      read_lines lines blank place.Boots 1 (begun s) (after_tasks text.tunable s.files s.tasks) text.plain
      (front.of _ spelled) (ends_there (begun s) text.tunable s.files s.tasks) ∙ ap (λ (s : Script). Ok s) same

  by_steps : (steps : List Pieces) → SaySteps s.steps steps → AllZip SpellLine (sayings lines) (front_rows text.tunable s ++ steps) → script_from blank place.Boots 1 lines ≡ Ok s
  by_steps steps (inl said) spelled = with_steps (subst (λ steps. AllZip SpellLine (sayings lines) (front_rows text.tunable s ++ steps)) said spelled)
  by_steps steps (inr unsaid) spelled =
      without_steps unsaid.1 (subst (AllZip SpellLine (sayings lines)) (ap (λ steps. front_rows text.tunable s ++ steps) unsaid.0 ∙ append-nil (front_rows text.tunable s)) spelled)

pub spelled_read : (bytes : List ℕ) (s : Script) → IsWellFormed s → IsTextOf bytes s → script_of bytes ≡ Ok s
unfolding script_of
spelled_read bytes s formed text = lines_read (lines_in bytes) s formed text
