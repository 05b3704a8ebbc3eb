-- One more file, task or line of a load, as loops count them.
use Rattle.std.proofs.Common.{◌≡◌, ℕ, suc, ◌+◌, false, List, [], ◌∷◌, ◌++◌, None, refl, sym, ap, ◌∙◌, append_assoc, add-one}
use Rattle.mf_errno.specs.declared.module.Module.{Module}
use Rattle.mf_errno.specs.declared.module.Module.TheVariants.{Biba}
use Rattle.mf_calls.specs.declared.script.Call.{Call}
use Rattle.mf_calls.specs.declared.script.Line.{Line}
use Rattle.mf_calls.specs.declared.script.Task.{Task}
use Rattle.mf_calls.specs.declared.script.Step.{Step}
use Rattle.mf_calls.specs.declared.script.FileLine.{FileLine}
use Rattle.mf_calls.specs.Generated.{next_in_sequence, number_at, drawn, drawn_at, call_of, load_line, load_lines, load_directory, load_file, load_files, load_task, load_tasks, generated}

files_suc : (k : ℕ) → load_files (suc k) ≡ load_files k ++ load_directory k ∷ load_file k ∷ []
unfolding load_files
files_suc k = refl

pub no_files : load_files 0 ≡ []
unfolding load_files
no_files = refl

pub files_next : (k : ℕ) → load_files (k + 1) ≡ (load_files k ++ load_directory k ∷ []) ++ load_file k ∷ []
files_next k = ap load_files (add-one k) ∙ files_suc k ∙ sym (append_assoc (load_files k) (load_directory k ∷ []) (load_file k ∷ []))

tasks_suc : (n t : ℕ) → load_tasks n (suc t) ≡ load_tasks n t ++ load_task n t ∷ []
unfolding load_tasks
tasks_suc n t = refl

pub no_tasks : (n : ℕ) → load_tasks n 0 ≡ []
unfolding load_tasks
no_tasks n = refl

pub tasks_next : (n t : ℕ) → load_tasks n (t + 1) ≡ load_tasks n t ++ load_task n t ∷ []
tasks_next n t = ap (load_tasks n) (add-one t) ∙ tasks_suc n t

lines_suc : (k i : ℕ) → load_lines k (suc i) ≡ load_lines k i ++ load_line k (drawn_at k i) ∷ []
unfolding load_lines
lines_suc k i = refl

pub no_lines : (k : ℕ) → load_lines k 0 ≡ []
unfolding load_lines
no_lines k = refl

pub first_number : (k : ℕ) → number_at k 0 ≡ k + 1
unfolding number_at
first_number k = refl

pub number_next : (k i : ℕ) → number_at k (suc i) ≡ next_in_sequence (number_at k i)
unfolding number_at
number_next k i = refl

pub lines_next : (k i : ℕ) → load_lines k (i + 1) ≡ load_lines k i ++ load_line k (drawn_at k i) ∷ []
lines_next k i = ap (load_lines k) (add-one i) ∙ lines_suc k i

pub number_plus : (k i : ℕ) → number_at k (i + 1) ≡ next_in_sequence (number_at k i)
number_plus k i = ap (number_at k) (add-one i) ∙ number_next k i

-- the line that is drawn with the next number
pub line_is : (k i number number' : ℕ) (call : Call) → number ≡ number_at k i → number' ≡ next_in_sequence number → call ≡ call_of k (drawn number')
    → record { child = None; call = call } ≡ load_line k (drawn_at k i)
line_is k i number number' call is next drawn_is =
    let same : number' ≡ number_at k (suc i) = next ∙ ap next_in_sequence is ∙ sym (number_next k i) in
    ap (λ (x : Call). record { child = None; call = x }) (drawn_is ∙ ap (λ m. call_of k (drawn m)) same)

pub generated_is : (n t : ℕ) (boots : List Module) (files : List FileLine) (tasks : List Task) (steps : List Step)
    → boots ≡ Biba ∷ [] → files ≡ load_files t → tasks ≡ load_tasks n t → steps ≡ []
    → record { boots = boots; revocation = false; files = files; tasks = tasks; steps = steps } ≡ generated n t
unfolding generated
generated_is n t boots files tasks steps booted filed tasked stepped =
    ap (λ (b : List Module). record { boots = b; revocation = false; files = files; tasks = tasks; steps = steps }) booted
    ∙ ap (λ (f : List FileLine). record { boots = Biba ∷ []; revocation = false; files = f; tasks = tasks; steps = steps }) filed
    ∙ ap (λ (ts : List Task). record { boots = Biba ∷ []; revocation = false; files = load_files t; tasks = ts; steps = steps }) tasked
    ∙ ap (λ (ss : List Step). record { boots = Biba ∷ []; revocation = false; files = load_files t; tasks = load_tasks n t; steps = ss }) stepped

pub line_more : (k i number number' : ℕ) (call : Call) (lines lines' : List Line) → lines ≡ load_lines k i → number ≡ number_at k i → number' ≡ next_in_sequence number
    → call ≡ call_of k (drawn number') → lines' ≡ lines ++ record { child = None; call = call } ∷ [] → lines' ≡ load_lines k (i + 1)
line_more k i number number' call lines lines' so_far is next drawn_is pushed =
    pushed ∙ ap (λ (ls : List Line). ls ++ record { child = None; call = call } ∷ []) so_far
    ∙ ap (λ (l : Line). load_lines k i ++ l ∷ []) (line_is k i number number' call is next drawn_is) ∙ sym (lines_next k i)
