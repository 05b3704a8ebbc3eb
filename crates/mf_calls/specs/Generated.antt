-- The script of a generated load: tasks that each work in a directory of their own, with lines that are drawn from a sequence of
-- numbers. It is this model's own.
use Rattle.std.specs.Prelude.{ℕ, zero, suc, ◌+◌, ◌*◌, ◌/◌, ◌%◌, ◌==◌, if◌then◌else◌, Bool, true, false, List, [], ◌∷◌, ◌++◌, Some, None, codes}
use Rattle.std.specs.Fmt.{decimal}
use Rattle.mf_errno.specs.declared.module.Module.TheVariants.{Biba}
use Rattle.mf_elem.specs.declared.elem.Elem.{Elem}
use Rattle.mf_elem.specs.declared.elem.Elem.TheVariants.{Equal, Grade}
use Rattle.mf_elem.specs.declared.label.Request.{Request}
use Rattle.mf_elem.specs.Comps.{no_comps}
use Rattle.mf_cred.specs.declared.cred.Cred.{Cred}
use Rattle.mf_cred.specs.declared.cred.TheConstants.{FILE_MODE, DIRECTORY_MODE}
use Rattle.mf_calls.specs.declared.script.Call.{Call}
use Rattle.mf_calls.specs.declared.script.Call.TheVariants as call
use Rattle.mf_calls.specs.declared.script.Line.{Line}
use Rattle.mf_calls.specs.declared.script.Task.{Task}
use Rattle.mf_calls.specs.declared.script.FileLine.{FileLine}
use Rattle.mf_calls.specs.declared.script.Script.{Script}

-- Names and paths

abbrev pub task_name : ℕ → List ℕ
task_name k = codes "t" ++ decimal k

-- the directory of a task
abbrev pub directory_name : ℕ → List ℕ
directory_name k = codes "d" ++ decimal k

-- the file in it that is there at boot
abbrev pub file_name : List ℕ
file_name = codes "f"

-- a file in it that the task makes and removes
abbrev pub scratch_name : ℕ → List ℕ
scratch_name j = codes "g" ++ decimal j

abbrev pub directory_path : ℕ → List (List ℕ)
directory_path k = directory_name k ∷ []

abbrev pub path_under : ℕ → List ℕ → List (List ℕ)
path_under k name = directory_name k ∷ name ∷ []

-- Lines

-- the number after this one in the sequence
abbrev pub next_in_sequence : ℕ → ℕ
next_in_sequence x = (1103515245 * x + 12345) % 2147483648

-- the number of a task before its first line, and after so many
unfoldable pub number_at : ℕ → ℕ → ℕ
number_at k zero = k + 1
number_at k (suc i) = next_in_sequence (number_at k i)

-- what a line of the load does, in the directory of its task
pub data LoadCall : Type 0 where
  Write : LoadCall
  Read : LoadCall
  Stat : LoadCall
  Readdir : LoadCall
  Create : (j : ℕ) → LoadCall
  Unlink : (j : ℕ) → LoadCall

abbrev pub load_call : ℕ → ℕ → LoadCall
load_call kind j =
    if kind == 0 then Write
    else if kind == 1 then Read
    else if kind == 2 then Stat
    else if kind == 3 then Readdir
    else if kind == 4 then Create j
    else Unlink j

-- what is drawn with a number
unfoldable pub drawn : ℕ → LoadCall
drawn x = load_call (x / 65536 % 6) (x / 65536 / 6 % 4)

abbrev pub call_of : ℕ → LoadCall → Call
call_of k Write = call.Write (path_under k file_name) (codes "x")
call_of k Read = call.Read (path_under k file_name)
call_of k Stat = call.Stat (path_under k file_name)
call_of k Readdir = call.Readdir (directory_path k)
call_of k (Create j) = call.Create (path_under k (scratch_name j))
call_of k (Unlink j) = call.Unlink (path_under k (scratch_name j))

-- what the line of this index does, from 0
abbrev pub drawn_at : ℕ → ℕ → LoadCall
drawn_at k i = drawn (number_at k (suc i))

abbrev pub load_line : ℕ → LoadCall → Line
load_line k what = record { child = None; call = call_of k what }

-- the first lines of a task
unfoldable pub load_lines : ℕ → ℕ → List Line
load_lines k zero = []
load_lines k (suc i) = load_lines k i ++ load_line k (drawn_at k i) ∷ []

-- Files and tasks

-- an element without compartments
abbrev pub plain_grade : ℕ → Elem
plain_grade grade = Grade grade no_comps

-- what a label text `biba/..` with this element asks for
abbrev pub asked : Elem → Request
asked element = record { biba = Some (record { effective = Some element; range = None }); mls = None; lomac = None; partition = None; other = false }

abbrev pub load_directory : ℕ → FileLine
load_directory k = record { path = directory_path k; file = record { uid = 0; gid = 0; mode = DIRECTORY_MODE; dir = true }; label = asked Equal; text = [] }

abbrev pub load_file : ℕ → FileLine
load_file k = record { path = path_under k file_name; file = record { uid = 0; gid = 0; mode = FILE_MODE; dir = false }; label = asked (plain_grade 15); text = [] }

-- the directory and the file of each of the first tasks
unfoldable pub load_files : ℕ → List FileLine
load_files zero = []
load_files (suc k) = load_files k ++ load_directory k ∷ load_file k ∷ []

-- whether the number of the task is even
abbrev pub is_even : ℕ → Bool
is_even k = k % 2 == 0

-- The grade of a task is below that of its file, or above it.
abbrev pub task_grade : ℕ → ℕ
task_grade k = if is_even k then 10 else 20

abbrev pub load_cred : Cred
load_cred = record { uid = 0; ruid = 0; svuid = 0; groups = 0 ∷ [] }

abbrev pub load_task : ℕ → ℕ → Task
load_task n k = record { name = task_name k; cred = load_cred; label = asked (plain_grade (task_grade k)); lines = load_lines k n }

-- the first tasks, each with so many lines
unfoldable pub load_tasks : ℕ → ℕ → List Task
load_tasks n zero = []
load_tasks n (suc k) = load_tasks n k ++ load_task n k ∷ []

-- the script of so many tasks with so many lines each
unfoldable pub generated : ℕ → ℕ → Script
generated n t = record { boots = Biba ∷ []; revocation = false; files = load_files t; tasks = load_tasks n t; steps = [] }
