-- Which scripts are well formed, by the grammar and the limits of docs/MANUAL.md (THE SCRIPT, LIMITS).
use Rattle.std.specs.Prelude.{◌≡◌, ◌≢◌, ℕ, ◌<◌, ◌≤◌, true, ◌||◌, IsTrue, List, [], ◌∷◌, ◌++◌, length, IfSome, All, AllPairs}
use Rattle.std.specs.List.{sum_by, count_by}
use Rattle.std.specs.Char.{is_ascii_graphic}
use Rattle.mf_errno.specs.declared.module.Module.{Module}
use Rattle.mf_elem.specs.declared.label.Request.{Request}
use Rattle.mf_elem.specs.Bounds.{IsRequest}
use Rattle.mf_item.specs.declared.view.Kind.{Kind}
use Rattle.mf_item.specs.declared.view.Kind.TheVariants as kinds
use Rattle.mf_rule.specs.RuleGrammar.{IsRule}
use Rattle.mf_rule.specs.declared.rule_list.TheConstants.{MAX_RULES}
use Rattle.mf_rule.specs.declared.ports.TheConstants.{LAST_PORT}
use Rattle.mf_cred.specs.declared.cred.Cred.{Cred}
use Rattle.mf_calls.specs.declared.script.Call.{Call}
use Rattle.mf_calls.specs.declared.script.Call.TheVariants as call
use Rattle.mf_calls.specs.declared.script.FileLine.{FileLine}
use Rattle.mf_calls.specs.declared.script.Line.{Line}
use Rattle.mf_calls.specs.declared.script.Task.{Task}
use Rattle.mf_calls.specs.declared.script.Script.{Script}
use Rattle.mf_calls.specs.Names.{is_some_text, is_name, is_process_name, is_component}
use Rattle.mf_calls.specs.Paths.{directory_of, has_directory}
use Rattle.mf_calls.specs.Tasks.{lists_rules}
use Rattle.mf_calls.specs.Boots.{may_ask_for}
use Rattle.mf_calls.specs.declared.limits.TheConstants.{FILE_LIMIT, TASK_LIMIT, LINE_LIMIT, RULE_LIST_LIMIT, STEP_LIMIT, MODE_LIMIT, UID_MAX}
use Rattle.mf_names.specs.declared.limits.TheConstants.{CONTENT_LIMIT, MOST_DESCRIPTORS, PATH_LIMIT, SCRIPT_LIMIT}
use Rattle.mf_cred.specs.declared.cred.TheConstants.{MOST_GROUPS}

-- some, all or none of the modules, each at most once, in any order
abbrev pub AreBoots : List Module → Type 0
AreBoots boots = AllPairs (λ m n. m ≢ n) boots

-- what a line asks for an entity of that kind: a request that a label text can spell, and that the script may make
pub record IsAsked (kind : Kind) (boots : List Module) (request : Request) : Type 0 where
  pub spelled : IsRequest request
  pub allowed : may_ask_for kind boots request ≡ true

-- how many lines a task has
abbrev pub line_count : Task → ℕ
line_count task = length task.lines

abbrev pub rule_list_count : Task → ℕ
rule_list_count task = count_by (λ line. lists_rules line.call) task.lines

-- printable bytes of ASCII, and no more than a script has; there may be none
pub record IsPrintable (text : List ℕ) : Type 0 where
  pub each : All (λ b. is_ascii_graphic b ≡ true) text
  pub few : length text ≤ SCRIPT_LIMIT

-- a word of a line: some printable bytes of ASCII, and no more than a script has
pub record IsWord (w : List ℕ) : Type 0 where
  pub some : is_some_text w ≡ true
  pub printable : IsPrintable w

-- up to 8 components, each of which is a word of a path; the root directory has none
pub record IsPath (path : List (List ℕ)) : Type 0 where
  pub few : length path ≤ PATH_LIMIT
  pub each : All (λ name. is_component name ≡ true) path

pub record IsText (most : ℕ) (text : List ℕ) : Type 0 where
  pub few : length text ≤ most
  pub each : All (λ byte. byte < 256) text

-- A file below the root directory, of which the line may ask what it asks with these modules booted. A directory has no text.
pub record IsFormedFile (boots : List Module) (f : FileLine) : Type 0 where
  pub path : IsPath f.path
  pub below_root : 1 ≤ length f.path
  pub uid : f.file.uid ≤ UID_MAX
  pub gid : f.file.gid ≤ UID_MAX
  pub mode : f.file.mode ≤ MODE_LIMIT
  pub label : IsAsked kinds.Vnode boots f.label
  pub text : IsText CONTENT_LIMIT f.text
  pub directory : f.file.dir ≡ true → f.text ≡ []

-- each file stands in a directory of an earlier line: those that came earlier, and the rest
abbrev pub AreInDirectories : List FileLine → List FileLine → Type 0
AreInDirectories earlier [] = Unit {0}
AreInDirectories earlier (f ∷ files) = IsTrue (has_directory earlier (directory_of f.path)) × AreInDirectories (earlier ++ f ∷ []) files

-- one uid is the effective, the real and the saved one, and there are 1 to 16 groups
pub record IsFormedCred (cred : Cred) : Type 0 where
  pub real : cred.ruid ≡ cred.uid
  pub saved : cred.svuid ≡ cred.uid
  pub fits : cred.uid ≤ UID_MAX
  pub some : 1 ≤ length cred.groups
  pub few : length cred.groups ≤ MOST_GROUPS
  pub each : All (λ group. group ≤ UID_MAX) cred.groups

-- a name of a task, a child, a pipe or a socket
abbrev pub IsName : List ℕ → Type 0
IsName name = is_name name ≡ true

-- what a call may name, and how much it may write
abbrev pub IsFormedCall : Call → Type 0
IsFormedCall (call.Fork child) = IsName child
IsFormedCall call.Exit = Unit {0}
IsFormedCall (call.See process) = is_process_name process ≡ true
IsFormedCall (call.Signal process) = is_process_name process ≡ true
IsFormedCall (call.Debug process) = is_process_name process ≡ true
IsFormedCall (call.Sched process) = is_process_name process ≡ true
IsFormedCall (call.Priv privilege) = Unit {0}
IsFormedCall call.Getpmac = Unit {0}
IsFormedCall (call.Setpmac label) = IsWord label
IsFormedCall (call.Exec path) = IsPath path
IsFormedCall (call.Create path) = IsPath path
IsFormedCall (call.Mkdir path) = IsPath path
IsFormedCall (call.Read path) = IsPath path
IsFormedCall (call.Write path text) = IsPath path × IsText SCRIPT_LIMIT text
IsFormedCall (call.Stat path) = IsPath path
IsFormedCall (call.Getfmac path) = IsPath path
IsFormedCall (call.Setfmac label path) = IsWord label × IsPath path
IsFormedCall (call.Readdir path) = IsPath path
IsFormedCall (call.Chmod path mode) = IsPath path × (mode ≤ MODE_LIMIT)
IsFormedCall (call.Unlink path) = IsPath path
IsFormedCall (call.OpenFd path read write) = IsPath path × ((read || write) ≡ true)
IsFormedCall (call.Fread n) = n < MOST_DESCRIPTORS
IsFormedCall (call.Fwrite n text) = (n < MOST_DESCRIPTORS) × IsText SCRIPT_LIMIT text
IsFormedCall (call.Close n) = n < MOST_DESCRIPTORS
IsFormedCall (call.Pipe name) = IsName name
IsFormedCall (call.Socket name) = IsName name
IsFormedCall (call.Pread name) = IsName name
IsFormedCall (call.Pwrite name text) = IsName name × IsText SCRIPT_LIMIT text
IsFormedCall (call.Pstat name) = IsName name
IsFormedCall (call.Setpipemac label name) = IsWord label × IsName name
IsFormedCall (call.Send from to text) = IsName from × IsName to × IsText SCRIPT_LIMIT text
IsFormedCall (call.Recv name) = IsName name
IsFormedCall (call.Seesock name) = IsName name
IsFormedCall (call.Setsockmac label name) = IsWord label × IsName name
IsFormedCall (call.Bind name tcp port) = IsName name × (port ≤ LAST_PORT)
IsFormedCall call.Kldstat = Unit {0}
IsFormedCall (call.Kldload word) = IsWord word
IsFormedCall (call.Kldunload word) = IsWord word
IsFormedCall (call.Sysctl name value) = IsPrintable name × IsPrintable value
IsFormedCall call.UgidfwList = Unit {0}
IsFormedCall (call.UgidfwAdd rule) = IsRule rule
IsFormedCall (call.UgidfwSet n rule) = (n < MAX_RULES) × IsRule rule
IsFormedCall (call.UgidfwRemove n) = n < MAX_RULES

pub record IsFormedLine (line : Line) : Type 0 where
  pub child : IfSome line.child IsName
  pub call : IsFormedCall line.call

pub record IsFormedTask (boots : List Module) (task : Task) : Type 0 where
  pub name : IsName task.name
  pub cred : IsFormedCred task.cred
  pub label : IsAsked kinds.Process boots task.label
  pub few : length task.lines ≤ LINE_LIMIT
  pub lines : All IsFormedLine task.lines

-- within the limits; paths of files differ, and so do names of tasks, and a step names a task, which need not be there
pub record IsWellFormed (s : Script) : Type 0 where
  pub boots : AreBoots s.boots
  pub files : length s.files ≤ FILE_LIMIT
  pub paths : AllPairs (λ f g. f.path ≢ g.path) s.files
  pub each_file : All (IsFormedFile s.boots) s.files
  pub directories : AreInDirectories [] s.files
  pub tasks : length s.tasks ≤ TASK_LIMIT
  pub names : AllPairs (λ t u. t.name ≢ u.name) s.tasks
  pub each_task : All (IsFormedTask s.boots) s.tasks
  pub rule_lists : sum_by rule_list_count s.tasks ≤ RULE_LIST_LIMIT
  pub steps : length s.steps ≤ STEP_LIMIT
  pub each_step : All (λ step. IsName step.task) s.steps
