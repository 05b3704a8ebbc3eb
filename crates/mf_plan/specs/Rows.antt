-- The rows of the calls, by docs/MANUAL.md (CALLS): what each is about, which Ways says how to find and by which checks on the way; and then
-- its further checks and tests in their order, what it hands back, and what it changes. The checks are the kernel's of such a call, but for
-- those that docs/DIFFERENCES.md names.
--
-- A row is read from the left: `ask` is a check, `refuse_if` and `refuse_by` a test of the framework that ends the call with an errno, and
-- `returns`, `shows`, `changes` and `does_nothing` the end of a call that may be done.
use Rattle.std.specs.Option.{option_map_or}
use Rattle.std.specs.Prelude.{ℕ, ◌==◌, Bool, true, false, if◌then◌else◌, nat_le, nat_lt, not, List, [], length, map, None, option_and_then, option_map, Some}
use Rattle.mf_errno.specs.declared.errno.Errno.TheVariants as errno
use Rattle.mf_errno.specs.declared.module.Module.{Module}
use Rattle.mf_item.specs.declared.operation.CheckOp.TheVariants as op
use Rattle.mf_cred.specs.declared.cred.FileView.{FileView}
use Rattle.mf_cred.specs.declared.cred.TheConstants.{FILE_MODE, DIRECTORY_MODE}
use Rattle.mf_names.specs.declared.limits.TheConstants.{CONTENT_LIMIT, MOST_DESCRIPTORS}
use Rattle.mf_elem.specs.declared.label.LabelValue.{LabelValue}
use Rattle.mf_elem.specs.declared.label.LabelValue.TheVariants.{Unset}
use Rattle.mf_objects.specs.declared.limits.TheConstants.{MOST_MESSAGES, PIPE_LIMIT}
use Rattle.mf_objects.specs.declared.id.Id.{Id}
use Rattle.mf_objects.specs.Changes.{new_process, new_vnode, new_pipe, new_socket}
use Rattle.mf_objects.specs.declared.descriptors.Fd.{Fd}
use Rattle.mf_objects.specs.Descriptors.{fds_at, lowest_free}
use Rattle.mf_objects.specs.Live.{Entities, content_at, count_at, cred_at, file_at}
use Rattle.mf_objects.specs.Lives.{value_at}
use Rattle.mf_policy.specs.Loading.{load_errno, load_fault, unload_errno, unload_fault}
use Rattle.mf_policy.specs.Modules.{wants_slot}
use Rattle.mf_policy.specs.Registration.{slot_for, slot_in}
use Rattle.mf_policy.specs.Settings.{change_in, listed_rules}
use Rattle.mf_policy.specs.Sysctls.{asked_of, sysctl_named, sysctl_row}
use Rattle.mf_policy.specs.declared.settings.Change.{Change}
use Rattle.mf_policy.specs.declared.settings.Change.TheVariants.{RuleAdd, RuleSet, RuleRemove}
use Rattle.mf_item.specs.declared.view.Kind.TheVariants as kinds
use Rattle.mf_errno.specs.declared.module.Module.TheVariants as modules
use Rattle.mf_calls.specs.declared.script.Call.{Call}
use Rattle.mf_calls.specs.declared.script.Call.TheVariants as call
use Rattle.mf_plan.specs.declared.descriptors.Access.TheVariants.{Reading, Writing, Any}
use Rattle.mf_plan.specs.declared.reply.Payload.{Payload}
use Rattle.mf_plan.specs.declared.reply.Payload.TheVariants as payload
use Rattle.mf_plan.specs.declared.state.State.{State}
use Rattle.mf_plan.specs.Checks.{binding, on, for_privilege, by_itself, by_socket}
use Rattle.mf_plan.specs.Names.{child_name}
use Rattle.mf_plan.specs.Path.{last_name}
use Rattle.mf_plan.specs.Settings.{is_tunable, owner_named, unless_success}
use Rattle.mf_plan.specs.Views.{is_dir, overfills}
use Rattle.mf_plan.specs.Payloads.{head, names, message, label, loaded}
use Rattle.mf_plan.specs.Effect.Effect.{Make, Append, Deliver, Empty, Receive, SetMode, Open, Close, Unlink, End, Load, Unload, Set}
use Rattle.mf_plan.specs.Ways.Place.{Asking, Caller, Entry, File, Free, Listed, Loading, Named, Nothing, Opened, Setting, Sockets, Unloading, Unused}
use Rattle.mf_plan.specs.Ways.{At, Place, way_to}
use Rattle.mf_plan.specs.Row.{Row, ask, ask_if, returns, shows, changes, does_nothing, refuse_if, refuse_by, if_room, relabel_by, through}

-- A new file is owned by the effective uid of its maker, and is of the group of its directory.
abbrev pub new_file : Entities → Id → Id → ℕ → Bool → FileView
new_file objects maker dir mode is_dir =
    record { uid = (cred_at objects maker).uid; gid = (file_at objects dir).gid; mode = mode; dir = is_dir }

abbrev pub makes_file : State → Id → List (List ℕ) → ℕ → Bool → Id → Row
makes_file s me path mode is_dir dir =
    ask (on me op.VnodeCreate dir) (if_room s (changes (Make (last_name path) (new_vnode dir (new_file s.objects me dir mode is_dir) []))))

-- the bytes of an open file are read; a text is appended to them
abbrev pub reads : State → Id → Id → Row
reads s me id = ask (on me op.VnodeRead id) (shows (head s.objects id))

abbrev pub appends : State → Id → List ℕ → Id → Row
appends s me text id =
    ask (on me op.VnodeWrite id) (refuse_if (overfills CONTENT_LIMIT s.objects text id) errno.Efbig (changes (Append id text)))

-- what mac_biba has in its slot of an entity's label; Unset where it isn't listed
abbrev pub biba_value : State → Id → LabelValue
biba_value s id = option_map_or (value_at s.objects id) (slot_in modules.Biba s.specs) Unset

-- the descriptor that a process gets on a file: under the lowest free number, with these values, which are what mac_biba has in their labels

abbrev pub fd_with : State → Id → Bool → Bool → LabelValue → LabelValue → Id → Fd
fd_with s me read write subject object file =
    record { number = lowest_free (fds_at s.objects me); file = file; read = read; write = write; subject = subject; object = object }

abbrev pub new_fd : State → Id → Bool → Bool → Id → Fd
new_fd s me read write file = fd_with s me read write (biba_value s me) (biba_value s file) file

-- a file is opened, where the process may have one descriptor more
abbrev pub opens : State → Id → Bool → Bool → Id → Row
opens s me read write id =
    refuse_if (nat_le MOST_DESCRIPTORS (length (fds_at s.objects me))) errno.Emfile
    (let fd = new_fd s me read write id in returns (payload.Fd fd.number) (Open me fd))

-- the setting that a change of the rules about files is of
abbrev pub of_rules : Change → Place
of_rules change = Setting false (Some modules.Bsdextended) (Some change)

-- a change that the policy may refuse
abbrev pub set : State → Payload → Module × Change → Row
set s shown asked = refuse_by (unless_success (change_in asked.0 asked.1 s.specs).0.errno) (returns shown (Set asked.0 asked.1))

-- what a call is about, its row, once that is found, and the whole of it, with the way to what it is about
pub record About : Type 0 where
  pub place : Place
  pub row : At place → Row
  pub whole : Row

abbrev pub about : State → Id → (place : Place) → (At place → Row) → About
about s me place row = record { place = place; row = row; whole = through (way_to s me place) row }

-- The table: what a call of this process of the task is about, and its row, once that is found.
abbrev pub about_of : State → List ℕ → Id → Call → About
about_of s task me (call.Fork child) = about s me (Unused kinds.Process (child_name task child)) (λ free.
    if_room s (changes (Make (child_name task child) (new_process (cred_at s.objects me)))))
about_of s task me call.Exit = about s me Nothing (λ none. changes (End me))
about_of s task me (call.See name) = about s me (Named kinds.Process name) (λ id. ask (on me op.ProcVisible id) does_nothing)
about_of s task me (call.Signal name) = about s me (Named kinds.Process name) (λ id. ask (on me op.ProcSignal id) does_nothing)
about_of s task me (call.Debug name) = about s me (Named kinds.Process name) (λ id. ask (on me op.ProcDebug id) does_nothing)
about_of s task me (call.Sched name) = about s me (Named kinds.Process name) (λ id. ask (on me op.ProcSched id) does_nothing)
about_of s task me (call.Priv p) = about s me Nothing (λ none. ask (for_privilege me p) does_nothing)
about_of s task me call.Getpmac = about s me Caller (λ id. shows (label s id))
about_of s task me (call.Setpmac text) = about s me (Asking kinds.Process text Caller) (relabel_by (λ id. by_itself me op.CredRelabel))
about_of s task me (call.Exec path) = about s me (File path) (λ id. refuse_if (is_dir s.objects id) errno.Eacces (ask (on me op.VnodeExec id) does_nothing))
about_of s task me (call.Create path) = about s me (Free path) (λ dir. makes_file s me path FILE_MODE false dir)
about_of s task me (call.Mkdir path) = about s me (Free path) (λ dir. makes_file s me path DIRECTORY_MODE true dir)
about_of s task me (call.Read path) = about s me (File path) (λ id.
    refuse_if (is_dir s.objects id) errno.Eisdir (ask (on me op.VnodeOpenRead id) (reads s me id)))
about_of s task me (call.Write path text) = about s me (File path) (λ id.
    refuse_if (is_dir s.objects id) errno.Eisdir (ask (on me op.VnodeOpenWrite id) (appends s me text id)))
about_of s task me (call.Stat path) = about s me (File path) (λ id.
    ask (on me op.VnodeStat id) (shows (payload.Stat (file_at s.objects id) (length (content_at s.objects id)))))
about_of s task me (call.Getfmac path) = about s me (File path) (λ id. ask (on me op.VnodeStat id) (shows (label s id)))
about_of s task me (call.Setfmac text path) = about s me (Asking kinds.Vnode text (File path)) (relabel_by (on me op.VnodeRelabel))
about_of s task me (call.Readdir path) = about s me (File path) (λ id.
    refuse_if (not (is_dir s.objects id)) errno.Enotdir (ask (on me op.VnodeReaddir id) (shows (names s.objects id))))
about_of s task me (call.Chmod path mode) = about s me (File path) (λ id. ask (on me op.VnodeSetmode id) (changes (SetMode id mode)))
about_of s task me (call.Unlink path) = about s me (Entry path) (λ entry.
    ask (on me op.VnodeUnlinkDir entry.0) (ask (on me op.VnodeUnlink entry.1)
    (refuse_if (nat_lt 0 (count_at s.objects entry.1)) errno.Enotempty (changes (Unlink entry.1)))))
about_of s task me (call.OpenFd path read write) = about s me (File path) (λ id.
    refuse_if (is_dir s.objects id) errno.Eisdir
    (ask_if read (on me op.VnodeOpenRead id) (ask_if write (on me op.VnodeOpenWrite id) (opens s me read write id))))
about_of s task me (call.Fread n) = about s me (Opened Reading n) (reads s me)
about_of s task me (call.Fwrite n text) = about s me (Opened Writing n) (appends s me text)
about_of s task me (call.Close n) = about s me (Opened Any n) (λ id. changes (Close me n))
about_of s task me (call.Pipe name) = about s me (Unused kinds.Pipe name) (λ free. if_room s (changes (Make name (new_pipe me))))
about_of s task me (call.Socket name) = about s me (Unused kinds.Socket name) (λ free. if_room s (changes (Make name (new_socket me))))
about_of s task me (call.Pread name) = about s me (Named kinds.Pipe name) (λ id.
    ask (on me op.PipeRead id) (refuse_if (length (content_at s.objects id) == 0) errno.Eagain (returns (head s.objects id) (Empty id))))
about_of s task me (call.Pwrite name text) = about s me (Named kinds.Pipe name) (λ id.
    ask (on me op.PipeWrite id) (refuse_if (overfills PIPE_LIMIT s.objects text id) errno.Eagain (changes (Append id text))))
about_of s task me (call.Pstat name) = about s me (Named kinds.Pipe name) (λ id.
    ask (on me op.PipeStat id) (shows (payload.Size (length (content_at s.objects id)))))
about_of s task me (call.Setpipemac text name) = about s me (Asking kinds.Pipe text (Named kinds.Pipe name)) (relabel_by (on me op.PipeRelabel))
about_of s task me (call.Send from to text) = about s me (Sockets from to) (λ ends.
    ask (by_socket me ends.0 op.SocketDeliver ends.1)
    (refuse_if (nat_le MOST_MESSAGES (count_at s.objects ends.1)) errno.Enobufs (changes (Deliver ends.1 text))))
about_of s task me (call.Recv name) = about s me (Named kinds.Socket name) (λ id.
    ask (on me op.SocketReceive id) (refuse_if (count_at s.objects id == 0) errno.Eagain (returns (message s.objects id) (Receive id))))
about_of s task me (call.Seesock name) = about s me (Named kinds.Socket name) (λ id. ask (on me op.SocketVisible id) does_nothing)
about_of s task me (call.Setsockmac text name) = about s me (Asking kinds.Socket text (Named kinds.Socket name)) (relabel_by (on me op.SocketRelabel))
about_of s task me (call.Bind name tcp port) = about s me (Named kinds.Socket name) (λ id. ask (binding me tcp port id) does_nothing)
about_of s task me call.Kldstat = about s me Nothing (λ none. shows (payload.Modules (map loaded s.specs)))
about_of s task me (call.Kldload name) = about s me (Loading name) (λ m.
    ask (by_itself me op.KldLoad) (refuse_by (option_map load_errno (load_fault s.booted s.specs s.numbers m))
    (returns (payload.Slot (slot_for (wants_slot m) s.numbers)) (Load m))))
about_of s task me (call.Kldunload name) = about s me (Unloading name) (λ m. refuse_by (option_map unload_errno (unload_fault s.specs m)) (changes (Unload m)))
about_of s task me (call.Sysctl name value) =
    about s me (Setting (is_tunable s.specs name) (owner_named name)
    (option_and_then (λ v. if (sysctl_row v).tunable then None else asked_of v s.specs value) (sysctl_named name))) (set s payload.None)
about_of s task me call.UgidfwList = about s me (Listed modules.Bsdextended) (λ listed. shows (option_map_or payload.Rules (listed_rules s.specs) payload.None))
about_of s task me (call.UgidfwAdd rule) = about s me (of_rules (RuleAdd rule)) (λ asked.
    set s (option_map_or payload.Rule (change_in asked.0 asked.1 s.specs).0.number payload.None) asked)
about_of s task me (call.UgidfwSet n rule) = about s me (of_rules (RuleSet n rule)) (set s payload.None)
about_of s task me (call.UgidfwRemove n) = about s me (of_rules (RuleRemove n)) (set s payload.None)
