-- What each call is about, and how it is found: by which checks on the way, and with which errno where it isn't there.
use Rattle.std.specs.Option.{ok_or}
use Rattle.std.specs.Prelude.{ℕ, ◌==◌, Bool, true, not, ◌||◌, if◌then◌else◌, List, [], ◌∷◌, map, Result, Ok, Err}
use Rattle.std.specs.Prelude.{Option, Some, None, is_some, option_map, option_and_then}
use Rattle.mf_text.specs.Results.{and_then}
use Rattle.mf_errno.specs.Names.{module_named}
use Rattle.mf_errno.specs.declared.errno.Errno.{Errno}
use Rattle.mf_errno.specs.declared.errno.Errno.TheVariants as errno
use Rattle.mf_errno.specs.declared.module.Module.{Module}
use Rattle.mf_errno.specs.declared.privilege.Priv.TheVariants as privilege
use Rattle.mf_elem.specs.declared.label.Request.{Request}
use Rattle.mf_item.specs.declared.operation.CheckOp.TheVariants as op
use Rattle.mf_item.specs.declared.view.Kind.{Kind}
use Rattle.mf_item.specs.declared.view.Kind.TheVariants as kinds
use Rattle.mf_plan.specs.declared.outline.Check.{Check}
use Rattle.mf_objects.specs.declared.id.Id.{Id}
use Rattle.mf_objects.specs.declared.descriptors.Fd.{Fd}
use Rattle.mf_objects.specs.Descriptors.{fd_in, fds_at}
use Rattle.mf_objects.specs.Live.{Entities, cred_at}
use Rattle.mf_policy.specs.Registration.{is_listed}
use Rattle.mf_policy.specs.declared.settings.Change.{Change}
use Rattle.mf_plan.specs.declared.descriptors.Access.{Access}
use Rattle.mf_plan.specs.declared.descriptors.Access.TheVariants.{Reading, Writing, Any}
use Rattle.mf_plan.specs.declared.lookup.Lookup.{Lookup}
use Rattle.mf_plan.specs.declared.state.State.{State}
use Rattle.mf_plan.specs.declared.target.Target.{Target}
use Rattle.mf_plan.specs.Path.{lookup_along, found_at, free_at, entry_at}
use Rattle.mf_plan.specs.Checks.{on, by_itself, for_privilege}
use Rattle.mf_plan.specs.Relabels.{claimed_in}
use Rattle.mf_plan.specs.Views.{entity_named}

-- What a call is about

pub data Place : Type 0 where
  -- nothing; the process that calls
  Nothing Caller : Place
  -- the process, pipe or socket of a name; a name that none of that kind has
  Named Unused : Kind → List ℕ → Place
  -- a file or directory; a free name in a directory; a directory and its entry
  File Free Entry : List (List ℕ) → Place
  -- the file on which the caller has a descriptor of that number, which is open so
  Opened : Access → ℕ → Place
  -- one socket, and another that it reaches
  Sockets : List ℕ → List ℕ → Place
  -- a module that is listed; one to be loaded; one to be unloaded
  Listed : Module → Place
  Loading Unloading : List ℕ → Place
  -- whether it is a tunable of a listed module, which nobody changes; the module whose setting it is, and the change that it is to have
  Setting : Bool → Option Module → Option Change → Place
  -- what a text asks of the label of an entity of that kind
  Asking : Kind → List ℕ → Place → Place

-- what is found in a place
abbrev pub At : Place → Type 0
At Caller = Id
At (Named kind name) = Id
At (File path) = Id
At (Free path) = Id
At (Entry path) = Id × Id
At (Opened access n) = Id
At (Sockets from to) = Id × Id
At (Loading name) = Module
At (Unloading name) = Module
At (Setting tunable m change) = Module × Change
At (Asking kind text place) = Request × At place
At other = Unit {0}

-- How it is found

-- the checks on the way to something, and what is there, or with which errno it isn't
pub record Way (A : Type 0) : Type 0 where
  pub checks : List Check
  pub there : Result A Errno

-- no check on the way
abbrev pub straight : {A : Type 0} → Result A Errno → Way A
straight there = record { checks = []; there = there }

-- goes on with what a result has
abbrev pub then_way : {A B : Type 0} → Result A Errno → (A → Way B) → Way B
then_way (Ok a) rest = rest a
then_way (Err e) rest = straight (Err e)

-- this check comes first
abbrev pub asking : {A : Type 0} → Check → Way A → Way A
asking check way = record way { checks = check ∷ way.checks }

-- with what is asked of what is there
abbrev pub carrying : {A : Type 0} → Request → Way A → Way (Request × A)
carrying request way = record { checks = way.checks; there = and_then way.there (λ what. Ok (request, what)) }

-- the errno where no entity of that kind has a name
abbrev pub missing : Kind → Errno
missing kinds.Process = errno.Esrch
missing other = errno.Enoent

-- along a path, each directory is looked into
abbrev pub along : {A : Type 0} → Id → (Target → Result A Errno) → Lookup → Way A
along me place walk = record { checks = map (on me op.VnodeLookup) walk.lookups; there = place walk.target }

-- whether a descriptor is open so
abbrev pub allows : Access → Fd → Bool
allows Reading fd = fd.read
allows Writing fd = fd.write
allows Any fd = true

-- the descriptor of that number of a process, where it is open so; and its file

abbrev pub opened_at : Entities → Id → Access → ℕ → Option Fd
opened_at objects me access n = option_and_then (λ fd. if allows access fd then Some fd else None) (fd_in (fds_at objects me) n)

abbrev pub opened_file_at : Entities → Id → Access → ℕ → Option Id
opened_file_at objects me access n = option_map (λ fd. fd.file) (opened_at objects me access n)

-- root alone changes a listed module's setting, unless it is a tunable, to a value that it has
abbrev pub setting_found : State → Id → Bool → Option Module → Option Change → Result (Module × Change) Errno
setting_found s me tunable m change =
    if not ((cred_at s.objects me).uid == 0) || tunable then Err errno.Eperm else
    and_then (ok_or m errno.Enoent) (λ m. if not (is_listed m s.specs) then Err errno.Enoent else
    and_then (ok_or change errno.Einval) (λ change. Ok (m, change)))

-- The table: the way of this process to a place.
abbrev pub way_to : State → Id → (place : Place) → Way (At place)
way_to s me Nothing = straight (Ok tt)
way_to s me Caller = straight (Ok me)
way_to s me (Named kind name) = straight (ok_or (entity_named s.objects kind name) (missing kind))
way_to s me (Unused kind name) = straight (if is_some (entity_named s.objects kind name) then Err errno.Eexist else Ok tt)
way_to s me (File path) = along me found_at (lookup_along s.objects path)
way_to s me (Free path) = along me free_at (lookup_along s.objects path)
way_to s me (Entry path) = along me entry_at (lookup_along s.objects path)
way_to s me (Opened access n) = straight (ok_or (opened_file_at s.objects me access n) errno.Ebadf)
way_to s me (Sockets from to) =
    then_way (ok_or (entity_named s.objects kinds.Socket from) errno.Enoent) (λ from. asking (on me op.SocketSend from)
    (straight (and_then (ok_or (entity_named s.objects kinds.Socket to) errno.Enoent) (λ to. Ok (from, to)))))
way_to s me (Listed m) = straight (if is_listed m s.specs then Ok tt else Err errno.Enoent)
way_to s me (Loading name) = asking (for_privilege me privilege.KldLoad) (straight (ok_or (module_named name) errno.Enoent))
way_to s me (Unloading name) =
    asking (for_privilege me privilege.KldUnload) (asking (by_itself me op.KldUnload) (straight (ok_or (module_named name) errno.Enoent)))
way_to s me (Setting tunable m change) = straight (setting_found s me tunable m change)
way_to s me (Asking kind text place) =
    then_way (ok_or (claimed_in s.specs kind text) errno.Einval) (λ request. carrying request (way_to s me place))

-- the entity that a call is about: of a free name its directory, of an entry the entry, of a descriptor its file, and of two sockets
-- the second
abbrev pub target_in : (place : Place) → At place → Option Id
target_in Caller id = Some id
target_in (Named kind name) id = Some id
target_in (File path) id = Some id
target_in (Free path) id = Some id
target_in (Entry path) entry = Some entry.1
target_in (Opened access n) id = Some id
target_in (Sockets from to) ends = Some ends.1
target_in (Asking kind text place) asked = target_in place asked.1
target_in other found = None

-- what is asked of a label
abbrev pub asked_in : (place : Place) → At place → Option Request
asked_in (Asking kind text place) asked = Some asked.0
asked_in other found = None
