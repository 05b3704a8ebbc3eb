-- Descriptors of processes: the numbers under which a process has files open, as open(2) and close(2) have them. What goes with a file is this
-- model's own.
use Rattle.std.specs.Option.{option_map_or}
use Rattle.std.specs.Prelude.{ℕ, ◌==◌, Bool, not, is_none, List, [], ◌∷◌, ◌++◌, Option, filter, find, map}
use Rattle.std.specs.List.{position_or_len, range_with_len}
use Rattle.mf_names.specs.declared.limits.TheConstants.{MOST_DESCRIPTORS}
use Rattle.mf_objects.specs.declared.id.Id.{Id}
use Rattle.mf_objects.specs.declared.descriptors.Fd.{Fd}
use Rattle.mf_objects.specs.declared.entity.EntityData.{EntityData}
use Rattle.mf_objects.specs.declared.entity.EntityData.TheVariants.{Process}
use Rattle.mf_objects.specs.Live.{Entities, has_id, live_at}
use Rattle.mf_objects.specs.Changes.{with_what, without}

-- the descriptors of a process, in the order of their opening. What isn't a process has none.
abbrev pub fds_of : EntityData → List Fd
fds_of (Process process) = process.fds
fds_of other = []

abbrev pub fds_at : Entities → Id → List Fd
fds_at objects id = option_map_or (λ e. fds_of e.what) (live_at objects id) []

abbrev pub has_number : ℕ → Fd → Bool
has_number n fd = fd.number == n

-- the descriptor of a number
abbrev pub fd_in : List Fd → ℕ → Option Fd
fd_in fds n = find (has_number n) fds

-- the lowest number that none of them has, and the number of all numbers where each is taken
unfoldable pub lowest_free : List Fd → ℕ
lowest_free fds = position_or_len (λ n. is_none (fd_in fds n)) (range_with_len 0 MOST_DESCRIPTORS)

-- it is on this file
abbrev pub is_on : Id → Fd → Bool
is_on file fd = fd.file.0 == file.0

-- Changes of the descriptors

abbrev pub with_fds : (List Fd → List Fd) → EntityData → EntityData
with_fds change (Process process) = Process (record process { fds = change process.fds })
with_fds change other = other

abbrev pub opened : Fd → List Fd → List Fd
opened fd fds = fds ++ fd ∷ []

abbrev pub closed : ℕ → List Fd → List Fd
closed n fds = filter (λ fd. not (has_number n fd)) fds

-- all descriptors on a file are closed
abbrev pub closed_on : Id → List Fd → List Fd
closed_on file fds = filter (λ fd. not (is_on file fd)) fds

-- in all processes
abbrev pub with_closed_on : Id → Entities → Entities
with_closed_on file objects = record objects { live = map (with_what (with_fds (closed_on file))) objects.live }

-- without a file or a directory, and without all descriptors on it
abbrev pub without_vnode : Id → Entities → Entities
without_vnode id objects = without (has_id id) (with_closed_on id objects)
