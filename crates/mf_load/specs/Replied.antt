-- The errnos of the replies of a history, by themselves.
use Rattle.std.specs.Prelude.{ℕ, List, [], ◌∷◌, count_by}
use Rattle.std.specs.List.{flat_map}
use Rattle.mf_errno.specs.declared.errno.Errno.{Errno}
use Rattle.mf_errno.specs.Same.{is_same}
use Rattle.mf_core.specs.declared.history.Event.{Event}
use Rattle.mf_core.specs.declared.history.Event.TheVariants as event
use Rattle.mf_load.specs.Counts.{errno_of, reply_count}
use Rattle.mf_load.specs.Summary.{count_text}

-- the errno of an event that is a reply
abbrev pub errno_in : Event → List Errno
errno_in (event.Done t line reply) = errno_of reply ∷ []
errno_in (event.Changed t line reply) = errno_of reply ∷ []
errno_in other = []

-- the errnos of the replies among these events, in order
abbrev pub errnos_in : List Event → List Errno
errnos_in events = flat_map errno_in events

-- the line of an errno that is replied in these events
abbrev pub replied_text : List Event → Errno → List ℕ
replied_text events errno = count_text errno (reply_count errno events)

-- the line of an errno, by how often it stands among those that were replied
abbrev pub counted_text : List Errno → Errno → List ℕ
counted_text replied errno = count_text errno (count_by (is_same errno) replied)
