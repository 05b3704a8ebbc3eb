-- What becomes of the state by what a call changes, by docs/MANUAL.md (CALLS); and what of it takes memory.
use Rattle.std.specs.Prelude.{ℕ, Bool, true, false, List, drop}
use Rattle.mf_elem.specs.declared.label.Request.{Request}
use Rattle.mf_item.specs.declared.view.Kind.{Kind}
use Rattle.mf_objects.specs.declared.id.Id.{Id}
use Rattle.mf_objects.specs.declared.entity.EntityData.{EntityData}
use Rattle.mf_objects.specs.Descriptors.{closed, opened, with_fds, without_vnode}
use Rattle.mf_objects.specs.Live.{Entities, kind_of, label_at}
use Rattle.mf_objects.specs.Changes.{with_entity, without, goes_with, with_change, with_what, appended, with_message, with_messages, cleared, with_mode}
use Rattle.mf_plan.specs.declared.reply.Payload.{Payload}
use Rattle.mf_plan.specs.declared.reply.Payload.TheVariants as payload
use Rattle.mf_plan.specs.declared.state.State.{State}
use Rattle.mf_plan.specs.Effect.{Effect}
use Rattle.mf_plan.specs.Effect.Effect.{Unchanged, Make, Append, Deliver, Empty, Receive, SetMode, Open, Close, Unlink, End, Relabel, Load, Unload, Set}
use Rattle.mf_policy.specs.Settings.{change_in}
use Rattle.mf_policy.specs.declared.labels.Origin.TheVariants.{Maker}
use Rattle.mf_policy.specs.NewLabels.{new_label}
use Rattle.mf_policy.specs.Relabelled.{relabelled}
use Rattle.mf_policy.specs.Registration.{entries_without, given_after, registration_of, with_registered}

-- the state with these live entities
abbrev pub with_objects : State → Entities → State
with_objects s objects = record s { objects = objects }

-- one entity more, with the label that its maker's gives it
abbrev pub with_created : State → Id → Kind → List ℕ → EntityData → State
with_created s maker kind name what =
    with_objects s (with_entity s.objects name (new_label s.specs kind (Maker (label_at s.objects maker))) what)

-- what one live entity holds is changed
abbrev pub with_data : State → Id → (EntityData → EntityData) → State
with_data s id change = with_objects s (with_change (with_what change) s.objects id)

-- the entity with the label that the listed policies give it for what is asked
abbrev pub with_request : State → Id × Request → State
with_request s asked =
    with_objects s (with_change (λ e. record e { label = relabelled s.specs asked.1 (label_at s.objects asked.0) }) s.objects asked.0)

-- The table: the state after an effect of a call of this process. A module is registered in its initial state, and takes the next slot
-- number where it wants one. One that leaves the list changes no label, and its slot number isn't given again.
abbrev pub after : State → Id → Effect → State
after s me Unchanged = s
after s me (Make name what) = with_created s me (kind_of what) name what
after s me (Append id text) = with_data s id (appended text)
after s me (Deliver id text) = with_data s id (with_messages (with_message text))
after s me (Empty id) = with_data s id cleared
after s me (Receive id) = with_data s id (with_messages (drop 1))
after s me (SetMode id mode) = with_data s id (with_mode mode)
after s me (Open id fd) = with_data s id (with_fds (opened fd))
after s me (Close id n) = with_data s id (with_fds (closed n))
after s me (Unlink id) = with_objects s (without_vnode id s.objects)
after s me (End id) = with_objects s (without (goes_with id) s.objects)
after s me (Relabel id request) = with_request s (id, request)
after s me (Load m) = record s { specs = with_registered s.specs (registration_of m s.booted s.numbers); numbers = given_after s.numbers m }
after s me (Unload m) = record s { specs = entries_without m s.specs }
after s me (Set m change) = record s { specs = (change_in m change s.specs).1 }

-- the effects that may take memory
abbrev pub takes_memory : Effect → Bool
takes_memory (Make name what) = true
takes_memory (Append id text) = true
takes_memory (Deliver id text) = true
takes_memory (Relabel id request) = true
takes_memory (Load m) = true
takes_memory (Set m change) = true
takes_memory Unchanged = false
takes_memory (Empty id) = false
takes_memory (Receive id) = false
takes_memory (SetMode id mode) = false
takes_memory (Open id fd) = false
takes_memory (Close id n) = false
takes_memory (Unlink id) = false
takes_memory (End id) = false
takes_memory (Unload m) = false

-- a label, and the listing of a directory or of the rules, take memory
abbrev pub payload_takes_memory : Payload → Bool
payload_takes_memory (payload.Label parts) = true
payload_takes_memory (payload.Names count first) = true
payload_takes_memory (payload.Rules rules) = true
payload_takes_memory payload.None = false
payload_takes_memory (payload.Head head) = false
payload_takes_memory (payload.Size size) = false
payload_takes_memory (payload.Stat file size) = false
payload_takes_memory (payload.Modules modules) = false
payload_takes_memory (payload.Rule number) = false
payload_takes_memory (payload.Slot slot) = false
payload_takes_memory (payload.Fd n) = false
