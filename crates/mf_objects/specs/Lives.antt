-- Which entities live, and what they hold, as contracts ask it.
use Rattle.std.specs.Option.{option_map_or}
use Rattle.std.specs.Prelude.{◌≡◌, ◌==◌, ◌≢◌, ◌<◌, ◌≤◌, ℕ, All, Bool, true, false, not, IsTrue, nat_le, List, Option, Some, None, find, count_by, slice_index_or, IfSome, IfNone}
use Rattle.mf_elem.specs.declared.label.LabelValue.{LabelValue}
use Rattle.mf_elem.specs.declared.label.TheConstants.{SLOTS}
use Rattle.mf_elem.specs.declared.label.LabelValue.TheVariants as values
use Rattle.mf_item.specs.declared.view.ObjectView.{ObjectView}
use Rattle.mf_objects.specs.declared.id.Id.{Id}
use Rattle.mf_objects.specs.declared.entity.EntityData.{EntityData}
use Rattle.mf_objects.specs.declared.entity.EntityData.TheVariants.{Vnode}
use Rattle.mf_objects.specs.Live.{Entities, LiveEntity, id_of, file_at, kind_at, label_at, live_at, is_set, value_in}

-- the id is held by this directory
abbrev pub is_held_by : Id → Option Id → Bool
is_held_by dir parent = option_map_or (λ parent. parent.0 == dir.0) parent false

abbrev pub is_vnode : EntityData → Bool
is_vnode (Vnode vnode) = true
is_vnode other = false

abbrev pub is_directory : EntityData → Bool
is_directory (Vnode vnode) = vnode.file.dir
is_directory other = false

abbrev pub is_regular : EntityData → Bool
is_regular (Vnode vnode) = not vnode.file.dir
is_regular other = false

abbrev pub passes : (EntityData → Bool) → Option LiveEntity → Bool
passes test None = false
passes test (Some e) = test e.what

-- a live process, vnode, pipe, socket or directory has this id
abbrev pub IsLive : (EntityData → Bool) → Entities → Id → Type 0
IsLive test objects id = IsTrue (passes test (live_at objects id))

-- an entity was found, and the fact holds of what it is
abbrev pub IsLiveWhere : (EntityData → Type 0) → Option LiveEntity → Type 0
IsLiveWhere P None = ⊥
IsLiveWhere P (Some e) = P e.what

-- its id is at least this number
abbrev pub is_from : ℕ → LiveEntity → Bool
is_from n e = nat_le n e.id.0

-- the least live id of at least n
pub record IsLeast (n : ℕ) (live : List LiveEntity) (id : Id) : Type 0 where
  pub from : n ≤ id.0
  pub least : All (λ e. n ≤ e.id.0 → id.0 ≤ e.id.0) live

-- the id is that of the first live entity that passes the test, and none where no live entity passes it
pub record IsFirstLive (test : LiveEntity → Bool) (objects : Entities) (found : Option Id) : Type 0 where
  pub id : found ≡ id_of (find test objects.live)
  pub live : IfSome found (λ id. live_at objects id ≡ find test objects.live)
  pub absent : IfNone found (find test objects.live ≡ None)

-- how many live entities have the slot made
abbrev pub made_count : Entities → ℕ → ℕ
made_count objects slot = count_by (λ e. is_set (value_in slot e)) objects.live

-- the value of a label slot
abbrev pub value_at : Entities → Id → ℕ → LabelValue
value_at objects id slot = slice_index_or (label_at objects id) slot values.Unset

-- the entity as policies see it
abbrev pub view_at : Entities → Id → ObjectView
view_at objects id = record { id = id.0; kind = kind_at objects id; file = file_at objects id; label = label_at objects id }

-- where the given values aren't Unset, those of the label aren't either
abbrev pub HasSlotsFor : List LabelValue → List LabelValue → Type 0
HasSlotsFor label given =
    (slot : ℕ) → slot < SLOTS → slice_index_or given slot values.Unset ≢ values.Unset → slice_index_or label slot values.Unset ≢ values.Unset
