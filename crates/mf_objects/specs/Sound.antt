-- What is true of every population of live entities and the zones of their labels.
use Rattle.std.specs.Prelude.{◌≡◌, ◌==◌, ◌≢◌, ℕ, ◌+◌, ◌<◌, ◌≤◌, true, slice_index_or, List, [], ◌∷◌, length, map, AllPairs, Option, Some, None, if◌then◌else◌}
use Rattle.std.specs.List.{sum_by}
use Rattle.mf_elem.specs.declared.label.LabelValue.{LabelValue}
use Rattle.mf_elem.specs.declared.label.TheConstants.{SLOTS}
use Rattle.mf_item.specs.declared.view.ObjectView.{ObjectView}
use Rattle.mf_slots.specs.Zones.{Contents, Handles, handle, under, label_values, NoneUnset}
use Rattle.mf_objects.specs.declared.limits.TheConstants.{MOST_ENTITIES, ROOT_MODE}
use Rattle.mf_objects.specs.declared.entity.Entity.{Entity}
use Rattle.mf_objects.specs.declared.entity.EntityData.TheVariants.{Vnode}
use Rattle.mf_objects.specs.declared.id.Id.{Id}
use Rattle.mf_objects.specs.Live.{LiveEntity, Entities, has_id, live_at, kind_of, file_of}
use Rattle.mf_objects.specs.Descriptors.{fds_of}
use Rattle.mf_objects.specs.Population.{IsPopulation}

-- an entity as contracts see it
abbrev pub live_entity : Contents → Entity → LiveEntity
live_entity zones e = record { id = e.id; name = e.name; label = label_values zones e.label; what = e.what }

abbrev pub labels_of : List Entity → List Handles
labels_of entities = map (λ (e : Entity). e.label) entities

-- 1 where the handle is this one, and else 0
abbrev pub owned : Option ℕ → ℕ → ℕ
owned None h = 0
owned (Some k) h = if k == h then 1 else 0

-- how many of the labels have this handle in this slot
abbrev pub owner_count : ℕ → ℕ → List Handles → ℕ
owner_count slot h [] = 0
owner_count slot h (label ∷ labels) = owned (handle label slot) h + owner_count slot h labels

-- 1 where a value lies there, and else 0
abbrev pub held_count : Option LabelValue → ℕ
held_count None = 0
held_count (Some value) = 1

-- the zones hold the values of these labels' made slots, each once, and nothing else
pub record IsExact (zones : Contents) (labels : List Handles) : Type 0 where
  pub each : (slot h : ℕ) → slot < SLOTS → owner_count slot h labels ≡ held_count (under zones slot h)

-- the live entities as contracts see them
abbrev pub live_of : Contents → List Entity → List LiveEntity
live_of zones entities = map (live_entity zones) entities

-- the entities are a population of no more than may live, and the zones hold the values of their labels: a slot is Unset where it isn't made
pub record IsSound (next : ℕ) (zones : Contents) (entities : List Entity) : Type 0 where
  pub population : IsPopulation (record { next = next; live = live_of zones entities })
  pub few : length entities ≤ MOST_ENTITIES
  pub exact : IsExact zones (labels_of entities)
  pub set : NoneUnset zones

-- how many descriptors the processes have
abbrev pub open_count : List Entity → ℕ
open_count entities = sum_by (λ (e : Entity). length (fds_of e.what)) entities

-- the entities stand by rising id
abbrev pub IsById : List Entity → Type 0
IsById entities = AllPairs (λ (older e : Entity). older.id.0 < e.id.0) entities

-- the entity of this id stands at this place, which is the first one only for the root
pub record IsPlace (objects : Entities) (id : Id) (place : ℕ) : Type 0 where
  pub within : place < length objects.live
  pub found : (d : LiveEntity) → live_at objects id ≡ Some (slice_index_or objects.live place d)
  pub has : (d : LiveEntity) → has_id id (slice_index_or objects.live place d) ≡ true
  pub later : id.0 ≢ 0 → 0 < place

-- an entity as contracts see it, with these label values
abbrev pub with_values : List LabelValue → Entity → LiveEntity
with_values label e = record { id = e.id; name = e.name; label = label; what = e.what }

-- the root directory with this label, of uid 0 and gid 0, with mode 755
abbrev pub root_labelled : Handles → Entity
root_labelled label =
    record {
      id = record { 0 = 0 };
      name = [];
      label = label;
      what = Vnode (record { parent = None; file = record { uid = 0; gid = 0; mode = ROOT_MODE; dir = true }; content = [] });
    }

-- policies see an entity so, but for its label
pub record IsSeenSo (e : Entity) (view : ObjectView) : Type 0 where
  pub id : view.id ≡ e.id.0
  pub kind : view.kind ≡ kind_of e.what
  pub file : view.file ≡ file_of e.what

-- an entity without its label, which no path depends on
abbrev pub unlabelled : Entity → LiveEntity
unlabelled e = with_values [] e
