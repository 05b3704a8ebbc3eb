-- The index of names: the groups in which names differ, and the buckets over which the ids are spread.
use Rattle.std.specs.Prelude.{◌≡◌, ◌==◌, ℕ, ◌+◌, ◌-◌, ◌*◌, ◌%◌, ◌<◌, Bool, false, not, ◌&&◌, List, [], ◌∷◌, ◌++◌, length, map, filter, find, fold, take, slice_index_or, slice_set, Option, Some, None}
use Rattle.std.specs.Str.{bytes_eq}
use Rattle.mf_objects.specs.declared.index.TheConstants.{BUCKETS, SPREAD, FACTOR}
use Rattle.mf_objects.specs.declared.index.Group.{Group}
use Rattle.mf_objects.specs.declared.index.Group.TheVariants.{Processes, Pipes, Sockets, Entries}
use Rattle.mf_objects.specs.declared.id.Id.{Id}
use Rattle.mf_objects.specs.declared.entity.Entity.{Entity}
use Rattle.mf_objects.specs.declared.entity.EntityData.{EntityData}
use Rattle.mf_objects.specs.declared.entity.EntityData.TheVariants.{Process, Vnode, Pipe, Socket}
use Rattle.mf_objects.specs.Live.{LiveEntity, is_process, is_pipe, is_socket}
use Rattle.mf_objects.specs.Population.{is_entry_beside}

-- the group in which the name of such an entity differs
abbrev pub group_of : EntityData → Group
group_of (Process process) = Processes
group_of (Vnode vnode) = Entries vnode.parent
group_of (Pipe pipe) = Pipes
group_of (Socket socket) = Sockets

-- it belongs to the group
abbrev pub is_in : Group → EntityData → Bool
is_in Processes w = is_process w
is_in Pipes w = is_pipe w
is_in Sockets w = is_socket w
is_in (Entries parent) w = is_entry_beside parent w

-- it belongs to the group and has the name
abbrev pub is_member : Group → List ℕ → LiveEntity → Bool
is_member group name e = is_in group e.what && bytes_eq e.name name

abbrev pub seed_beside : Option Id → ℕ
seed_beside None = 3
seed_beside (Some dir) = dir.0 % SPREAD + 4

-- what the hashes of a group's names begin with
abbrev pub seed_of : Group → ℕ
seed_of Processes = 0
seed_of Pipes = 1
seed_of Sockets = 2
seed_of (Entries parent) = seed_beside parent

-- a hash with one byte more
unfoldable pub mixed : ℕ → ℕ → ℕ
mixed hash byte = (hash * FACTOR + byte) % SPREAD

-- the bucket of a name, which equal names of one group share
unfoldable pub bucket_of : Group → List ℕ → ℕ
bucket_of group name = fold mixed (seed_of group) name % BUCKETS

-- the ids of the entities whose names fall into a bucket
abbrev pub bucket : ℕ → List Entity → List Id
bucket at entities = map (λ (e : Entity). e.id) (filter (λ (e : Entity). bucket_of (group_of e.what) e.name == at) entities)

-- each id stands in the bucket of its entity's name, by rising id, and nowhere else
pub record IsIndex (buckets : List (List Id)) (entities : List Entity) : Type 0 where
  pub count : length buckets ≡ BUCKETS
  pub each : (at : ℕ) → at < BUCKETS → slice_index_or buckets at [] ≡ bucket at entities

-- one id more in a bucket
abbrev pub with_id : ℕ → Id → List (List Id) → List (List Id)
with_id at id buckets = slice_set buckets at (slice_index_or buckets at [] ++ id ∷ [])

-- without the id that was put last into a bucket
abbrev pub without_last : ℕ → List (List Id) → List (List Id)
without_last at buckets = slice_set buckets at (take (length (slice_index_or buckets at []) - 1) (slice_index_or buckets at []))

-- an id less in a bucket
abbrev pub without_id : ℕ → Id → List (List Id) → List (List Id)
without_id at id buckets = slice_set buckets at (filter (λ (other : Id). not (other.0 == id.0)) (slice_index_or buckets at []))

abbrev pub found_passes : (Entity → Bool) → Option Entity → Bool
found_passes test None = false
found_passes test (Some e) = test e

-- the entity of this id belongs to the group and has the name
abbrev pub is_named_at : List Entity → Group → List ℕ → Id → Bool
is_named_at entities group name id =
    found_passes (λ (e : Entity). is_in group e.what && bytes_eq e.name name) (find (λ (e : Entity). e.id.0 == id.0) entities)
