-- What callers need to meet the conditions of the calls: from what the readings say of an entity.
use Rattle.std.proofs.Common.{◌≡◌, ℕ, ◌<◌, ◌≤◌, ◌+◌, Option, Some, None, length, true, false, [], refl, ap, ◌∙◌}
use Rattle.std.proofs.lemmas.Bool.{false≢true, eqb-true}
use Rattle.mf_objects.specs.declared.id.Id.{Id}
use Rattle.mf_objects.specs.declared.entity.EntityData.{EntityData}
use Rattle.mf_objects.specs.declared.entity.EntityData.TheVariants.{Process, Vnode, Pipe, Socket}
use Rattle.mf_objects.specs.Live.{LiveEntity, Entities, has_id, live_at, is_pipe, is_process, is_socket, is_entry, is_made_by, count_of, count_at, content_of, content_at, file_of, file_at, no_file, entry_count}
use Rattle.mf_objects.proofs.Shorthands.{reading}
use Rattle.mf_objects.specs.Lives.{passes, is_vnode, is_directory, IsLive, IsLiveWhere, is_held_by}
use Rattle.mf_objects.specs.Fits.{FitsBytes, FitsMessage, HasMessage}
use Rattle.mf_objects.specs.Population.{IsPopulation, NoBytesIfDirectory, shares_names, is_entry_beside}
use Rattle.mf_objects.proofs.Names.{one_name}
use Rattle.mf_objects.proofs.Belonging.{counted_none, no_entry, belongs_at, find_all, entry_directory, maker_process}

message_fits : (entries : ℕ) (w : EntityData) → is_socket w ≡ true → count_of entries w < 16 → FitsMessage w
message_fits entries (Process process) kind few = absurd (false≢true kind)
message_fits entries (Vnode vnode) kind few = absurd (false≢true kind)
message_fits entries (Pipe pipe) kind few = absurd (false≢true kind)
message_fits entries (Socket socket) kind few = few

message_found : (entries : ℕ) (found : Option LiveEntity) → passes is_socket found ≡ true → reading (count_of entries) 0 found < 16 → IsLiveWhere FitsMessage found
message_found entries None kind few = absurd (false≢true kind)
message_found entries (Some e) kind few = message_fits entries e.what kind few

-- a message fits a live socket that has fewer than 16
pub fits_message : (objects : Entities) (id : Id) → IsLive is_socket objects id → count_at objects id < 16 → IsLiveWhere FitsMessage (live_at objects id)
fits_message objects id live few = message_found (entry_count objects id) (live_at objects id) live few

message_has : (entries : ℕ) (w : EntityData) → is_socket w ≡ true → 0 < count_of entries w → HasMessage w
message_has entries (Process process) kind some = absurd (false≢true kind)
message_has entries (Vnode vnode) kind some = absurd (false≢true kind)
message_has entries (Pipe pipe) kind some = absurd (false≢true kind)
message_has entries (Socket socket) kind some = some

message_waits : (entries : ℕ) (found : Option LiveEntity) → passes is_socket found ≡ true → 0 < reading (count_of entries) 0 found → IsLiveWhere HasMessage found
message_waits entries None kind some = absurd (false≢true kind)
message_waits entries (Some e) kind some = message_has entries e.what kind some

-- a live socket whose count isn't 0 has a message
pub has_message : (objects : Entities) (id : Id) → IsLive is_socket objects id → 0 < count_at objects id → IsLiveWhere HasMessage (live_at objects id)
has_message objects id live some = message_waits (entry_count objects id) (live_at objects id) live some

pipe_fits : (more : ℕ) (w : EntityData) → is_pipe w ≡ true → length (content_of w) + more ≤ 16384 → FitsBytes more w
pipe_fits more (Process process) kind room = absurd (false≢true kind)
pipe_fits more (Vnode vnode) kind room = absurd (false≢true kind)
pipe_fits more (Pipe pipe) kind room = room
pipe_fits more (Socket socket) kind room = absurd (false≢true kind)

pipe_found : (more : ℕ) (found : Option LiveEntity) → passes is_pipe found ≡ true → length (reading content_of [] found) + more ≤ 16384 → IsLiveWhere (FitsBytes more) found
pipe_found more None kind room = absurd (false≢true kind)
pipe_found more (Some e) kind room = pipe_fits more e.what kind room

-- so many bytes more fit a live pipe
pub fits_pipe : (more : ℕ) (objects : Entities) (id : Id) → IsLive is_pipe objects id → length (content_at objects id) + more ≤ 16384 → IsLiveWhere (FitsBytes more) (live_at objects id)
fits_pipe more objects id live room = pipe_found more (live_at objects id) live room

file_fits : (more : ℕ) (w : EntityData) → is_vnode w ≡ true → (file_of w).dir ≡ false → length (content_of w) + more ≤ 65536 → FitsBytes more w
file_fits more (Process process) kind regular room = absurd (false≢true kind)
file_fits more (Vnode vnode) kind regular room = (regular, room)
file_fits more (Pipe pipe) kind regular room = absurd (false≢true kind)
file_fits more (Socket socket) kind regular room = absurd (false≢true kind)

file_found : (more : ℕ) (found : Option LiveEntity) → passes is_vnode found ≡ true → (reading file_of no_file found).dir ≡ false
    → length (reading content_of [] found) + more ≤ 65536 → IsLiveWhere (FitsBytes more) found
file_found more None kind regular room = absurd (false≢true kind)
file_found more (Some e) kind regular room = file_fits more e.what kind regular room

-- so many bytes more fit a live regular file
pub fits_file : (more : ℕ) (objects : Entities) (id : Id) → IsLive is_vnode objects id → (file_at objects id).dir ≡ false
    → length (content_at objects id) + more ≤ 65536 → IsLiveWhere (FitsBytes more) (live_at objects id)
fits_file more objects id live regular room = file_found more (live_at objects id) live regular room

what_directory : (w : EntityData) → is_directory w ≡ true → is_vnode w ≡ true
what_directory (Process process) kind = kind
what_directory (Vnode vnode) kind = refl
what_directory (Pipe pipe) kind = kind
what_directory (Socket socket) kind = kind

found_directory : (found : Option LiveEntity) → passes is_directory found ≡ true → passes is_vnode found ≡ true
found_directory None kind = kind
found_directory (Some e) kind = what_directory e.what kind

-- a live directory is a live vnode
pub directory_vnode : (objects : Entities) (id : Id) → IsLive is_directory objects id → IsLive is_vnode objects id
directory_vnode objects id live = found_directory (live_at objects id) live

vnode_directory : (w : EntityData) → (file_of w).dir ≡ true → is_directory w ≡ true
vnode_directory (Process process) dir = dir
vnode_directory (Vnode vnode) dir = dir
vnode_directory (Pipe pipe) dir = dir
vnode_directory (Socket socket) dir = dir

directory_found : (found : Option LiveEntity) → (reading file_of no_file found).dir ≡ true → passes is_directory found ≡ true
directory_found None dir = dir
directory_found (Some e) dir = vnode_directory e.what dir

-- what has the attributes of a directory is one
pub live_directory : (objects : Entities) (id : Id) → (file_at objects id).dir ≡ true → IsLive is_directory objects id
live_directory objects id dir = directory_found (live_at objects id) dir

regular_other : (found : Option LiveEntity) → (reading file_of no_file found).dir ≡ false → passes is_directory found ≡ false
regular_other None regular = refl
regular_other (Some e) regular = by_what e.what regular
  where
    by_what : (w : EntityData) → (file_of w).dir ≡ false → is_directory w ≡ false
    by_what (Process process) regular = refl
    by_what (Vnode vnode) regular = regular
    by_what (Pipe pipe) regular = refl
    by_what (Socket socket) regular = refl

-- what isn't a directory has no entries
pub regular_empty : (objects : Entities) (id : Id) → IsPopulation objects → (file_at objects id).dir ≡ false → entry_count objects id ≡ 0
regular_empty objects id population regular =
    counted_none (λ (e : LiveEntity). is_entry id e.what) objects.live
    (no_entry objects.live id population.belong (regular_other (live_at objects id) regular))

vnode_counts : (entries : ℕ) (found : Option LiveEntity) → passes is_vnode found ≡ true → reading (count_of entries) 0 found ≡ entries
vnode_counts entries None vnode = absurd (false≢true vnode)
vnode_counts entries (Some e) vnode = by_what e.what vnode
  where
    by_what : (w : EntityData) → is_vnode w ≡ true → count_of entries w ≡ entries
    by_what (Process process) vnode = refl
    by_what (Vnode v) vnode = refl
    by_what (Pipe pipe) vnode = refl
    by_what (Socket socket) vnode = absurd (false≢true vnode)

-- the count of a vnode is that of its entries
pub vnode_count : (objects : Entities) (id : Id) → IsLive is_vnode objects id → count_at objects id ≡ entry_count objects id
vnode_count objects id vnode = vnode_counts (entry_count objects id) (live_at objects id) vnode

-- the directory that holds a live vnode is a live directory
pub directory_lives : (objects : Entities) (id dir : Id) → IsPopulation objects → IsLive (is_entry dir) objects id → IsLive is_directory objects dir
directory_lives objects id dir population entry = by_found (live_at objects id) refl entry
  where
    by_found : (o : Option LiveEntity) → live_at objects id ≡ o → passes (is_entry dir) o ≡ true → IsLive is_directory objects dir
    by_found None is entry = absurd (false≢true entry)
    by_found (Some e) is entry =
        let older = entry_directory objects.live e.id.0 dir e.what (belongs_at objects id e population is) entry in
        older.1

-- the maker of a live pipe or socket is a live process
pub maker_lives : (objects : Entities) (id maker : Id) → IsPopulation objects → IsLive (is_made_by maker) objects id → IsLive is_process objects maker
maker_lives objects id maker population made = by_found (live_at objects id) refl made
  where
    by_found : (o : Option LiveEntity) → live_at objects id ≡ o → passes (is_made_by maker) o ≡ true → IsLive is_process objects maker
    by_found None is made = absurd (false≢true made)
    by_found (Some e) is made =
        let older = maker_process objects.live e.id.0 maker e.what (belongs_at objects id e population is) made in
        older.1

-- a directory holds no bytes
pub directory_empty : (objects : Entities) (id : Id) → IsPopulation objects → IsLive is_directory objects id → content_at objects id ≡ []
directory_empty objects id population directory = by_found (live_at objects id) refl directory
  where
    by_found : (o : Option LiveEntity) → live_at objects id ≡ o → passes is_directory o ≡ true → content_at objects id ≡ []
    by_found None is directory = absurd (false≢true directory)
    by_found (Some e) is directory =
        let held : NoBytesIfDirectory e.what = find_all (λ (x : LiveEntity). NoBytesIfDirectory x.what) (has_id id) objects.live e population.directories is in
        ap (reading content_of []) is ∙ held directory

-- One name, one entity

process_shares : (w other : EntityData) → is_process w ≡ true → is_process other ≡ true → shares_names w other ≡ true
process_shares (Process process) other own is = is
process_shares (Vnode vnode) other own is = absurd (false≢true own)
process_shares (Pipe pipe) other own is = absurd (false≢true own)
process_shares (Socket socket) other own is = absurd (false≢true own)

pipe_shares : (w other : EntityData) → is_pipe w ≡ true → is_pipe other ≡ true → shares_names w other ≡ true
pipe_shares (Process process) other own is = absurd (false≢true own)
pipe_shares (Vnode vnode) other own is = absurd (false≢true own)
pipe_shares (Pipe pipe) other own is = is
pipe_shares (Socket socket) other own is = absurd (false≢true own)

socket_shares : (w other : EntityData) → is_socket w ≡ true → is_socket other ≡ true → shares_names w other ≡ true
socket_shares (Process process) other own is = absurd (false≢true own)
socket_shares (Vnode vnode) other own is = absurd (false≢true own)
socket_shares (Pipe pipe) other own is = absurd (false≢true own)
socket_shares (Socket socket) other own is = is

entry_shares : (dir : Id) (w other : EntityData) → is_entry dir w ≡ true → is_entry dir other ≡ true → shares_names w other ≡ true
entry_shares dir (Process process) other own is = absurd (false≢true own)
entry_shares dir (Vnode vnode) other own is = by_parent vnode.parent own
  where
    by_parent : (parent : Option Id) → is_held_by dir parent ≡ true → is_entry_beside parent other ≡ true
    by_parent None own = absurd (false≢true own)
    by_parent (Some at) own = ap (λ (n : ℕ). is_entry (record { 0 = n }) other) (eqb-true at.0 dir.0 own) ∙ is
entry_shares dir (Pipe pipe) other own is = absurd (false≢true own)
entry_shares dir (Socket socket) other own is = absurd (false≢true own)

module _ (objects : Entities) (population : IsPopulation objects) (a b : Id) (x y : LiveEntity) (at_a : live_at objects a ≡ Some x) (at_b : live_at objects b ≡ Some y) (same : x.name ≡ y.name) where
  -- two live processes of one name are one
  pub one_process : is_process x.what ≡ true → is_process y.what ≡ true → x ≡ y
  one_process own other = one_name objects.live a b x y population.names at_a at_b (process_shares y.what x.what other own) same

  -- two live pipes of one name are one
  pub one_pipe : is_pipe x.what ≡ true → is_pipe y.what ≡ true → x ≡ y
  one_pipe own other = one_name objects.live a b x y population.names at_a at_b (pipe_shares y.what x.what other own) same

  -- two live sockets of one name are one
  pub one_socket : is_socket x.what ≡ true → is_socket y.what ≡ true → x ≡ y
  one_socket own other = one_name objects.live a b x y population.names at_a at_b (socket_shares y.what x.what other own) same

  -- two entries of one directory and one name are one
  pub one_entry : (dir : Id) → is_entry dir x.what ≡ true → is_entry dir y.what ≡ true → x ≡ y
  one_entry dir own other = one_name objects.live a b x y population.names at_a at_b (entry_shares dir y.what x.what other own) same
