-- The entries of directories in byte order, the paths of vnodes, and the titles of entities. All of it is this model's own.
use Rattle.std.specs.Option.{option_map_or}
use Rattle.std.specs.Prelude.{ℕ, List, [], ◌∷◌, ◌++◌, Option, None, take, insert, filter, map, reverse, codes, if◌then◌else◌, ◌==◌}
use Rattle.std.specs.List.{position_or_len}
use Rattle.std.specs.Ordering.{nat_cmp, is_le}
use Rattle.std.specs.Cmp.Lexicographic.{slice_cmp}
use Rattle.mf_objects.specs.declared.limits.TheConstants.{MOST_NAMES}
use Rattle.mf_objects.specs.declared.id.Id.{Id}
use Rattle.mf_objects.specs.declared.entity.EntityData.{EntityData}
use Rattle.mf_objects.specs.declared.entity.EntityData.TheVariants.{Process, Vnode, Pipe, Socket}
use Rattle.mf_objects.specs.Live.{LiveEntity, Entities, is_entry, live_at}

-- the names in byte order: each goes in front of the first that isn't before it
abbrev pub in_byte_order : List (List ℕ) → List (List ℕ)
in_byte_order [] = []
in_byte_order (name ∷ names) =
    let others = in_byte_order names in
    insert others (position_or_len (λ other. is_le (slice_cmp nat_cmp name other)) others) name

-- the names of the entries of a directory, by rising id
abbrev pub entry_names : Id → List LiveEntity → List (List ℕ)
entry_names dir live = map (λ e. e.name) (filter (λ e. is_entry dir e.what) live)

-- the first names in byte order of the entries of a directory
unfoldable pub names_at : Entities → Id → List (List ℕ)
names_at objects dir = take MOST_NAMES (in_byte_order (entry_names dir objects.live))

abbrev pub parent_of : EntityData → Option Id
parent_of (Vnode vnode) = vnode.parent
parent_of other = None

-- The path of an id: that of its directory, a slash and its name, and nothing for the root. The newest entity comes first, since a directory
-- is older than what it holds.
unfoldable pub path_in : List LiveEntity → Id → List ℕ
path_in [] id = []
path_in (e ∷ older) id =
    if e.id.0 == id.0 then option_map_or (λ dir. path_in older dir ++ codes "/" ++ e.name) (parent_of e.what) [] else path_in older id

-- the path of the root is a slash
abbrev pub rooted_path : List ℕ → List ℕ
rooted_path [] = codes "/"
rooted_path (byte ∷ bytes) = byte ∷ bytes

-- its kind, and its name or the path of a vnode
abbrev pub title_of : List ℕ → List ℕ → EntityData → List ℕ
title_of path name (Process process) = codes "proc:" ++ name
title_of path name (Vnode vnode) = codes "vnode:" ++ rooted_path path
title_of path name (Pipe pipe) = codes "pipe:" ++ name
title_of path name (Socket socket) = codes "socket:" ++ name

-- how outputs name the entity: its kind with its name, or with its path
abbrev pub title_at : Entities → Id → List ℕ
title_at objects id = option_map_or (λ e. title_of (path_in (reverse objects.live) id) e.name e.what) (live_at objects id) []
