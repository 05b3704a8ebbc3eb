-- What opening a file wants: that a live vnode which is no directory is a regular file.
use Rattle.std.proofs.Common.{◌≡◌, ap, true, false, not, Option, Some, None}
use Rattle.std.proofs.lemmas.Bool.{false≢true}
use Rattle.mf_objects.specs.declared.id.Id.{Id}
use Rattle.mf_objects.specs.declared.entity.EntityData.{EntityData}
use Rattle.mf_objects.specs.declared.entity.EntityData.TheVariants.{Process, Vnode, Pipe, Socket}
use Rattle.mf_objects.specs.Live.{LiveEntity, Entities, file_at, file_of, live_at, no_file}
use Rattle.mf_objects.specs.Lives.{IsLive, is_regular, is_vnode, passes}
use Rattle.std.specs.Option.{option_map_or}

regular_data : (what : EntityData) → is_vnode what ≡ true → (file_of what).dir ≡ false → is_regular what ≡ true
regular_data (Process process) kind is = absurd (false≢true kind)
regular_data (Vnode vnode) kind is = ap not is
regular_data (Pipe pipe) kind is = absurd (false≢true kind)
regular_data (Socket socket) kind is = absurd (false≢true kind)

regular_found : (found : Option LiveEntity) → passes is_vnode found ≡ true → (option_map_or (λ e. file_of e.what) found no_file).dir ≡ false
    → passes is_regular found ≡ true
regular_found None kind is = absurd (false≢true kind)
regular_found (Some e) kind is = regular_data e.what kind is

pub live_regular : (objects : Entities) (id : Id) → IsLive is_vnode objects id → (file_at objects id).dir ≡ false → IsLive is_regular objects id
live_regular objects id live is = regular_found (live_at objects id) live is
