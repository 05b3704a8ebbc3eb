-- How the player ends a call, and what its words for that mean. Inner contracts alone cite this.
use Rattle.std.specs.Option.{option_map_or}
use Rattle.std.specs.Prelude.{◌≡◌, ◌≢◌, ℕ, List, [], length, map, IsSome, Option, None, Result, Ok, Err}
use Rattle.mf_errno.specs.declared.errno.Errno.{Errno}
use Rattle.mf_objects.specs.declared.id.Id.{Id}
use Rattle.mf_objects.specs.Changes.{new_process, new_vnode, new_pipe, new_socket}
use Rattle.mf_objects.specs.Live.{content_at, cred_at, file_at, live_at}
use Rattle.mf_objects.specs.Lives.{IsLive, is_regular, is_vnode}
use Rattle.mf_policy.specs.IsChange.{IsChange}
use Rattle.mf_policy.specs.Loading.{load_fault}
use Rattle.mf_policy.specs.Settings.{listed_rules}
use Rattle.mf_plan.specs.declared.plan.Tail.TheVariants as tail
use Rattle.mf_plan.specs.declared.target.Target.{Target}
use Rattle.mf_plan.specs.declared.target.Target.TheVariants.{Name, Nowhere}
use Rattle.mf_plan.specs.declared.reply.Payload.{Payload}
use Rattle.mf_plan.specs.declared.reply.Payload.TheVariants as payload
use Rattle.mf_plan.specs.declared.state.State.{State}
use Rattle.mf_plan.specs.Effect.{Effect, Effect as effect}
use Rattle.mf_plan.specs.Names.{child_name}
use Rattle.mf_plan.specs.Payloads.{head, label, loaded, message, names}
use Rattle.mf_plan.specs.Outline.{item_of}
use Rattle.mf_plan.specs.Plan.{plan_in}
use Rattle.mf_plan.specs.Row.{Row}
use Rattle.mf_plan.specs.Ways.{Way}
use Rattle.mf_plan.specs.Rows.{new_file}
use Rattle.mf_audit.specs.declared.done.Shown.{Shown}
use Rattle.mf_audit.specs.declared.done.Shown.TheVariants as shown
use Rattle.mf_audit.specs.declared.done.Effect.{Effect as Change}
use Rattle.mf_audit.specs.declared.done.Effect.TheVariants as does
use Rattle.mf_audit.specs.declared.done.Done.{Done}
use Rattle.mf_audit.specs.declared.walk.Walk.{Walk}
use Rattle.mf_audit.specs.Asking.{asking_all}

-- what is handed back
abbrev pub payload_of : State → Shown → Payload
payload_of s shown.Nothing = payload.None
payload_of s (shown.Head id) = head s.objects id
payload_of s (shown.Message id) = message s.objects id
payload_of s (shown.Names id) = names s.objects id
payload_of s (shown.Label id) = label s id
payload_of s (shown.Size id) = payload.Size (length (content_at s.objects id))
payload_of s (shown.Stat id) = payload.Stat (file_at s.objects id) (length (content_at s.objects id))
payload_of s shown.Modules = payload.Modules (map loaded s.specs)
payload_of s shown.Rules = option_map_or payload.Rules (listed_rules s.specs) payload.None
payload_of s (shown.Rule n) = payload.Rule n
payload_of s (shown.Slot slot) = payload.Slot slot
payload_of s (shown.Fd n) = payload.Fd n

-- what is changed by a call of this process of the task
abbrev pub effect_of : State → List ℕ → Id → Change → Effect
effect_of s task me does.Nothing = effect.Unchanged
effect_of s task me (does.Fork child) = effect.Make (child_name task child.now) (new_process (cred_at s.objects me))
effect_of s task me (does.MakeFile dir name mode is_dir) = effect.Make name.now (new_vnode dir (new_file s.objects me dir mode is_dir) [])
effect_of s task me (does.MakePipe name) = effect.Make name.now (new_pipe me)
effect_of s task me (does.MakeSocket name) = effect.Make name.now (new_socket me)
effect_of s task me (does.Append id text) = effect.Append id text.now
effect_of s task me (does.Deliver id text) = effect.Deliver id text.now
effect_of s task me (does.Empty id) = effect.Empty id
effect_of s task me (does.Receive id) = effect.Receive id
effect_of s task me (does.SetMode id mode) = effect.SetMode id mode
effect_of s task me (does.Open fd) = effect.Open me fd
effect_of s task me (does.Close n) = effect.Close me n
effect_of s task me (does.Unlink id) = effect.Unlink id
effect_of s task me does.End = effect.End me
effect_of s task me (does.Relabel id request) = effect.Relabel id request
effect_of s task me (does.Load m) = effect.Load m
effect_of s task me (does.Unload m) = effect.Unload m
effect_of s task me (does.Set m change) = effect.Set m change

-- the end of a row
abbrev pub EndsBy : State → List ℕ → Id → Row → Result Done Errno → Type 0
EndsBy s task me row (Ok done) = (row.tail ≡ tail.Do) × (row.payload ≡ payload_of s done.shown) × (row.effect ≡ effect_of s task me done.effect)
EndsBy s task me row (Err e) = row.tail ≡ tail.Refuse e

-- What is shown and changed is there

abbrev pub IsShown : State → Shown → Type 0
IsShown s (shown.Label id) = IsSome (live_at s.objects id)
IsShown s other = Unit {0}

abbrev pub IsSound : State → Change → Type 0
IsSound s (does.Open fd) = IsLive is_regular s.objects fd.file
IsSound s (does.Unlink id) = IsLive is_vnode s.objects id × (id.0 ≢ 0)
IsSound s (does.Relabel id request) = IsSome (live_at s.objects id)
IsSound s (does.Load m) = load_fault s.booted s.specs s.numbers m ≡ None
IsSound s (does.Set m change) = IsChange change
IsSound s other = Unit {0}

abbrev pub IsSoundEnd : State → Result Done Errno → Type 0
IsSoundEnd s (Ok done) = IsShown s done.shown × IsSound s done.effect
IsSoundEnd s (Err e) = Unit {0}

-- the checks of a row were gone through, and it ends so
pub record Goes (s : State) (task : List ℕ) (me : Id) (row : Row) (old new : Walk) (end : Result Done Errno) : Type 0 where
  pub walk : new ≡ asking_all s.specs me old (plan_in s row).items
  pub ends : EndsBy s task me row end
  pub sound : IsSoundEnd s end

-- the checks on a way were gone through, and it leads there
pub record Leads {A : Type 0} (s : State) (me : Id) (way : Way A) (old new : Walk) (there : Result A Errno) : Type 0 where
  pub walk : new ≡ asking_all s.specs me old (map (item_of s.objects) way.checks)
  pub leads : there ≡ way.there

-- where a path leads that ends at a name in a directory, or nowhere
abbrev pub target_of : Result (Id × Option Id) Errno → Target
target_of (Ok leaf) = Name leaf.0 leaf.1
target_of (Err e) = Nowhere e
