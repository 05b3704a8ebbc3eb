-- What a call gives and changes by what was found; inner contracts alone cite this.
use Rattle.std.specs.List.{filter_map}
use Rattle.std.specs.Option.{option_map_or, option_zip}
use Rattle.std.specs.Prelude.{ℕ, Bool, true, false, List, [], filter, length, map, Option, Some}
use Rattle.mf_cred.specs.declared.cred.TheConstants.{FILE_MODE, DIRECTORY_MODE}
use Rattle.mf_errno.specs.Names.{module_named}
use Rattle.mf_errno.specs.declared.module.Module.{Module}
use Rattle.mf_errno.specs.declared.module.Module.TheVariants as modules
use Rattle.mf_elem.specs.declared.label.LabelValue.{LabelValue}
use Rattle.mf_elem.specs.declared.label.LabelValue.TheVariants.{Unset}
use Rattle.mf_elem.specs.declared.label.Request.{Request}
use Rattle.mf_item.specs.declared.view.Kind.{Kind}
use Rattle.mf_objects.specs.declared.id.Id.{Id}
use Rattle.mf_objects.specs.declared.entity.EntityData.{EntityData}
use Rattle.mf_objects.specs.declared.descriptors.Fd.{Fd}
use Rattle.mf_objects.specs.Changes.{new_pipe, new_process, new_socket, new_vnode}
use Rattle.mf_objects.specs.Descriptors.{fds_at, lowest_free}
use Rattle.mf_objects.specs.Live.{content_at, cred_at, file_at}
use Rattle.mf_policy.specs.Modules.{labels_kind, wants_slot}
use Rattle.mf_policy.specs.Registration.{Entry, slot_for}
use Rattle.mf_policy.specs.Settings.{change_in, listed_rules}
use Rattle.mf_policy.specs.declared.settings.Change.{Change}
use Rattle.mf_policy.specs.declared.settings.Change.TheVariants.{RuleAdd}
use Rattle.mf_calls.specs.declared.script.Call.{Call}
use Rattle.mf_calls.specs.declared.script.Call.TheVariants as call
use Rattle.mf_plan.specs.declared.found.Found.{Found}
use Rattle.mf_plan.specs.declared.reply.LabelPart.{LabelPart}
use Rattle.mf_plan.specs.declared.reply.Payload.{Payload}
use Rattle.mf_plan.specs.declared.reply.Payload.TheVariants as payload
use Rattle.mf_plan.specs.declared.state.State.{State}
use Rattle.mf_plan.specs.Effect.{Effect}
use Rattle.mf_plan.specs.Effect.Effect.{Unchanged, Make, Append, Deliver, Empty, Receive, SetMode, Open, Close, Unlink, End, Relabel}
use Rattle.mf_plan.specs.Names.{child_name}
use Rattle.mf_plan.specs.Path.{last_name}
use Rattle.mf_plan.specs.Payloads.{head, label, label_part, loaded, message, names}
use Rattle.mf_plan.specs.Rows.{biba_value, fd_with, new_file}
use Rattle.mf_perform.specs.declared.channels.Channel.{Channel}
use Rattle.mf_perform.specs.declared.channels.Channel.TheVariants as channel
use Rattle.mf_perform.specs.declared.descriptors.Opening.{Opening}
use Rattle.mf_perform.specs.Effect.{after}

-- Effects

-- the change of what was found; where nothing was, nothing changes
abbrev pub where_found : (Id → Effect) → Option Id → Effect
where_found change found = option_map_or change found Unchanged

abbrev pub relabelling : Option Id → Option Request → Effect
relabelling found asked = option_map_or (λ asked. Relabel asked.0 asked.1) (option_zip found asked) Unchanged

abbrev pub make_file : State → Id → List (List ℕ) → ℕ → Bool → Option Id → Effect
make_file s me path mode is_dir found = where_found (λ dir. Make (last_name path) (new_vnode dir (new_file s.objects me dir mode is_dir) [])) found

-- a pipe or a socket that holds nothing
abbrev pub new_channel : Channel → Id → EntityData
new_channel channel.Pipe maker = new_pipe maker
new_channel channel.Socket maker = new_socket maker

-- whether the call opens a file
abbrev pub is_open_call : Call → Bool
is_open_call (call.OpenFd path read write) = true
is_open_call other = false

-- what mac_biba has in its slot of a label; Unset where nothing was found
abbrev pub biba_found : State → Option Id → LabelValue
biba_found s found = option_map_or (biba_value s) found Unset

-- the same of a process and of the file that it opens
abbrev pub opening_of : State → Option Id → Option Id → Opening
opening_of s caller found = record { subject = biba_found s caller; object = biba_found s found }

-- the descriptor that the process gets on the file, with these values
abbrev pub fd_by : State → Id → Bool → Bool → Opening → Id → Fd
fd_by s me read write opening file = fd_with s me read write opening.subject opening.object file

-- what the call of an entry changes, by the target and the request that were found, and by what mac_biba had as a file was to be opened
abbrev pub effect_found : State → List ℕ → Id → Opening → Call → Option Id → Option Request → Effect
effect_found s task me opening (call.Fork child) found asked = Make (child_name task child) (new_process (cred_at s.objects me))
effect_found s task me opening call.Exit found asked = End me
effect_found s task me opening (call.Setpmac label) found asked = relabelling found asked
effect_found s task me opening (call.Create path) found asked = make_file s me path FILE_MODE false found
effect_found s task me opening (call.Mkdir path) found asked = make_file s me path DIRECTORY_MODE true found
effect_found s task me opening (call.Write path text) found asked = where_found (λ id. Append id text) found
effect_found s task me opening (call.Setfmac label path) found asked = relabelling found asked
effect_found s task me opening (call.Chmod path mode) found asked = where_found (λ id. SetMode id mode) found
effect_found s task me opening (call.Unlink path) found asked = where_found Unlink found
effect_found s task me opening (call.OpenFd path read write) found asked = where_found (λ id. Open me (fd_by s me read write opening id)) found
effect_found s task me opening (call.Fwrite n text) found asked = where_found (λ id. Append id text) found
effect_found s task me opening (call.Close n) found asked = Close me n
effect_found s task me opening (call.Pipe name) found asked = Make name (new_pipe me)
effect_found s task me opening (call.Socket name) found asked = Make name (new_socket me)
effect_found s task me opening (call.Pread name) found asked = where_found Empty found
effect_found s task me opening (call.Pwrite name text) found asked = where_found (λ id. Append id text) found
effect_found s task me opening (call.Setpipemac label name) found asked = relabelling found asked
effect_found s task me opening (call.Send from to text) found asked = where_found (λ id. Deliver id text) found
effect_found s task me opening (call.Recv name) found asked = where_found Receive found
effect_found s task me opening (call.Setsockmac label name) found asked = relabelling found asked
-- No other changes entities: proofs/Handing compares each call's row with this table, so one that is forgotten here is refused. The effect of a
-- change of the policies tells `relisting_at`.
effect_found s task me opening other found asked = Unchanged

-- what the call of an entry changes, by all that was found; nothing where nobody was found who makes it
abbrev pub effect_of : State → List ℕ → Opening → Call → Found → Effect
effect_of s task opening c found = option_map_or (λ me. effect_found s task me opening c found.target found.request) found.caller Unchanged

-- and the state after it
abbrev pub after_found : State → List ℕ → Opening → Call → Found → State
after_found s task opening c found = option_map_or (λ me. after s me (effect_found s task me opening c found.target found.request)) found.caller s

-- Payloads

-- what is read of what is found
abbrev pub payload_of_found : {A : Type 0} → (A → Payload) → Option A → Payload
payload_of_found read found = option_map_or read found payload.None

-- the parts of a label that are of these modules
abbrev pub label_parts_of : List Entry → Kind → List LabelValue → List Module → List LabelPart
label_parts_of listed kind label modules = filter_map (label_part listed label) (filter (λ m. labels_kind m kind) modules)

-- the slot that a module gets where so many numbers were given
abbrev pub slot : ℕ → Option Module → Payload
slot given wanted = payload_of_found (λ m. payload.Slot (slot_for (wants_slot m) given)) wanted

-- the number of a rule that is added
abbrev pub rule_added : List Entry → Option (Module × Change) → Payload
rule_added listed asked = payload_of_found (λ asked. option_map_or payload.Rule (change_in asked.0 asked.1 listed).0.number payload.None) asked

-- what a call hands back, by the caller and the target that were found
abbrev pub payload_found : State → Option Id → Call → Option Id → Payload
payload_found s caller call.Getpmac found = payload_of_found (label s) found
payload_found s caller (call.Read path) found = payload_of_found (head s.objects) found
payload_found s caller (call.Stat path) found = payload_of_found (λ id. payload.Stat (file_at s.objects id) (length (content_at s.objects id))) found
payload_found s caller (call.Getfmac path) found = payload_of_found (label s) found
payload_found s caller (call.Readdir path) found = payload_of_found (names s.objects) found
payload_found s caller (call.Pread name) found = payload_of_found (head s.objects) found
payload_found s caller (call.Pstat name) found = payload_of_found (λ id. payload.Size (length (content_at s.objects id))) found
payload_found s caller (call.Recv name) found = payload_of_found (message s.objects) found
payload_found s caller (call.OpenFd path read write) found = payload_of_found (λ me. payload.Fd (lowest_free (fds_at s.objects me))) caller
payload_found s caller (call.Fread n) found = payload_of_found (head s.objects) found
payload_found s caller call.Kldstat found = payload.Modules (map loaded s.specs)
payload_found s caller (call.Kldload name) found = slot s.numbers (module_named name)
payload_found s caller call.UgidfwList found = option_map_or payload.Rules (listed_rules s.specs) payload.None
payload_found s caller (call.UgidfwAdd rule) found = rule_added s.specs (Some (modules.Bsdextended, RuleAdd rule))
-- No other hands back anything; proofs/Handing compares with the rows here too.
payload_found s caller other found = payload.None
