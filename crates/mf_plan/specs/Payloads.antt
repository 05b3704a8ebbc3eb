-- What calls hand back, by docs/MANUAL.md (CALLS, OUTPUT).
use Rattle.std.specs.List.{filter_map}
use Rattle.std.specs.Prelude.{List, [], filter, find, Option, option_map, unwrap_or, slice_index_or, if◌then◌else◌}
use Rattle.mf_errno.specs.Names.{all_modules}
use Rattle.mf_errno.specs.declared.module.Module.{Module}
use Rattle.mf_item.specs.declared.view.Kind.{Kind}
use Rattle.mf_elem.specs.declared.label.LabelValue.{LabelValue}
use Rattle.mf_elem.specs.declared.label.LabelValue.TheVariants.{Unset, Number}
use Rattle.mf_policy.specs.Modules.{labels_kind}
use Rattle.mf_policy.specs.Registration.{Entry, is_of}
use Rattle.mf_objects.specs.declared.id.Id.{Id}
use Rattle.mf_objects.specs.Head.{head_of}
use Rattle.mf_objects.specs.Live.{Entities, kind_at, label_at, content_at, count_at, messages_at}
use Rattle.mf_objects.specs.Titles.{names_at}
use Rattle.mf_plan.specs.declared.reply.LabelPart.{LabelPart}
use Rattle.mf_plan.specs.declared.reply.Loaded.{Loaded}
use Rattle.mf_plan.specs.declared.reply.Payload.{Payload}
use Rattle.mf_plan.specs.declared.reply.Payload.TheVariants as payload
use Rattle.mf_plan.specs.declared.state.State.{State}
use Rattle.mf_plan.specs.Views.{is_dir}

abbrev pub head : Entities → Id → Payload
head objects id = payload.Head (head_of (content_at objects id))

-- what a directory holds
abbrev pub names : Entities → Id → Payload
names objects id = if is_dir objects id then payload.Names (count_at objects id) (names_at objects id) else payload.None

-- the oldest message
abbrev pub message : Entities → Id → Payload
message objects id = payload.Head (head_of (slice_index_or (messages_at objects id) 0 []))

-- an unset slot, of a policy that was loaded after the entity came, counts as no partition
abbrev pub shown : LabelValue → LabelValue
shown Unset = Number 0
shown other = other

-- what a label says of a module's policy, where it is listed
abbrev pub label_part : List Entry → List LabelValue → Module → Option LabelPart
label_part listed label m =
    option_map (λ entry. record { «module» = m; value = shown (slice_index_or label (unwrap_or entry.0.slot 0) Unset) }) (find (is_of m) listed)

-- the parts of the label of an entity of that kind: one for each listed policy that labels the kind
abbrev pub label_parts : List Entry → Kind → List LabelValue → List LabelPart
label_parts listed kind label = filter_map (label_part listed label) (filter (λ m. labels_kind m kind) all_modules)

abbrev pub label : State → Id → Payload
label s id = payload.Label (label_parts s.specs (kind_at s.objects id) (label_at s.objects id))

abbrev pub loaded : Entry → Loaded
loaded entry = record { «module» = entry.0.module; slot = entry.0.slot }
