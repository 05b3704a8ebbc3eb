-- The lines of why a call was denied, where its caller was lowered, and by which rules it was allowed: by docs/MANUAL.md (WHY). The place of a
-- line is the task with the number of its line.
use Rattle.std.specs.Option.{option_map_or}
use Rattle.std.specs.Prelude.{ℕ, suc, ◌-◌, Bool, true, false, if◌then◌else◌, List, [], ◌∷◌, ◌++◌, Option, codes, slice_get}
use Rattle.std.specs.List.{flat_map}
use Rattle.std.specs.Fmt.{decimal}
use Rattle.mf_errno.specs.Names.{error_text, module_text}
use Rattle.mf_errno.specs.Privilege.{privilege_text}
use Rattle.mf_errno.specs.declared.module.Module.{Module}
use Rattle.mf_errno.specs.declared.module.Module.TheVariants as modules
use Rattle.mf_errno.specs.declared.privilege.Priv.{Priv}
use Rattle.mf_item.specs.Item.{Item}
use Rattle.mf_item.specs.Operation.{operation_text}
use Rattle.mf_labeltext.specs.Canonical.{elem_text}
use Rattle.mf_rule.specs.declared.ports.PortRule.{PortRule}
use Rattle.mf_policy.specs.Lowering.{lomac_slot}
use Rattle.mf_policy.specs.Registration.{Entry}
use Rattle.mf_list.specs.Asked.{asks_privilege}
use Rattle.mf_objects.specs.Live.{Entities}
use Rattle.mf_objects.specs.Titles.{title_at}
use Rattle.mf_plan.specs.declared.reply.Reply.{Reply}
use Rattle.mf_plan.specs.declared.reply.Reply.TheVariants as reply
use Rattle.mf_plan.specs.declared.state.State.{State}
use Rattle.mf_answers.specs.declared.permits.Permit.{Permit}
use Rattle.mf_answers.specs.declared.permits.Permit.TheVariants as permits
use Rattle.mf_answers.specs.declared.reasons.Reason.{Reason}
use Rattle.mf_answers.specs.Permits.{permit}
use Rattle.mf_answers.specs.Reasons.{errno_of}
use Rattle.mf_why.specs.declared.deniers.Mark.{Mark}
use Rattle.mf_why.specs.declared.deniers.Mark.TheVariants.{Decides, Also}
use Rattle.mf_why.specs.declared.extent.Extent.{Extent}
use Rattle.mf_why.specs.declared.extent.Extent.TheVariants.{All}
use Rattle.mf_why.specs.Deniers.{Denier, deniers}
use Rattle.mf_why.specs.declared.lowerings.Lowering.{Lowering}
use Rattle.mf_why.specs.Lowerings.{lowering_of}
use Rattle.mf_why.specs.ReasonText.{protocol_text, reason_text, rule_text}

-- the word, then the task with its line, then the rest
abbrev pub line_text : List ℕ → List ℕ → List ℕ → List ℕ
line_text word place rest = word ++ codes " " ++ place ++ codes " " ++ rest ++ codes "\n"

abbrev pub subject_title : Entities → Item → List ℕ
subject_title objects item = title_at objects (record { 0 = item.subject.id })

-- a dash for no object
abbrev pub object_title : Entities → Item → List ℕ
object_title objects item = option_map_or (λ object. title_at objects (record { 0 = object.id })) item.object (codes "-")

-- Denials

abbrev pub mark_text : Mark → List ℕ
mark_text Decides = codes "decides"
mark_text Also = codes "also"

abbrev pub other_text : List ℕ → Module → Reason → List ℕ
other_text place m other = line_text (codes "also") place (module_text m ++ codes " " ++ reason_text other)

abbrev pub why_line : List ℕ → Module → Mark → Reason → List ℕ
why_line place m mark reason =
    line_text (codes "why") place (module_text m ++ codes " " ++ mark_text mark ++ codes " " ++ error_text (errno_of reason) ++ codes " " ++ reason_text reason)

-- the line of a policy that denies, and those of its other rules
abbrev pub denier_text : List ℕ → Denier → List ℕ
denier_text place d = why_line place d.module d.mark d.reason ++ flat_map (other_text place d.module) d.others

-- a privilege that no policy grants to a subject of this effective uid
abbrev pub lack_text : Option Priv → ℕ → List ℕ
lack_text privilege uid = codes "- decides EPERM " ++ (codes "privilege " ++ option_map_or privilege_text privilege (codes "-")) ++ codes " uid " ++ decimal uid

abbrev pub privilege_line : List ℕ → Item → List ℕ
privilege_line place item = line_text (codes "why") place (lack_text item.privilege item.subject.cred.uid)

abbrev pub causes_text : List Entry → List ℕ → Option Module → Item → List ℕ
causes_text listed place by item =
    if asks_privilege item.op then privilege_line place item else flat_map (denier_text place) (deniers listed by item)

abbrev pub denied_line : Entities → List ℕ → ℕ → Item → List ℕ
denied_line objects place number item =
    line_text (codes "denied") place
    (decimal number ++ codes " " ++ operation_text item.op ++ codes " " ++ subject_title objects item ++ codes " " ++ object_title objects item)

-- the check of a number that was denied, and why
abbrev pub denial_text : State → List ℕ → ℕ → Option Module → Item → List ℕ
denial_text s place number by item = denied_line s.objects place number item ++ causes_text s.specs place by item

abbrev pub denied_text : State → List ℕ → List Item → Reply → List ℕ
denied_text s place items (reply.Denied errno op number by) = option_map_or (denial_text s place number by) (slice_get items (number - 1)) []
denied_text s place items other = []

-- Checks that passed

-- what is told of each check, of which the first has this number
abbrev pub each_check : (ℕ → Item → List ℕ) → ℕ → List Item → List ℕ
each_check told number [] = []
each_check told number (item ∷ items) = told number item ++ each_check told (suc number) items

abbrev pub lowering_text : Entities → List ℕ → ℕ → Item → Lowering → List ℕ
lowering_text objects place number item lowering =
    line_text (codes "lowered") place
    (decimal number ++ codes " " ++ subject_title objects item ++ codes " " ++ elem_text lowering.before ++ codes " " ++ elem_text lowering.left ++ codes " "
    ++ object_title objects item)

-- nothing where the check lowers nobody
abbrev pub lowered_text : Entities → List ℕ → ℕ → ℕ → Item → List ℕ
lowered_text objects place slot number item = option_map_or (lowering_text objects place number item) (lowering_of slot item) []

-- where checks that passed lowered the caller, while mac_lomac is listed
abbrev pub lowerings_text : State → List ℕ → List Item → List ℕ
lowerings_text s place checks = option_map_or (λ slot. each_check (lowered_text s.objects place slot) 1 checks) (lomac_slot s.specs) []

-- whom a rule about ports names, and the port
abbrev pub port_rule_text : PortRule → List ℕ
port_rule_text rule = (if rule.group then codes "gid " else codes "uid ") ++ decimal rule.id ++ codes " " ++ protocol_text rule.tcp ++ decimal rule.port

abbrev pub permit_text : Permit → List ℕ
permit_text (permits.Rule number wanted given) = module_text modules.Bsdextended ++ codes " " ++ rule_text number wanted given
permit_text (permits.Port place rule) = module_text modules.Portacl ++ codes " place " ++ decimal place ++ codes " " ++ port_rule_text rule

abbrev pub let_line : List ℕ → ℕ → Permit → List ℕ
let_line place number rule = line_text (codes "let") place (decimal number ++ codes " " ++ permit_text rule)

-- where a rule of a listed policy allows a check
abbrev pub permit_line : List ℕ → ℕ → Item → Entry → List ℕ
permit_line place number item entry = option_map_or (let_line place number) (permit entry.1 item) []

abbrev pub permits_text : List Entry → List ℕ → ℕ → Item → List ℕ
permits_text listed place number item = flat_map (permit_line place number item) listed

-- whether the rules that allowed a call are told: with all, where it is done
abbrev pub tells_permits : Extent → Reply → Bool
tells_permits All (reply.Ok payload) = true
tells_permits extent other = false
