-- Which rule allows a check, where one does by itself: of mac_bsdextended(4) with first match the one that decides, and of mac_portacl(4) the
-- first that names the subject and the port, where one is needed. That these are told is this model's own.
use Rattle.std.specs.Prelude.{ℕ, ◌+◌, Bool, true, false, not, ◌&&◌, ◌||◌, ◌==◌, nat_lt, if◌then◌else◌, List, Option, Some, None, option_and_then, option_map, position, slice_get, slice_index_or}
use Rattle.mf_cred.specs.declared.cred.Cred.{Cred}
use Rattle.mf_cred.specs.declared.cred.FileView.{FileView}
use Rattle.mf_cred.specs.Groups.{in_group}
use Rattle.mf_item.specs.Item.{Item}
use Rattle.mf_item.specs.declared.operation.CheckOp.{CheckOp}
use Rattle.mf_item.specs.declared.operation.CheckOp.TheVariants as op
use Rattle.mf_rule.specs.declared.ports.PortRule.{PortRule}
use Rattle.mf_rule.specs.declared.rule.Rule.{Rule}
use Rattle.mf_rule.specs.RuleList.{Slots, slot_gives}
use Rattle.mf_policy.specs.declared.spec.Spec.{Spec}
use Rattle.mf_policy.specs.declared.spec.Spec.TheVariants as means
use Rattle.mf_policy.specs.Answer.{attributes_of}
use Rattle.mf_policy.specs.Operations.{row_of}
use Rattle.mf_answers.specs.declared.permits.Permit.{Permit}
use Rattle.mf_answers.specs.declared.permits.Permit.TheVariants as permits
use Rattle.mf_answers.specs.Reasons.{deciding}

-- Rules about files

-- of the rule with the number, where it gives the letters
abbrev pub slot_permit : Option Rule → ℕ → ℕ → Option Permit
slot_permit None number wanted = None
slot_permit (Some rule) number wanted = if slot_gives wanted (Some rule) then Some (permits.Rule number wanted rule.mode) else None

-- of the first rule that matches
abbrev pub first_permit : Slots → Cred → FileView → ℕ → Option Permit
first_permit slots cred file wanted =
    option_and_then (λ number. slot_permit (slice_index_or slots number None) number wanted) (deciding true slots cred file wanted)

abbrev pub rules_permit : Slots → Item → Option Permit
rules_permit slots item =
    option_and_then (λ letters. first_permit slots item.subject.cred (attributes_of item.object) letters) (row_of item.op).letters

-- Rules about ports

-- whether a subject may bind a port without any rule: one above those that are guarded; with the settings one that the kernel chooses, and
-- any where it is root
abbrev pub needs_no_rule : ℕ → Bool → Bool → Cred → Bool × ℕ → Bool
needs_no_rule port_high suser autoport cred port = nat_lt port_high port.1 || autoport && port.1 == 0 || suser && cred.uid == 0

-- whether the rule names the subject, by one of its groups or by its effective uid, and the port
abbrev pub names_both : Cred → Bool × ℕ → PortRule → Bool
names_both cred port rule = (if rule.tcp then port.0 else not port.0) && rule.port == port.1 && (if rule.group then in_group cred rule.id else cred.uid == rule.id)

-- of the rule at that place, which are counted from 1
abbrev pub place_permit : List PortRule → ℕ → Option Permit
place_permit rules place = option_map (permits.Port (place + 1)) (slice_get rules place)

abbrev pub binding_permit : List PortRule → ℕ → Bool → Bool → Cred → CheckOp → Option (Bool × ℕ) → Option Permit
binding_permit rules port_high suser autoport cred op.SocketBind (Some port) =
    if needs_no_rule port_high suser autoport cred port then None else option_and_then (place_permit rules) (position (names_both cred port) rules)
binding_permit rules port_high suser autoport cred op port = None

abbrev pub port_permit : List PortRule → ℕ → Bool → Bool → Item → Option Permit
port_permit rules port_high suser autoport item = binding_permit rules port_high suser autoport item.subject.cred item.op item.port

-- the rule of a policy of this spec that allows an item
abbrev pub permit : Spec → Item → Option Permit
permit (means.Bsdextended rules true) item = rules_permit rules item
permit (means.Portacl rules port_high suser autoport) item = port_permit rules port_high suser autoport item
permit other item = None
