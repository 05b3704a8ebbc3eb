-- What is true of the policies and rules that are told to deny a check, and of the rules that are told to allow one.
use Rattle.std.specs.Prelude.{◌≡◌, ◌≢◌, ℕ, suc, ◌-◌, Bool, true, false, not, List, [], ◌∷◌, ◌++◌, Option, Some, None, length, map, take, slice_get, slice_index_or}
use Rattle.std.specs.Int.RustNames.{bit_and}
use Rattle.std.specs.List.{filter, flat_map, list_any, range_with_len}
use Rattle.mf_errno.specs.declared.errno.Errno.{Errno}
use Rattle.mf_errno.specs.declared.errno.Errno.TheVariants.{Success, Eperm}
use Rattle.mf_errno.specs.declared.module.Module.{Module}
use Rattle.mf_elem.specs.declared.elem.Elem.{Elem}
use Rattle.mf_elem.specs.declared.label.LabelValue.{LabelValue}
use Rattle.mf_elem.specs.declared.label.LabelValue.TheVariants.{Unset}
use Rattle.mf_errno.specs.Same.{is_same}
use Rattle.mf_cred.specs.declared.cred.Cred.{Cred}
use Rattle.mf_cred.specs.declared.cred.FileView.{FileView}
use Rattle.mf_compose.specs.Composition.{composition}
use Rattle.mf_item.specs.Item.{Item}
use Rattle.mf_item.specs.declared.operation.CheckOp.{CheckOp}
use Rattle.mf_item.specs.declared.operation.CheckOp.TheVariants as op
use Rattle.mf_rule.specs.declared.ports.PortRule.{PortRule}
use Rattle.mf_rule.specs.declared.rule.Rule.{Rule}
use Rattle.mf_rule.specs.RuleList.{Slots, is_match, verdict}
use Rattle.mf_policy.specs.declared.registration.Registration.{Registration}
use Rattle.mf_policy.specs.declared.spec.Spec.TheVariants as means
use Rattle.mf_policy.specs.Answer.{attributes_of, range_label, rules_answer}
use Rattle.mf_policy.specs.Lowering.{after_check}
use Rattle.mf_policy.specs.Operations.{row_of}
use Rattle.mf_policy.specs.Ports.{may_bind}
use Rattle.mf_policy.specs.Registration.{Entry}
use Rattle.mf_list.specs.declared.ask.Answer.{Answer}
use Rattle.mf_list.specs.Asked.{answer_of, asks_privilege, composed}
use Rattle.mf_list.specs.Once.{IsListedOnce}
use Rattle.mf_calls.specs.declared.script.Script.{Script}
use Rattle.mf_calls.specs.WellFormed.{IsWellFormed}
use Rattle.mf_plan.specs.declared.reply.Reply.{Reply}
use Rattle.mf_plan.specs.declared.reply.Reply.TheVariants as reply
use Rattle.mf_plan.specs.Planned.{Plan}
use Rattle.mf_core.specs.declared.history.Event.{Event}
use Rattle.mf_core.specs.declared.history.Event.TheVariants as event
use Rattle.mf_core.specs.declared.history.History.{History}
use Rattle.mf_core.specs.LegalHistory.{IsLegal, RunState, opening_run, run_after}
use Rattle.mf_core.specs.Next.{next_plan}
use Rattle.mf_answers.specs.declared.permits.Permit.{Permit}
use Rattle.mf_answers.specs.declared.permits.Permit.TheVariants as permits
use Rattle.mf_answers.specs.declared.reasons.Reason.{Reason}
use Rattle.mf_answers.specs.declared.reasons.Reason.TheVariants as why
use Rattle.mf_answers.specs.Laws.{with_letters}
use Rattle.mf_answers.specs.Permits.{permit}
use Rattle.mf_answers.specs.Reasons.{errno_of}
use Rattle.mf_why.specs.declared.deniers.Mark.{Mark}
use Rattle.mf_why.specs.declared.deniers.Mark.TheVariants.{Decides, Also}
use Rattle.mf_why.specs.declared.lowerings.Lowering.{Lowering}
use Rattle.mf_why.specs.Deniers.{Denier, denier, deniers}
use Rattle.mf_why.specs.Lowerings.{lowering_of}

-- the error that is told of it
abbrev pub errno_told : Denier → Errno
errno_told d = errno_of d.reason

-- the module that is told, with the error
abbrev pub module_told : Denier → Module × Errno
module_told d = (d.module, errno_told d)

-- the module of a policy, with what it answers
abbrev pub module_answer : Item → Entry → Module × Errno
module_answer item entry = (entry.0.module, answer_of item entry)

-- whether a policy answers other than success
abbrev pub denies : Item → Entry → Bool
denies item entry = not (is_same Success (answer_of item entry))

-- Each listed policy that denies a check is told, in walk order, with its answer, and no other is.
abbrev pub EachDenierIsTold : Type 0
EachDenierIsTold =
    (listed : List Entry) (by : Option Module) (item : Item)
    → map module_told (deniers listed by item) ≡ map (module_answer item) (filter (denies item) listed)

-- The errors that are told of a check compose to the answer of all listed policies.
abbrev pub DeniersCompose : Type 0
DeniersCompose = (listed : List Entry) (by : Option Module) (item : Item) → composition (map errno_told (deniers listed by item)) ≡ (composed listed item).errno

abbrev pub decides : Mark → Bool
decides Decides = true
decides Also = false

-- of those that are told exactly one decides, and the answer is by its module and with its error
pub record IsDecided (answer : Answer) (told : List Denier) : Type 0 where
  pub decider : Denier
  pub alone : filter (λ d. decides d.mark) told ≡ decider ∷ []
  pub by : answer.by ≡ Some decider.module
  pub errno : answer.errno ≡ errno_told decider

-- where policies deny a check, of which none is listed twice
abbrev pub OneDecides : Type 0
OneDecides =
    (listed : List Entry) (item : Item) → IsListedOnce listed → (composed listed item).errno ≢ Success
    → IsDecided (composed listed item) (deniers listed (composed listed item).by item)

-- No policy denies a check of a privilege: it is granted or not.
abbrev pub PrivilegesHaveNoDenier : Type 0
PrivilegesHaveNoDenier = (listed : List Entry) (by : Option Module) (item : Item) → asks_privilege item.op ≡ true → deniers listed by item ≡ []

-- Rules that deny

abbrev pub number_told : Reason → List ℕ
number_told (why.Rule number wanted given) = number ∷ []
number_told other = []

-- the numbers of the rules that are told
abbrev pub numbers_told : Denier → List ℕ
numbers_told d = flat_map number_told (d.reason ∷ d.others)

-- whether the rule of a number denies the check by itself
abbrev pub denies_alone : Slots → Item → ℕ → Bool
denies_alone slots item number = not (is_same Success (rules_answer (slice_index_or slots number None ∷ []) false item))

-- Of mac_bsdextended without first match exactly the rules are told that deny the check by themselves, by rising number.
abbrev pub EachRuleIsTold : Type 0
EachRuleIsTold =
    (slots : Slots) (registration : Registration) (by : Option Module) (item : Item)
    → flat_map numbers_told (denier by item (registration, means.Bsdextended slots false)) ≡ filter (denies_alone slots item) (range_with_len 0 (length slots))

-- Histories

-- Those that are told to deny a check, by the answer to it: a privilege is granted by nobody, else one decides.
abbrev pub AreTold : Bool → Answer → List Denier → Type 0
AreTold true answer told = (answer ≡ record { errno = Eperm; by = None }) × (told ≡ [])
AreTold false answer told = IsDecided answer told

-- the check of the number was denied with that answer
pub record IsDenied (listed : List Entry) (checks : List Item) (asked : CheckOp) (number : ℕ) (answer : Answer) : Type 0 where
  pub item : Item
  pub check : slice_get checks (number - 1) ≡ Some item
  pub op : asked ≡ item.op
  pub told : AreTold (asks_privilege item.op) answer (deniers listed answer.by item)

-- a reply that is a denial is that of a check of the plan
abbrev pub IsTold : List Entry → Option Plan → Reply → Type 0
IsTold listed (Some plan) (reply.Denied errno op number by) = IsDenied listed plan.items op number (record { errno = errno; by = by })
IsTold listed None (reply.Denied errno op number by) = ⊥
IsTold listed plan other = Unit {0}

abbrev pub EventIsTold : Script → RunState → Event → Type 0
EventIsTold s r (event.Done t line reply) = IsTold r.state.specs (next_plan s r t) reply
EventIsTold s r (event.Changed t line reply) = IsTold r.state.specs (next_plan s r t) reply
EventIsTold s r other = Unit {0}

abbrev pub AllAreTold : Script → RunState → List Event → Type 0
AllAreTold s r [] = Unit {0}
AllAreTold s r (e ∷ es) = EventIsTold s r e × AllAreTold s (run_after s r e) es

-- Each denial of a legal history is that of a check, and those that deny it are told: none of a privilege, else exactly one that decides, which
-- the reply names.
abbrev pub DenialsAreTold : Type 0
DenialsAreTold = (s : Script) (h : History) → IsWellFormed s → IsLegal s h → AllAreTold s (opening_run s) h.events.list

-- Lowering

abbrev pub element_of : LabelValue → Option Elem
element_of value = (range_label value).effective

-- The value of a subject's slot becomes another, by how that is told: nothing changes, or the element is the told one, and another.
abbrev pub IsLowered : LabelValue → LabelValue → Option Lowering → Type 0
IsLowered own left None = left ≡ own
IsLowered own left (Some lowering) = (element_of own ≡ Some lowering.before) × (element_of left ≡ Some lowering.left) × (lowering.before ≢ lowering.left)

-- A lowering is told exactly of a check that leaves its subject another element of mac_lomac.
abbrev pub LoweringsAreTold : Type 0
LoweringsAreTold =
    (slot : ℕ) (item : Item)
    → IsLowered (slice_index_or item.subject.label slot Unset) (after_check slot (slice_index_or item.subject.label slot Unset) item) (lowering_of slot item)

-- Permits

-- Whether these letters are allowed, by the rule that is told. It stands in the slot of its number with the letters that are told, and decides:
-- whatever stands behind it, the rules up to it allow; and they deny where it has letters that lack what is asked. Where none is told, they are
-- allowed exactly where no rule matches.
abbrev pub AreAllowedBy : Slots → Cred → FileView → ℕ → Option Permit → Type 0
AreAllowedBy slots cred file asked (Some (permits.Rule number wanted given)) =
    (wanted ≡ asked)
    × ((behind : Slots) → verdict true (take (suc number) slots ++ behind) cred file asked ≡ true)
    × ((rule : Rule) × (slice_index_or slots number None ≡ Some rule) × (rule.mode ≡ given)
    × ((letters : ℕ) → bit_and letters asked ≢ asked → verdict true (take number slots ++ Some (with_letters rule letters) ∷ []) cred file asked ≡ false))
AreAllowedBy slots cred file asked (Some (permits.Port place rule)) = ⊥
AreAllowedBy slots cred file asked None = verdict true slots cred file asked ≡ not (list_any (is_match cred file) slots)

-- by mac_bsdextended with first match, of a check that asks for letters
abbrev pub FileRulesAllow : Type 0
FileRulesAllow =
    (slots : Slots) (item : Item) (asked : ℕ) → (row_of item.op).letters ≡ Some asked
    → AreAllowedBy slots item.subject.cred (attributes_of item.object) asked (permit (means.Bsdextended slots true) item)

-- Whether a port may be bound by rules, by the one that is told. It is the first by which it may: by itself, and by none of those before its
-- place, which is counted from 1. Where none is told, it may be bound exactly where it may without rules.
abbrev pub IsBoundBy : (List PortRule → Bool) → List PortRule → Option Permit → Type 0
IsBoundBy may rules (Some (permits.Port place rule)) =
    (before : ℕ) × (place ≡ suc before) × (slice_get rules before ≡ Some rule) × (may (rule ∷ []) ≡ true) × (may (take before rules) ≡ false)
IsBoundBy may rules (Some (permits.Rule number wanted given)) = ⊥
IsBoundBy may rules None = may rules ≡ may []

-- by mac_portacl, of a check that binds a port
abbrev pub PortRulesAllow : Type 0
PortRulesAllow =
    (rules : List PortRule) (port_high : ℕ) (suser autoport : Bool) (item : Item) (port : Bool × ℕ) → item.op ≡ op.SocketBind → item.port ≡ Some port
    → IsBoundBy (λ some. may_bind some port_high suser autoport item.subject.cred port) rules (permit (means.Portacl rules port_high suser autoport) item)
