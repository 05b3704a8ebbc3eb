-- Why a policy denies an item: the test that fails, with what it compares. The tests are those of mf_policy specs/Answer and Relabel, in
-- their order; which of them is told, and with what, is this model's own.
use Rattle.std.specs.Option.{option_map_or, option_or}
use Rattle.std.specs.Prelude.{ℕ, Bool, true, false, if◌then◌else◌, not, ◌&&◌, ◌||◌, ◌==◌, Option, Some, None, List, is_some, position, unwrap_or, slice_index_or, option_and_then}
use Rattle.mf_errno.specs.declared.errno.Errno.{Errno}
use Rattle.mf_errno.specs.declared.errno.Errno.TheVariants.{Success, Esrch, Eacces, Eperm, Einval}
use Rattle.mf_errno.specs.declared.module.Module.TheVariants as modules
use Rattle.mf_elem.specs.declared.elem.Elem.{Elem}
use Rattle.mf_elem.specs.declared.label.RangeLabel.{RangeLabel}
use Rattle.mf_elem.specs.declared.label.LabelValue.TheVariants.{Unset}
use Rattle.mf_elem.specs.Elem.{dominates, is_equal, same_level}
use Rattle.mf_elem.specs.Label.{has_equal, is_privileged}
use Rattle.mf_cred.specs.declared.cred.Cred.{Cred}
use Rattle.mf_cred.specs.declared.cred.FileView.{FileView}
use Rattle.mf_item.specs.Item.{Item}
use Rattle.mf_item.specs.declared.operation.CheckOp.{CheckOp}
use Rattle.mf_item.specs.declared.operation.CheckOp.TheVariants as op
use Rattle.mf_rule.specs.declared.rule.Rule.{Rule}
use Rattle.mf_rule.specs.declared.ports.PortRule.{PortRule}
use Rattle.mf_rule.specs.RuleList.{Slots, is_match, slot_gives}
use Rattle.mf_policy.specs.declared.spec.Spec.{Spec}
use Rattle.mf_policy.specs.declared.spec.Spec.TheVariants as means
use Rattle.mf_policy.specs.declared.operations.Test.{Test}
use Rattle.mf_policy.specs.declared.operations.Test.TheVariants as test
use Rattle.mf_policy.specs.declared.operations.PartitionTest.{PartitionTest}
use Rattle.mf_policy.specs.declared.operations.PartitionTest.TheVariants.{Agree, Join, Ignore}
use Rattle.mf_policy.specs.Answer.{LatticePolicy, attributes_of, object_slot, part_of, range_label}
use Rattle.mf_policy.specs.Modules.{number_asked, partition_of}
use Rattle.mf_policy.specs.Operations.{is_transfer, row_of}
use Rattle.mf_policy.specs.Ports.{is_on_process, may_bind, may_see}
use Rattle.mf_policy.specs.Relabel.{is_outside, reaches_out}
use Rattle.mf_answers.specs.declared.order.Order.{Order}
use Rattle.mf_answers.specs.declared.order.Order.TheVariants.{Biba, Mls, Lomac}
use Rattle.mf_answers.specs.Orders.{policy_of}
use Rattle.mf_answers.specs.declared.reasons.Reason.{Reason}
use Rattle.mf_answers.specs.declared.reasons.Reason.TheVariants as why

-- none where the test holds, else the reason
abbrev pub reason_unless : Bool → Reason → Option Reason
reason_unless true reason = None
reason_unless false reason = Some reason

-- the error that a policy answers for the reason
abbrev pub errno_of : Reason → Errno
errno_of (why.Observe subject object errno) = errno
errno_of (why.Modify subject object) = Eacces
errno_of (why.Level subject object) = Eacces
errno_of (why.LeavesOut element range) = Einval
errno_of (why.RangeOutside asked own) = Eperm
errno_of (why.AskedOutside asked own) = Eperm
errno_of (why.PresentOutside present own) = Eperm
errno_of (why.RangeOfObject asked) = Einval
errno_of (why.AsksEqual own) = Eperm
errno_of (why.AskedAbove own asked) = Eperm
errno_of (why.PresentAbove own present) = Eperm
errno_of (why.EqualAbove own) = Eperm
errno_of (why.Unprivileged own) = Eperm
errno_of (why.Partitions subject object errno) = errno
errno_of (why.Joins asked uid) = Eperm
errno_of (why.Rule number wanted given) = Eacces
errno_of (why.Users subject object) = Esrch
errno_of (why.Port tcp port uid) = Eperm

-- the same, and success where there is none
abbrev pub errno_by : Option Reason → Errno
errno_by None = Success
errno_by (Some reason) = errno_of reason

-- Elements

abbrev pub observe_reason : LatticePolicy → Elem → Elem → Errno → Option Reason
observe_reason policy subject object errno = reason_unless (policy.may_observe subject object) (why.Observe subject object errno)

abbrev pub modify_reason : LatticePolicy → Elem → Elem → Option Reason
modify_reason policy subject object = reason_unless (policy.may_modify subject object) (why.Modify subject object)

abbrev pub level_reason : Elem → Elem → Option Reason
level_reason subject object = reason_unless (same_level subject object) (why.Level subject object)

-- of a test of elements
abbrev pub element_reason : LatticePolicy → Test → Elem → Elem → Option Reason
element_reason policy (test.Observe errno) subject object = observe_reason policy subject object errno
element_reason policy test.Modify subject object = modify_reason policy subject object
element_reason policy test.ObserveAndModify subject object = option_or (observe_reason policy subject object Esrch) (modify_reason policy subject object)
element_reason policy test.SameLevel subject object = level_reason subject object
element_reason policy other subject object = None

-- Relabels

-- a new element, by whether `equal` is asked for
abbrev pub new_reason : RangeLabel → Option Elem → Bool → Option Reason
new_reason subject asked equal =
    if is_outside asked subject.range then Some (why.AskedOutside asked subject.range)
    else reason_unless (not (equal && not (is_privileged subject))) (why.AsksEqual subject)

abbrev pub own_reason : RangeLabel → RangeLabel → Option Reason
own_reason subject asked =
    let element = option_or asked.effective subject.effective in
    if is_some asked.range && is_outside element asked.range then Some (why.LeavesOut element asked.range)
    else if reaches_out asked.range subject.range then Some (why.RangeOutside asked.range subject.range)
    else new_reason subject asked.effective (has_equal asked)

abbrev pub object_reason : RangeLabel → Elem → RangeLabel → Option Reason
object_reason subject old asked =
    if is_some asked.range then Some (why.RangeOfObject asked.range)
    else if is_outside (Some old) subject.range then Some (why.PresentOutside old subject.range)
    else new_reason subject asked.effective (option_map_or is_equal asked.effective false)

-- by mac_lomac
abbrev pub assign_reason : Elem → Option Elem → Option Reason
assign_reason subject None = None
assign_reason subject (Some asked) =
    if dominates subject asked then reason_unless (is_equal subject || not (is_equal asked)) (why.EqualAbove subject)
    else Some (why.AskedAbove subject asked)

abbrev pub give_reason : Elem → Elem → Option Elem → Option Reason
give_reason subject old asked = if dominates subject old then assign_reason subject asked else Some (why.PresentAbove subject old)

abbrev pub credential_reason : Order → Elem → RangeLabel → RangeLabel → Option Reason
credential_reason Lomac subject label asked = assign_reason subject asked.effective
credential_reason other subject label asked = own_reason label asked

abbrev pub relabel_reason : Order → Elem → RangeLabel → Elem → RangeLabel → Option Reason
relabel_reason Lomac subject label old asked = give_reason subject old asked.effective
relabel_reason other subject label old asked = object_reason label old asked

-- mac_biba alone guards the kernel's modules
abbrev pub guard_reason : Order → RangeLabel → Option Reason
guard_reason Biba label = reason_unless (is_privileged label) (why.Unprivileged label)
guard_reason other label = None

abbrev pub labels_reason : Order → Test → RangeLabel → RangeLabel → Option Elem → Option Elem → Option Reason
labels_reason order test label asked None object = None
labels_reason order test.RelabelCredential label asked (Some subject) object = credential_reason order subject label asked
labels_reason order test.GuardModules label asked (Some subject) object = guard_reason order label
labels_reason order test label asked (Some subject) None = None
labels_reason order test.RelabelObject label asked (Some subject) (Some object) = relabel_reason order subject label object asked
labels_reason order test label asked (Some subject) (Some object) = element_reason (policy_of order) test subject object

abbrev pub lattice_reason : Order → ℕ → Item → Option Reason
lattice_reason order slot item =
    let subject = range_label (slice_index_or item.subject.label slot Unset) in
    let object = range_label (object_slot item.object slot) in
    labels_reason order (row_of item.op).test subject (part_of (policy_of order) item.request) subject.effective object.effective

-- Partitions

abbrev pub partitions_reason : PartitionTest → ℕ → ℕ → ℕ → ℕ → Option Reason
partitions_reason (Agree errno) uid subject object asked = reason_unless (subject == 0 || subject == object) (why.Partitions subject object errno)
partitions_reason Join uid subject object asked = reason_unless (asked == 0 || uid == 0) (why.Joins asked uid)
partitions_reason Ignore uid subject object asked = None

abbrev pub partition_reason : ℕ → Item → Option Reason
partition_reason slot item =
    let subject = partition_of (slice_index_or item.subject.label slot Unset) in
    let object = partition_of (object_slot item.object slot) in
    let asked = unwrap_or (option_and_then (number_asked modules.Partition) item.request) 0 in
    partitions_reason (row_of item.op).partition item.subject.cred.uid subject object asked

-- Rules about files

-- the number of the rule that decides: with first match the least that matches, and without the least that matches and lacks a letter
abbrev pub deciding : Bool → Slots → Cred → FileView → ℕ → Option ℕ
deciding true slots cred file wanted = position (is_match cred file) slots
deciding false slots cred file wanted = position (λ slot. is_match cred file slot && not (slot_gives wanted slot)) slots

-- of the rule with the number, unless it gives the letters
abbrev pub slot_reason : Option Rule → ℕ → ℕ → Option Reason
slot_reason None number wanted = None
slot_reason (Some rule) number wanted = reason_unless (slot_gives wanted (Some rule)) (why.Rule number wanted rule.mode)

abbrev pub verdict_reason : Bool → Slots → Cred → FileView → ℕ → Option Reason
verdict_reason first slots cred file wanted =
    option_and_then (λ number. slot_reason (slice_index_or slots number None) number wanted) (deciding first slots cred file wanted)

-- of the rule with the number by itself, where it matches
abbrev pub rule_reason : Slots → ℕ → Item → Option Reason
rule_reason slots number item =
    let slot = slice_index_or slots number None in
    if is_match item.subject.cred (attributes_of item.object) slot then option_and_then (slot_reason slot number) (row_of item.op).letters else None

abbrev pub rules_reason : Slots → Bool → Item → Option Reason
rules_reason rules first item =
    option_and_then (λ letters. verdict_reason first rules item.subject.cred (attributes_of item.object) letters) (row_of item.op).letters

-- Other users, and ports

abbrev pub users_reason : Bool → Bool → ℕ → Bool → Item → Option Reason
users_reason primarygroup specific gid suser item =
    let process = attributes_of item.object in
    reason_unless (not (is_on_process item.op) || may_see primarygroup specific gid suser item.subject.cred process)
    (why.Users item.subject.cred.ruid process.uid)

abbrev pub binding_reason : (Bool × ℕ → Bool) → ℕ → CheckOp → Option (Bool × ℕ) → Option Reason
binding_reason may uid op.SocketBind (Some port) = reason_unless (may port) (why.Port port.0 port.1 uid)
binding_reason may uid op port = None

abbrev pub port_reason : List PortRule → ℕ → Bool → Bool → Item → Option Reason
port_reason rules port_high suser autoport item =
    binding_reason (may_bind rules port_high suser autoport item.subject.cred) item.subject.cred.uid item.op item.port

-- why a policy of this spec, which holds this slot, denies an item
abbrev pub reason : Spec → ℕ → Item → Option Reason
reason (means.Biba revocation) slot item = if is_transfer item.op && not revocation then None else lattice_reason Biba slot item
reason means.Mls slot item = lattice_reason Mls slot item
reason means.Lomac slot item = lattice_reason Lomac slot item
reason means.Partition slot item = partition_reason slot item
reason (means.Bsdextended rules first) slot item = rules_reason rules first item
reason means.Priority slot item = None
reason (means.Seeotheruids primarygroup specific gid suser) slot item = users_reason primarygroup specific gid suser item
reason (means.Portacl rules port_high suser autoport) slot item = port_reason rules port_high suser autoport item
