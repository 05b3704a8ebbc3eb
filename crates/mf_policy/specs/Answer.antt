-- What a policy answers to an item, by its spec and the table of operations: mac_biba(4), mac_mls(4), mac_lomac(4), mac_partition(4),
-- mac_bsdextended(4), mac_priority(4), mac_seeotheruids(4) and mac_portacl(4), with the errnos of docs/MANUAL.md (POLICIES).
use Rattle.std.specs.Option.{option_map_or}
use Rattle.std.specs.Prelude.{ℕ, Bool, true, false, if◌then◌else◌, not, ◌&&◌, ◌||◌, ◌==◌, Option, Some, None, unwrap_or, slice_index_or, option_and_then}
use Rattle.mf_errno.specs.declared.errno.Errno.{Errno}
use Rattle.mf_errno.specs.declared.errno.Errno.TheVariants.{Success, Esrch, Eacces, Eperm}
use Rattle.mf_errno.specs.declared.module.Module.TheVariants as modules
use Rattle.mf_errno.specs.declared.privilege.Priv.{Priv}
use Rattle.mf_errno.specs.declared.privilege.Priv.TheVariants as privilege
use Rattle.mf_elem.specs.declared.elem.Elem.{Elem}
use Rattle.mf_elem.specs.declared.label.RangeLabel.{RangeLabel}
use Rattle.mf_elem.specs.declared.label.LabelValue.{LabelValue}
use Rattle.mf_elem.specs.declared.label.LabelValue.TheVariants.{Unset, Range}
use Rattle.mf_elem.specs.declared.label.Request.{Request}
use Rattle.mf_elem.specs.Elem.{dominates, is_equal, same_level}
use Rattle.mf_elem.specs.Label.{is_privileged}
use Rattle.mf_cred.specs.declared.cred.Cred.{Cred}
use Rattle.mf_cred.specs.declared.cred.FileView.{FileView}
use Rattle.mf_cred.specs.Groups.{in_group}
use Rattle.mf_item.specs.Item.{Item}
use Rattle.mf_item.specs.declared.view.ObjectView.{ObjectView}
use Rattle.mf_rule.specs.RuleList.{Slots, verdict}
use Rattle.mf_policy.specs.declared.spec.Spec.{Spec}
use Rattle.mf_policy.specs.declared.spec.Spec.TheVariants as means
use Rattle.mf_policy.specs.declared.operations.Test.{Test}
use Rattle.mf_policy.specs.declared.operations.Test.TheVariants.{Observe, Modify, ObserveAndModify, SameLevel, RelabelObject, RelabelCredential, GuardModules}
use Rattle.mf_policy.specs.declared.operations.PartitionTest.{PartitionTest}
use Rattle.mf_policy.specs.declared.operations.PartitionTest.TheVariants.{Agree, Join, Ignore}
use Rattle.mf_policy.specs.Modules.{range_asked, number_asked, partition_of}
use Rattle.mf_policy.specs.Operations.{is_transfer, row_of}
use Rattle.mf_policy.specs.Ports.{binding_answer, is_on_process, may_bind, may_see}
use Rattle.mf_policy.specs.Relabel.{credential_relabel, object_relabel}

-- A policy whose labels have elements: whether a subject of one element may observe and may modify an object of another, and which part of a
-- request is the policy's.
pub record LatticePolicy : Type 0 where
  pub may_observe : Elem → Elem → Bool
  pub may_modify : Elem → Elem → Bool
  pub part : Request → Option RangeLabel
  -- the answer to a subject of this label that loads or unloads modules
  pub guard_modules : RangeLabel → Errno
  -- the answer to a subject of this element and label that asks for that label of its own
  pub relabel_credential : Elem → RangeLabel → RangeLabel → Errno
  -- the answer to it where it asks for that label of an object, whose element is the old one so far
  pub relabel_object : Elem → RangeLabel → Elem → RangeLabel → Errno

-- success where the test holds, else the error
abbrev pub errno_unless : Bool → Errno → Errno
errno_unless true errno = Success
errno_unless false errno = errno

-- integrity: one reads up and writes down, and the privileged alone load modules
abbrev pub biba : LatticePolicy
biba =
    record {
      may_observe = λ subject object. dominates object subject;
      may_modify = λ subject object. dominates subject object;
      part = range_asked modules.Biba;
      guard_modules = λ label. errno_unless (is_privileged label) Eperm;
      relabel_credential = λ subject label asked. credential_relabel label asked;
      relabel_object = λ subject label old asked. object_relabel label old asked;
    }

-- confidentiality: one reads down and writes up, and everybody loads modules; relabels are as for Biba
abbrev pub mls : LatticePolicy
mls =
    record biba {
      may_observe = λ subject object. dominates subject object;
      may_modify = λ subject object. dominates object subject;
      part = range_asked modules.Mls;
      guard_modules = λ label. Success;
    }

-- whether a subject may take or give an element: one that it dominates, and `equal` only where it is equal itself
abbrev pub may_assign : Elem → Option Elem → Bool
may_assign subject None = true
may_assign subject (Some asked) = dominates subject asked && (is_equal subject || not (is_equal asked))

-- integrity by low watermark: one reads everything, and writes down; labels are elements alone, without ranges
abbrev pub lomac : LatticePolicy
lomac =
    record {
      may_observe = λ subject object. true;
      may_modify = λ subject object. dominates subject object;
      part = range_asked modules.Lomac;
      guard_modules = λ label. Success;
      relabel_credential = λ subject label asked. errno_unless (may_assign subject asked.effective) Eperm;
      relabel_object = λ subject label old asked. errno_unless (dominates subject old && may_assign subject asked.effective) Eperm;
    }

-- a label with nothing in it
abbrev pub nothing : RangeLabel
nothing = record { effective = None; range = None }

-- the label that a slot is read as; without an effective element it counts as unset
abbrev pub range_label : LabelValue → RangeLabel
range_label (Range label) = label
range_label other = nothing

-- a slot of the object; unset where there is no object
abbrev pub object_slot : Option ObjectView → ℕ → LabelValue
object_slot object slot = option_map_or (λ object. slice_index_or object.label slot Unset) object Unset

-- the policy's part of a request; nothing where there is no request, or no part
abbrev pub part_of : LatticePolicy → Option Request → RangeLabel
part_of policy request = unwrap_or (option_and_then policy.part request) nothing

-- The answer by whether the subject may observe the object, may modify it, and is of its level. Tests of other things pass.
abbrev pub element_answer : Test → Bool → Bool → Bool → Errno
element_answer (Observe errno) may_observe may_modify same_level = errno_unless may_observe errno
element_answer Modify may_observe may_modify same_level = errno_unless may_modify Eacces
element_answer ObserveAndModify may_observe may_modify same_level = if may_observe then errno_unless may_modify Eacces else Esrch
element_answer SameLevel may_observe may_modify same_level = errno_unless same_level Eacces
element_answer test may_observe may_modify same_level = Success

-- The answer to a subject of this label that asks for that one, by the elements of subject and object, each of which may be unset: the tests of
-- the subject alone, the relabel of an object, and the tests of elements.
abbrev pub labels_answer : LatticePolicy → Test → RangeLabel → RangeLabel → Option Elem → Option Elem → Errno
labels_answer policy test label asked None object = Success
labels_answer policy RelabelCredential label asked (Some subject) object = policy.relabel_credential subject label asked
labels_answer policy GuardModules label asked (Some subject) object = policy.guard_modules label
labels_answer policy test label asked (Some subject) None = Success
labels_answer policy RelabelObject label asked (Some subject) (Some object) = policy.relabel_object subject label object asked
labels_answer policy test label asked (Some subject) (Some object) =
    element_answer test (policy.may_observe subject object) (policy.may_modify subject object) (same_level subject object)

-- what such a policy, which holds this slot, answers to an item
abbrev pub lattice_answer : LatticePolicy → ℕ → Item → Errno
lattice_answer policy slot item =
    let subject = range_label (slice_index_or item.subject.label slot Unset) in
    let object = range_label (object_slot item.object slot) in
    labels_answer policy (row_of item.op).test subject (part_of policy item.request) subject.effective object.effective

-- The answer to a subject of one partition about an object of another, where the subject asks for this one. A subject in no partition, which is 0,
-- sees everything, and one in a partition what is in it; only root takes on a partition, and anybody may ask for none.
abbrev pub partition_verdict : PartitionTest → Cred → ℕ → ℕ → ℕ → Errno
partition_verdict (Agree errno) cred subject object asked = errno_unless (subject == 0 || subject == object) errno
partition_verdict Join cred subject object asked = errno_unless (asked == 0 || cred.uid == 0) Eperm
partition_verdict Ignore cred subject object asked = Success

-- what the partition policy, which holds this slot, answers to an item; a request without a part of its asks for no partition
abbrev pub partition_answer : ℕ → Item → Errno
partition_answer slot item =
    let subject = partition_of (slice_index_or item.subject.label slot Unset) in
    let object = partition_of (object_slot item.object slot) in
    let asked = unwrap_or (option_and_then (number_asked modules.Partition) item.request) 0 in
    partition_verdict (row_of item.op).partition item.subject.cred subject object asked

-- the attributes of the object; all zero where there is none
abbrev pub attributes_of : Option ObjectView → FileView
attributes_of None = record { uid = 0; gid = 0; mode = 0; dir = false }
attributes_of (Some object) = object.file

-- what rules about files answer to an item: they are asked where its operation has letters
abbrev pub rules_answer : Slots → Bool → Item → Errno
rules_answer rules first item =
    option_map_or (λ letters. errno_unless (verdict first rules item.subject.cred (attributes_of item.object) letters) Eacces)
    (row_of item.op).letters Success

-- whether a policy of this spec goes by the table of operations at transfers too; without revocation mac_biba's lets them all pass
abbrev pub tests_transfers : Spec → Bool
tests_transfers (means.Biba revocation) = revocation
tests_transfers other = true

-- what a policy of this spec, which holds this slot, answers to an item
abbrev pub answer : Spec → ℕ → Item → Errno
answer (means.Biba revocation) slot item = if is_transfer item.op && not revocation then Success else lattice_answer biba slot item
answer means.Mls slot item = lattice_answer mls slot item
answer means.Lomac slot item = lattice_answer lomac slot item
answer means.Partition slot item = partition_answer slot item
answer (means.Bsdextended rules first) slot item = rules_answer rules first item
answer means.Priority slot item = Success
answer (means.Seeotheruids primarygroup specific gid suser) slot item =
    errno_unless (not (is_on_process item.op) || may_see primarygroup specific gid suser item.subject.cred (attributes_of item.object)) Esrch
answer (means.Portacl rules port_high suser autoport) slot item =
    binding_answer (may_bind rules port_high suser autoport item.subject.cred) item.op item.port

-- the group whose members mac_priority grants the privilege
abbrev pub granted_group : Priv → Option ℕ
granted_group privilege.SchedRtprio = Some 47
granted_group privilege.SchedIdprio = Some 48
granted_group other = None

-- whether a policy of this spec grants the privilege to a process of that credential
abbrev pub grants : Spec → Cred → Priv → Bool
grants means.Priority cred privilege = option_map_or (in_group cred) (granted_group privilege) false
grants other cred privilege = false
