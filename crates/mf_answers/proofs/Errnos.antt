-- That the error of a reason is what the policy answers.
use Rattle.std.proofs.Common.{◌≡◌, ℕ, Bool, true, false, not, ◌&&◌, ◌||◌, ◌==◌, Option, Some, None, is_some, refl}
use Rattle.std.specs.Prelude.{if◌then◌else◌, option_and_then}
use Rattle.std.specs.Option.{option_map_or, option_or}
use Rattle.mf_errno.specs.declared.errno.Errno.TheVariants.{Success, Esrch, Eacces, Eperm, Einval}
use Rattle.mf_elem.specs.declared.elem.Elem.{Elem}
use Rattle.mf_elem.specs.declared.label.RangeLabel.{RangeLabel}
use Rattle.mf_elem.specs.Elem.{dominates, is_equal, same_level}
use Rattle.mf_elem.specs.Label.{has_equal, is_privileged}
use Rattle.mf_item.specs.Item.{Item}
use Rattle.mf_item.specs.declared.operation.CheckOp.{CheckOp}
use Rattle.mf_item.specs.declared.operation.CheckOp.TheVariants as op
use Rattle.mf_cred.specs.declared.cred.Cred.{Cred}
use Rattle.mf_rule.specs.RuleList.{Slots}
use Rattle.mf_policy.specs.declared.spec.Spec.{Spec}
use Rattle.mf_policy.specs.declared.spec.Spec.TheVariants as means
use Rattle.mf_policy.specs.declared.operations.Test.{Test}
use Rattle.mf_policy.specs.declared.operations.Test.TheVariants as test
use Rattle.mf_policy.specs.declared.operations.PartitionTest.{PartitionTest}
use Rattle.mf_policy.specs.declared.operations.PartitionTest.TheVariants.{Agree, Join, Ignore}
use Rattle.mf_policy.specs.Answer.{LatticePolicy, answer, attributes_of, biba, element_answer, errno_unless, labels_answer, lattice_answer, may_assign, partition_verdict, rules_answer}
use Rattle.mf_policy.specs.Operations.{is_transfer, row_of}
use Rattle.mf_policy.specs.Ports.{binding_answer, is_on_process, may_bind, may_see}
use Rattle.mf_policy.specs.Relabel.{credential_relabel, is_outside, object_relabel, reaches_out}
use Rattle.mf_rule.specs.RuleList.{verdict}
use Rattle.mf_answers.specs.declared.order.Order.{Order}
use Rattle.mf_answers.specs.declared.order.Order.TheVariants.{Biba, Mls, Lomac}
use Rattle.mf_answers.specs.declared.reasons.Reason.TheVariants as why
use Rattle.mf_answers.specs.Orders.{policy_of}
use Rattle.mf_answers.specs.Reasons.{assign_reason, binding_reason, credential_reason, element_reason, errno_by, give_reason, guard_reason, labels_reason, lattice_reason, modify_reason, object_reason, own_reason, partitions_reason, reason, reason_unless, relabel_reason, rules_reason, verdict_reason}
use Rattle.mf_answers.proofs.Deciding.{by_verdict, unless}

elements : (policy : LatticePolicy) (t : Test) (s o : Elem) → element_answer t (policy.may_observe s o) (policy.may_modify s o) (same_level s o) ≡ errno_by (element_reason policy t s o)
elements policy (test.Observe errno) s o = unless (policy.may_observe s o) (why.Observe s o errno)
elements policy test.Modify s o = unless (policy.may_modify s o) (why.Modify s o)
elements policy test.ObserveAndModify s o = both (policy.may_observe s o)
  where
    both : (b : Bool) → (if b then errno_unless (policy.may_modify s o) Eacces else Esrch) ≡ errno_by (option_or (reason_unless b (why.Observe s o Esrch)) (modify_reason policy s o))
    both true = unless (policy.may_modify s o) (why.Modify s o)
    both false = refl
elements policy test.SameLevel s o = unless (same_level s o) (why.Level s o)
elements policy other s o = refl

-- Relabels

own : (label asked : RangeLabel) → credential_relabel label asked ≡ errno_by (own_reason label asked)
own label asked =
    one (is_some asked.range && is_outside (option_or asked.effective label.effective) asked.range) (reaches_out asked.range label.range)
    (is_outside asked.effective label.range) (has_equal asked && not (is_privileged label))
  where
    one : (a r o x : Bool)
        → (if a then Einval else if r || o then Eperm else if x then Eperm else Success)
        ≡ errno_by (if a then Some (why.LeavesOut (option_or asked.effective label.effective) asked.range) else if r then Some (why.RangeOutside asked.range label.range)
        else if o then Some (why.AskedOutside asked.effective label.range) else reason_unless (not x) (why.AsksEqual label))
    one true r o x = refl
    one false true o x = refl
    one false false true x = refl
    one false false false true = refl
    one false false false false = refl

given : (label : RangeLabel) (old : Elem) (asked : RangeLabel) → object_relabel label old asked ≡ errno_by (object_reason label old asked)
given label old asked =
    one (is_some asked.range) (is_outside (Some old) label.range) (is_outside asked.effective label.range)
    (option_map_or is_equal asked.effective false && not (is_privileged label))
  where
    one : (a r o x : Bool)
        → (if a then Einval else if r || o then Eperm else if x then Eperm else Success)
        ≡ errno_by (if a then Some (why.RangeOfObject asked.range) else if r then Some (why.PresentOutside old label.range)
        else if o then Some (why.AskedOutside asked.effective label.range) else reason_unless (not x) (why.AsksEqual label))
    one true r o x = refl
    one false true o x = refl
    one false false true x = refl
    one false false false true = refl
    one false false false false = refl

assigned : (s : Elem) (asked : Option Elem) → errno_unless (may_assign s asked) Eperm ≡ errno_by (assign_reason s asked)
assigned s None = refl
assigned s (Some asked) = one (dominates s asked)
  where
    one : (d : Bool) → errno_unless (d && (is_equal s || not (is_equal asked))) Eperm
        ≡ errno_by (if d then reason_unless (is_equal s || not (is_equal asked)) (why.EqualAbove s) else Some (why.AskedAbove s asked))
    one true = unless (is_equal s || not (is_equal asked)) (why.EqualAbove s)
    one false = refl

handed : (s old : Elem) (asked : Option Elem) → errno_unless (dominates s old && may_assign s asked) Eperm ≡ errno_by (give_reason s old asked)
handed s old asked = one (dominates s old)
  where
    one : (d : Bool) → errno_unless (d && may_assign s asked) Eperm ≡ errno_by (if d then assign_reason s asked else Some (why.PresentAbove s old))
    one true = assigned s asked
    one false = refl

credential : (order : Order) (s : Elem) (label asked : RangeLabel) → (policy_of order).relabel_credential s label asked ≡ errno_by (credential_reason order s label asked)
credential Biba s label asked = own label asked
credential Mls s label asked = own label asked
credential Lomac s label asked = assigned s asked.effective

relabels : (order : Order) (s : Elem) (label : RangeLabel) (old : Elem) (asked : RangeLabel) → (policy_of order).relabel_object s label old asked ≡ errno_by (relabel_reason order s label old asked)
relabels Biba s label old asked = given label old asked
relabels Mls s label old asked = given label old asked
relabels Lomac s label old asked = handed s old asked.effective

guards : (order : Order) (label : RangeLabel) → (policy_of order).guard_modules label ≡ errno_by (guard_reason order label)
guards Biba label = unless (is_privileged label) (why.Unprivileged label)
guards Mls label = refl
guards Lomac label = refl

labels : (order : Order) (t : Test) (label asked : RangeLabel) (subject object : Option Elem) → labels_answer (policy_of order) t label asked subject object ≡ errno_by (labels_reason order t label asked subject object)
labels order t label asked None object = refl
labels order test.RelabelCredential label asked (Some s) object = credential order s label asked
labels order test.GuardModules label asked (Some s) object = guards order label
labels order test.RelabelObject label asked (Some s) None = refl
labels order test.RelabelObject label asked (Some s) (Some o) = relabels order s label o asked
labels order t label asked (Some s) None = refl
labels order t label asked (Some s) (Some o) = elements (policy_of order) t s o

lattice : (order : Order) (slot : ℕ) (item : Item) → lattice_answer (policy_of order) slot item ≡ errno_by (lattice_reason order slot item)
lattice order slot item = labels order (row_of item.op).test _ _ _ _

-- The other policies

partitions : (t : PartitionTest) (cred : Cred) (subject object asked : ℕ) → partition_verdict t cred subject object asked ≡ errno_by (partitions_reason t cred.uid subject object asked)
partitions (Agree errno) cred subject object asked = unless (subject == 0 || subject == object) (why.Partitions subject object errno)
partitions Join cred subject object asked = unless (asked == 0 || cred.uid == 0) (why.Joins asked cred.uid)
partitions Ignore cred subject object asked = refl

rules : (slots : Slots) (first : Bool) (item : Item) → rules_answer slots first item ≡ errno_by (rules_reason slots first item)
rules slots first item = one (row_of item.op).letters
  where
    one : (letters : Option ℕ) → option_map_or (λ letters. errno_unless (verdict first slots item.subject.cred (attributes_of item.object) letters) Eacces) letters Success
        ≡ errno_by (option_and_then (λ letters. verdict_reason first slots item.subject.cred (attributes_of item.object) letters) letters)
    one None = refl
    one (Some letters) = by_verdict item.subject.cred (attributes_of item.object) letters first slots

binding : (may : Bool × ℕ → Bool) (uid : ℕ) (o : CheckOp) (port : Option (Bool × ℕ)) → binding_answer may o port ≡ errno_by (binding_reason may uid o port)
binding may uid op.SocketBind None = refl
binding may uid op.SocketBind (Some port) = one (may port)
  where
    one : (b : Bool) → (if b then Success else Eperm) ≡ errno_by (reason_unless b (why.Port port.0 port.1 uid))
    one true = refl
    one false = refl
binding may uid other port = refl

pub by_reason : (spec : Spec) (slot : ℕ) (item : Item) → answer spec slot item ≡ errno_by (reason spec slot item)
by_reason (means.Biba revocation) slot item = one (is_transfer item.op && not revocation)
  where
    one : (b : Bool) → (if b then Success else lattice_answer biba slot item) ≡ errno_by (if b then None else lattice_reason Biba slot item)
    one true = refl
    one false = lattice Biba slot item
by_reason means.Mls slot item = lattice Mls slot item
by_reason means.Lomac slot item = lattice Lomac slot item
by_reason means.Partition slot item = partitions (row_of item.op).partition item.subject.cred _ _ _
by_reason (means.Bsdextended slots first) slot item = rules slots first item
by_reason means.Priority slot item = refl
by_reason (means.Seeotheruids primarygroup specific gid suser) slot item =
    unless (not (is_on_process item.op) || may_see primarygroup specific gid suser item.subject.cred (attributes_of item.object))
    (why.Users item.subject.cred.ruid (attributes_of item.object).uid)
by_reason (means.Portacl rules port_high suser autoport) slot item =
    binding (may_bind rules port_high suser autoport item.subject.cred) item.subject.cred.uid item.op item.port
