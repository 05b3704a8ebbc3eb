-- That there is no reason for success.
use Rattle.std.proofs.Common.{◌≡◌, ℕ, Bool, true, false, not, ◌&&◌, ◌||◌, ◌==◌, Option, Some, None, is_some, refl, sym, ap, ◌∙◌}
use Rattle.std.specs.Prelude.{if◌then◌else◌, is_none, option_and_then, slice_index_or}
use Rattle.std.specs.Option.{option_map_or, option_or}
use Rattle.std.proofs.lemmas.Bool.{not-true}
use Rattle.mf_errno.specs.declared.errno.Errno.TheVariants.{Success, Esrch}
use Rattle.mf_errno.specs.Same.{is_same}
use Rattle.mf_elem.specs.declared.elem.Elem.{Elem}
use Rattle.mf_elem.specs.declared.label.RangeLabel.{RangeLabel}
use Rattle.mf_elem.specs.Elem.{dominates, is_equal, same_level}
use Rattle.mf_elem.specs.Label.{has_equal, is_privileged}
use Rattle.mf_item.specs.Item.{Item}
use Rattle.mf_item.specs.declared.operation.CheckOp.{CheckOp}
use Rattle.mf_item.specs.declared.operation.CheckOp.TheVariants as op
use Rattle.mf_cred.specs.declared.cred.Cred.{Cred}
use Rattle.mf_cred.specs.declared.cred.FileView.{FileView}
use Rattle.mf_rule.specs.declared.rule.Rule.{Rule}
use Rattle.mf_rule.specs.RuleList.{Slots, slot_gives}
use Rattle.mf_policy.specs.declared.spec.Spec.{Spec}
use Rattle.mf_policy.specs.declared.spec.Spec.TheVariants as means
use Rattle.mf_policy.specs.declared.operations.Test.{Test}
use Rattle.mf_policy.specs.declared.operations.Test.TheVariants as test
use Rattle.mf_policy.specs.declared.operations.PartitionTest.{PartitionTest}
use Rattle.mf_policy.specs.declared.operations.PartitionTest.TheVariants.{Agree, Join, Ignore}
use Rattle.mf_policy.specs.Answer.{LatticePolicy, attributes_of}
use Rattle.mf_policy.specs.Operations.{is_transfer, row_of}
use Rattle.mf_policy.specs.Ports.{is_on_process, may_bind, may_see}
use Rattle.mf_policy.specs.Relabel.{is_outside, reaches_out}
use Rattle.mf_answers.specs.declared.order.Order.{Order}
use Rattle.mf_answers.specs.declared.order.Order.TheVariants.{Biba, Mls, Lomac}
use Rattle.mf_answers.specs.declared.reasons.Reason.{Reason}
use Rattle.mf_answers.specs.declared.reasons.Reason.TheVariants as why
use Rattle.mf_answers.specs.Laws.{ReasonsDeny}
use Rattle.mf_answers.specs.Orders.{policy_of}
use Rattle.mf_answers.specs.Reasons.{assign_reason, binding_reason, credential_reason, deciding, element_reason, errno_by, errno_of, give_reason, guard_reason, labels_reason, lattice_reason, modify_reason, object_reason, own_reason, partitions_reason, reason, reason_unless, relabel_reason, rules_reason, slot_reason, verdict_reason}
use Rattle.mf_answers.proofs.Errnos.{by_reason}

-- there is none exactly where its error is success
abbrev Tells : Option Reason → Type 0
Tells told = is_none told ≡ is_same Success (errno_by told)

unless : (holds : Bool) (r : Reason) → is_same Success (errno_of r) ≡ false → Tells (reason_unless holds r)
unless true r h = refl
unless false r h = sym h

-- the errors of the table of operations
abbrev has_error : Test → Bool
has_error (test.Observe errno) = not (is_same Success errno)
has_error other = true

abbrev has_errno : PartitionTest → Bool
has_errno (Agree errno) = not (is_same Success errno)
has_errno other = true

each_error : (o : CheckOp) → has_error (row_of o).test ≡ true
each_error op.VnodeLookup = refl
each_error other = refl

each_errno : (o : CheckOp) → has_errno (row_of o).partition ≡ true
each_errno op.VnodeLookup = refl
each_errno other = refl

elements : (policy : LatticePolicy) (t : Test) (s o : Elem) → has_error t ≡ true → Tells (element_reason policy t s o)
elements policy (test.Observe errno) s o h = unless (policy.may_observe s o) (why.Observe s o errno) (not-true _ h)
elements policy test.Modify s o h = unless (policy.may_modify s o) (why.Modify s o) refl
elements policy test.ObserveAndModify s o h = both (policy.may_observe s o)
  where
    both : (b : Bool) → Tells (option_or (reason_unless b (why.Observe s o Esrch)) (modify_reason policy s o))
    both true = unless (policy.may_modify s o) (why.Modify s o) refl
    both false = refl
elements policy test.SameLevel s o h = unless (same_level s o) (why.Level s o) refl
elements policy other s o h = refl

own : (label asked : RangeLabel) → Tells (own_reason label asked)
own label asked =
    one (is_some asked.range && is_outside (option_or asked.effective label.effective) asked.range) (reaches_out asked.range label.range)
    (is_outside asked.effective label.range) (has_equal asked && not (is_privileged label))
  where
    one : (a r o x : Bool)
        → Tells (if a then Some (why.LeavesOut (option_or asked.effective label.effective) asked.range) else if r then Some (why.RangeOutside asked.range label.range)
        else if o then Some (why.AskedOutside asked.effective label.range) else reason_unless (not x) (why.AsksEqual label))
    one true r o x = refl
    one false true o x = refl
    one false false true x = refl
    one false false false true = refl
    one false false false false = refl

given : (label : RangeLabel) (old : Elem) (asked : RangeLabel) → Tells (object_reason label old asked)
given label old asked =
    one (is_some asked.range) (is_outside (Some old) label.range) (is_outside asked.effective label.range)
    (option_map_or is_equal asked.effective false && not (is_privileged label))
  where
    one : (a r o x : Bool)
        → Tells (if a then Some (why.RangeOfObject asked.range) else if r then Some (why.PresentOutside old label.range)
        else if o then Some (why.AskedOutside asked.effective label.range) else reason_unless (not x) (why.AsksEqual label))
    one true r o x = refl
    one false true o x = refl
    one false false true x = refl
    one false false false true = refl
    one false false false false = refl

assigned : (s : Elem) (asked : Option Elem) → Tells (assign_reason s asked)
assigned s None = refl
assigned s (Some asked) = one (dominates s asked)
  where
    one : (d : Bool) → Tells (if d then reason_unless (is_equal s || not (is_equal asked)) (why.EqualAbove s) else Some (why.AskedAbove s asked))
    one true = unless (is_equal s || not (is_equal asked)) (why.EqualAbove s) refl
    one false = refl

handed : (s old : Elem) (asked : Option Elem) → Tells (give_reason s old asked)
handed s old asked = one (dominates s old)
  where
    one : (d : Bool) → Tells (if d then assign_reason s asked else Some (why.PresentAbove s old))
    one true = assigned s asked
    one false = refl

credential : (order : Order) (s : Elem) (label asked : RangeLabel) → Tells (credential_reason order s label asked)
credential Biba s label asked = own label asked
credential Mls s label asked = own label asked
credential Lomac s label asked = assigned s asked.effective

relabels : (order : Order) (s : Elem) (label : RangeLabel) (old : Elem) (asked : RangeLabel) → Tells (relabel_reason order s label old asked)
relabels Biba s label old asked = given label old asked
relabels Mls s label old asked = given label old asked
relabels Lomac s label old asked = handed s old asked.effective

guards : (order : Order) (label : RangeLabel) → Tells (guard_reason order label)
guards Biba label = unless (is_privileged label) (why.Unprivileged label) refl
guards Mls label = refl
guards Lomac label = refl

labels : (order : Order) (t : Test) (label asked : RangeLabel) (subject object : Option Elem) → has_error t ≡ true → Tells (labels_reason order t label asked subject object)
labels order t label asked None object h = refl
labels order test.RelabelCredential label asked (Some s) object h = credential order s label asked
labels order test.GuardModules label asked (Some s) object h = guards order label
labels order test.RelabelObject label asked (Some s) None h = refl
labels order test.RelabelObject label asked (Some s) (Some o) h = relabels order s label o asked
labels order t label asked (Some s) None h = refl
labels order t label asked (Some s) (Some o) h = elements (policy_of order) t s o h

lattice : (order : Order) (slot : ℕ) (item : Item) → Tells (lattice_reason order slot item)
lattice order slot item = labels order (row_of item.op).test _ _ _ _ (each_error item.op)

partitions : (t : PartitionTest) (uid subject object asked : ℕ) → has_errno t ≡ true → Tells (partitions_reason t uid subject object asked)
partitions (Agree errno) uid subject object asked h = unless (subject == 0 || subject == object) (why.Partitions subject object errno) (not-true _ h)
partitions Join uid subject object asked h = unless (asked == 0 || uid == 0) (why.Joins asked uid) refl
partitions Ignore uid subject object asked h = refl

slots_tell : (slot : Option Rule) (number wanted : ℕ) → Tells (slot_reason slot number wanted)
slots_tell None number wanted = refl
slots_tell (Some rule) number wanted = unless (slot_gives wanted (Some rule)) (why.Rule number wanted rule.mode) refl

verdicts : (first : Bool) (slots : Slots) (cred : Cred) (file : FileView) (wanted : ℕ) → Tells (verdict_reason first slots cred file wanted)
verdicts first slots cred file wanted = one (deciding first slots cred file wanted)
  where
    one : (number : Option ℕ) → Tells (option_and_then (λ number. slot_reason (slice_index_or slots number None) number wanted) number)
    one None = refl
    one (Some number) = slots_tell (slice_index_or slots number None) number wanted

rules : (slots : Slots) (first : Bool) (item : Item) → Tells (rules_reason slots first item)
rules slots first item = one (row_of item.op).letters
  where
    one : (letters : Option ℕ) → Tells (option_and_then (λ letters. verdict_reason first slots item.subject.cred (attributes_of item.object) letters) letters)
    one None = refl
    one (Some letters) = verdicts first slots item.subject.cred (attributes_of item.object) letters

binding : (may : Bool × ℕ → Bool) (uid : ℕ) (o : CheckOp) (port : Option (Bool × ℕ)) → Tells (binding_reason may uid o port)
binding may uid op.SocketBind None = refl
binding may uid op.SocketBind (Some port) = unless (may port) (why.Port port.0 port.1 uid) refl
binding may uid other port = refl

tells : (spec : Spec) (slot : ℕ) (item : Item) → Tells (reason spec slot item)
tells (means.Biba revocation) slot item = one (is_transfer item.op && not revocation)
  where
    one : (b : Bool) → Tells (if b then None else lattice_reason Biba slot item)
    one true = refl
    one false = lattice Biba slot item
tells means.Mls slot item = lattice Mls slot item
tells means.Lomac slot item = lattice Lomac slot item
tells means.Partition slot item = partitions (row_of item.op).partition _ _ _ _ (each_errno item.op)
tells (means.Bsdextended slots first) slot item = rules slots first item
tells means.Priority slot item = refl
tells (means.Seeotheruids primarygroup specific gid suser) slot item =
    unless (not (is_on_process item.op) || may_see primarygroup specific gid suser item.subject.cred (attributes_of item.object))
    (why.Users item.subject.cred.ruid (attributes_of item.object).uid) refl
tells (means.Portacl rules port_high suser autoport) slot item =
    binding (may_bind rules port_high suser autoport item.subject.cred) item.subject.cred.uid item.op item.port

pub reasons_deny : ReasonsDeny
reasons_deny spec slot item = tells spec slot item ∙ sym (ap (is_same Success) (by_reason spec slot item))
