-- Sets whose elements stand in a policy's order to a party's, and what movements that the policy allows make of them.
use Rattle.std.proofs.Common.{◌≡◌, Bool, true, false, cond, List, [], ◌∷◌, Option, Some, None, refl, sym, subst}
use Rattle.std.specs.Option.{option_map_or}
use Rattle.std.specs.declared.cmp.Ordering.{Ordering}
use Rattle.std.specs.declared.cmp.Ordering.TheVariants.{Less, Equal, Greater}
use Rattle.std.specs.Ordering.{match_ordering}
use Rattle.std.specs.List.{AllByRecursion}
use Rattle.std.specs.Set.{merge_step}
use Rattle.mf_errno.specs.declared.errno.Errno.{Errno}
use Rattle.mf_errno.specs.declared.errno.Errno.TheVariants.{Success, Esrch, Eacces}
use Rattle.mf_elem.specs.declared.elem.Elem.{Elem}
use Rattle.mf_elem.specs.declared.label.RangeLabel.{RangeLabel}
use Rattle.mf_elem.specs.Elem.{same_level}
use Rattle.mf_elem.specs.Label.{is_equal}
use Rattle.mf_item.specs.declared.operation.CheckOp.{CheckOp}
use Rattle.mf_item.specs.declared.operation.CheckOp.TheVariants as op
use Rattle.mf_policy.specs.declared.operations.Movement.{Movement}
use Rattle.mf_policy.specs.Operations.{row_of}
use Rattle.mf_policy.specs.declared.operations.Movement.TheVariants.{Still, ToSubject, ToObject, BothWays}
use Rattle.mf_policy.specs.declared.operations.Test.TheVariants.{Observe, Modify, ObserveAndModify, SameLevel}
use Rattle.mf_policy.specs.Answer.{errno_unless, labels_answer}
use Rattle.mf_flow.specs.Order.{elem_cmp, union}
use Rattle.mf_flow.specs.Sources.{held_by, own_source}
use Rattle.mf_flow.proofs.Orders.{FlowPolicy, IsFlowPolicy}

-- Sets

all_with : (P : Elem → Type 0) (x : Elem) (xs : List Elem) (on : List Elem → List Elem) → P x → AllByRecursion P xs
    → ((ys : List Elem) → AllByRecursion P ys → AllByRecursion P (on ys)) → (ys : List Elem) → AllByRecursion P ys → AllByRecursion P (merge_step elem_cmp true x xs on ys)
all_with P x xs on here all rest [] others = (here, all)
all_with P x xs on here all rest (y ∷ ys) others = one (elem_cmp x y) (all_with P x xs on here all rest ys others.1)
  where
    one : (o : Ordering) → AllByRecursion P (merge_step elem_cmp true x xs on ys)
        → AllByRecursion P (match_ordering o (x ∷ on (y ∷ ys)) (x ∷ on ys) (y ∷ merge_step elem_cmp true x xs on ys))
    one Less again = (here, rest (y ∷ ys) others)
    one Equal again = (here, rest ys others.1)
    one Greater again = (others.0, again)

pub all_union : (P : Elem → Type 0) (set other : List Elem) → AllByRecursion P set → AllByRecursion P other → AllByRecursion P (union set other)
all_union P [] other all others = others
all_union P (x ∷ set) other all others = all_with P x set (union set) all.0 all.1 (λ ys. all_union P set ys all.1) other others

all_from : (P Q : Elem → Type 0) (xs : List Elem) → ((x : Elem) → P x → Q x) → AllByRecursion P xs → AllByRecursion Q xs
all_from P Q [] gives all = tt
all_from P Q (x ∷ xs) gives all = (gives x all.0, all_from P Q xs gives all.1)

-- the source isn't equal, and stands in the policy's order to the element
abbrev pub IsFit : FlowPolicy → Elem → Elem → Type 0
IsFit p own source = (is_equal source ≡ false) × (p.order source own ≡ true)

-- a party labelled equal has no sources, and those of another are fit for it
abbrev pub FitBy : FlowPolicy → Elem → Bool → List Elem → Type 0
FitBy p own true set = set ≡ []
FitBy p own false set = AllByRecursion (IsFit p own) set

-- the sources of a party of this element; without one it has none
abbrev pub Fit : FlowPolicy → Option Elem → List Elem → Type 0
Fit p None set = set ≡ []
Fit p (Some own) set = FitBy p own (is_equal own) set

-- an element alone is fit
pub alone_fit : (p : FlowPolicy) → IsFlowPolicy p → (element : Option Elem) → Fit p element (own_source element)
alone_fit p flows None = refl
alone_fit p flows (Some own) = one (is_equal own) refl
  where
    one : (b : Bool) → is_equal own ≡ b → FitBy p own b (cond b [] (own ∷ []))
    one true equal = refl
    one false plain = ((plain, flows.itself own), tt)

-- whether a party of this element has no sources
abbrev pub is_exempt : Option Elem → Bool
is_exempt element = option_map_or is_equal element true

-- the policy's labels have the element, where there is one
abbrev pub Has : FlowPolicy → Option Elem → Type 0
Has p None = Unit {0}
Has p (Some element) = p.has element ≡ true

-- Allowed movements

-- what is of the one element may come to a party of the other
abbrev pub Allowed : FlowPolicy → Option Elem → Option Elem → Type 0
Allowed p None from = Unit {0}
Allowed p (Some to) None = Unit {0}
Allowed p (Some to) (Some from) = p.order from to ≡ true

pub allowed_itself : (p : FlowPolicy) → IsFlowPolicy p → (element : Option Elem) → Allowed p element element
allowed_itself p flows None = tt
allowed_itself p flows (Some own) = flows.itself own

-- what remains of a subject's element after it has observed the object
abbrev pub remaining : FlowPolicy → Option Elem → Option Elem → Option Elem
remaining p (Some subject) (Some object) = Some (p.remains subject object)
remaining p subject object = subject

pub remaining_exempt : (p : FlowPolicy) → IsFlowPolicy p → (subject object : Option Elem) → is_exempt (remaining p subject object) ≡ is_exempt subject
remaining_exempt p flows None object = refl
remaining_exempt p flows (Some subject) None = refl
remaining_exempt p flows (Some subject) (Some object) = flows.equal subject object

pub remaining_has : (p : FlowPolicy) → IsFlowPolicy p → (subject object : Option Elem) → Has p subject → Has p object → Has p (remaining p subject object)
remaining_has p flows None object own theirs = tt
remaining_has p flows (Some subject) None own theirs = own
remaining_has p flows (Some subject) (Some object) own theirs = flows.still subject object own theirs

pub nothing_observed : (p : FlowPolicy) (subject : Option Elem) → remaining p subject None ≡ subject
nothing_observed p None = refl
nothing_observed p (Some subject) = refl

-- what is of the subject and of the object may come to what remains of the subject
abbrev pub Observed : FlowPolicy → Option Elem → Option Elem → Type 0
Observed p subject object = Allowed p (remaining p subject object) subject × Allowed p (remaining p subject object) object

abbrev pub AllowedBy : FlowPolicy → Movement → Option Elem → Option Elem → Type 0
AllowedBy p Still subject object = Unit {0}
AllowedBy p ToSubject subject object = Observed p subject object
AllowedBy p ToObject subject object = Allowed p object subject
AllowedBy p BothWays subject object = Observed p subject object × Allowed p object subject

-- What comes to a party is fit for the element that it then has, where that is equal exactly if its first one is, and where what it had and what
-- it gets may come to that.
pub received_fit : (p : FlowPolicy) → IsFlowPolicy p → (to from now first : Option Elem) (set given : List Elem) → is_exempt first ≡ is_exempt now
    → Allowed p now to → Allowed p now from → Fit p to set → Fit p from given → Fit p now (held_by first (union set given))
received_fit p flows to from None None set given same own theirs fit fit' = refl
received_fit p flows to from None (Some first) set given same own theirs fit fit' = rw same refl
received_fit p flows to from (Some now) None set given same own theirs fit fit' = subst (λ (b : Bool). FitBy p now b []) same refl
received_fit p flows to from (Some now) (Some first) set given same own theirs fit fit' = one (is_equal now) same
  where
    -- the sources of the one are fit for the other
    passed : (from : Option Elem) (given : List Elem) → Allowed p (Some now) from → Fit p from given → AllByRecursion (IsFit p now) given
    passed None given allowed none = subst (AllByRecursion (IsFit p now)) (sym none) tt
    passed (Some giver) given allowed fit = two (is_equal giver) refl fit
      where
        two : (b : Bool) → is_equal giver ≡ b → FitBy p giver b given → AllByRecursion (IsFit p now) given
        two true equal none = subst (AllByRecursion (IsFit p now)) (sym none) tt
        two false plain all = all_from (IsFit p giver) (IsFit p now) given (λ x fit. (fit.0, flows.along x giver now plain fit.1 allowed)) all

    one : (b : Bool) → is_equal first ≡ b → FitBy p now b (cond (is_equal first) [] (union set given))
    one true equal = rw equal refl
    one false plain = rw plain (all_union (IsFit p now) set given (passed to set own fit) (passed from given theirs fit'))

-- Answers

passes : (b : Bool) (errno : Errno) → (errno ≡ Success → ⊥) → errno_unless b errno ≡ Success → b ≡ true
passes true errno fails success = refl
passes false errno fails success = absurd (fails success)

both_pass : (a b : Bool) → cond a (errno_unless b Eacces) Esrch ≡ Success → (a ≡ true) × (b ≡ true)
both_pass true true success = (refl, refl)
both_pass true false success = cc
both_pass false b success = cc

module _ (p : FlowPolicy) (flows : IsFlowPolicy p) (label asked : RangeLabel) (subject object : Option Elem) (own : Has p subject) (theirs : Has p object) where
  observes : (errno : Errno) → (errno ≡ Success → ⊥) → labels_answer p.lattice (Observe errno) label asked subject object ≡ Success → Observed p subject object
  observes errno fails success = one subject object own theirs success
    where
      one : (subject object : Option Elem) → Has p subject → Has p object → labels_answer p.lattice (Observe errno) label asked subject object ≡ Success
          → Observed p subject object
      one None object own theirs success = (tt, tt)
      one (Some subject) None own theirs success = (flows.itself subject, tt)
      one (Some subject) (Some object) own theirs success = flows.looks subject object own theirs (passes (p.lattice.may_observe subject object) errno fails success)

  modifies : labels_answer p.lattice Modify label asked subject object ≡ Success → Allowed p object subject
  modifies success = one subject object success
    where
      one : (subject object : Option Elem) → labels_answer p.lattice Modify label asked subject object ≡ Success → Allowed p object subject
      one subject None success = tt
      one None (Some object) success = tt
      one (Some subject) (Some object) success = flows.writes subject object (passes (p.lattice.may_modify subject object) Eacces (λ same. cc) success)

  levels : labels_answer p.lattice SameLevel label asked subject object ≡ Success → Allowed p object subject
  levels success = one subject object success
    where
      one : (subject object : Option Elem) → labels_answer p.lattice SameLevel label asked subject object ≡ Success → Allowed p object subject
      one subject None success = tt
      one None (Some object) success = tt
      one (Some subject) (Some object) success = flows.level subject object (passes (same_level subject object) Eacces (λ same. cc) success)

  does_both : labels_answer p.lattice ObserveAndModify label asked subject object ≡ Success → Observed p subject object × Allowed p object subject
  does_both success = one subject object own theirs success
    where
      one : (subject object : Option Elem) → Has p subject → Has p object → labels_answer p.lattice ObserveAndModify label asked subject object ≡ Success
          → Observed p subject object × Allowed p object subject
      one None None own theirs success = ((tt, tt), tt)
      one None (Some object) own theirs success = ((tt, tt), tt)
      one (Some subject) None own theirs success = ((flows.itself subject, tt), tt)
      one (Some subject) (Some object) own theirs success =
          let both = both_pass (p.lattice.may_observe subject object) (p.lattice.may_modify subject object) success in
          (flows.looks subject object own theirs both.0, flows.writes subject object both.1)

  -- an operation that the policy passes moves information only as it may
  pub allows : (operation : CheckOp) → labels_answer p.lattice (row_of operation).test label asked subject object ≡ Success
      → AllowedBy p (row_of operation).movement subject object
  allows op.VnodeLookup success = observes Eacces (λ same. cc) success
  allows op.VnodeOpenRead success = observes Eacces (λ same. cc) success
  allows op.VnodeOpenWrite success = modifies success
  allows op.VnodeRead success = observes Eacces (λ same. cc) success
  allows op.VnodeWrite success = modifies success
  allows op.VnodeExec success = observes Eacces (λ same. cc) success
  allows op.VnodeStat success = observes Eacces (λ same. cc) success
  allows op.VnodeReaddir success = observes Eacces (λ same. cc) success
  allows op.VnodeCreate success = modifies success
  allows op.VnodeUnlinkDir success = modifies success
  allows op.VnodeUnlink success = modifies success
  allows op.VnodeSetmode success = modifies success
  allows op.VnodeRelabel success = tt
  allows op.PipeRead success = observes Eacces (λ same. cc) success
  allows op.PipeWrite success = modifies success
  allows op.PipeStat success = observes Eacces (λ same. cc) success
  allows op.PipeRelabel success = tt
  allows op.SocketSend success = modifies success
  allows op.SocketDeliver success = levels success
  allows op.SocketReceive success = observes Eacces (λ same. cc) success
  allows op.SocketVisible success = tt
  allows op.SocketRelabel success = tt
  allows op.SocketBind success = tt
  allows op.CredRelabel success = tt
  allows op.ProcVisible success = tt
  allows op.ProcSignal success = (does_both success).1
  allows op.ProcDebug success = does_both success
  allows op.ProcSched success = (does_both success).1
  allows op.KldLoad success = tt
  allows op.KldUnload success = tt
  allows op.Priv success = tt
