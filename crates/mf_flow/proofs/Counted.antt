-- The checks that count move only what is allowed: what the policy tests, by its own answer; what `read` and `write` transfer, by that to the opening
-- right before; and what goes through a descriptor, by what was allowed when the file was opened.
use Rattle.std.proofs.Common.{◌≡◌, ℕ, Bool, true, false, cond, ◌||◌, List, [], ◌∷◌, map, Option, Some, None, option_map, slice_index_or, refl, ap, sym, ◌∙◌, subst, ◌⊎◌, inl, inr}
use Rattle.std.specs.Option.{option_eq, option_map_or}
use Rattle.std.specs.Prelude.{filter, fold, IfSome}
use Rattle.std.specs.List.{AllByRecursion}
use Rattle.std.proofs.lemmas.Bool.{and_parts}
use Rattle.mf_errno.specs.declared.module.Module.TheVariants.{Biba}
use Rattle.mf_elem.specs.declared.elem.Elem.{Elem}
use Rattle.mf_elem.specs.declared.label.LabelValue.TheVariants.{Unset}
use Rattle.mf_elem.specs.declared.label.Request.{Request}
use Rattle.mf_item.specs.Item.{Item}
use Rattle.mf_item.specs.declared.operation.CheckOp.{CheckOp}
use Rattle.mf_item.specs.declared.operation.CheckOp.TheVariants as op
use Rattle.mf_item.specs.declared.view.ObjectView.{ObjectView}
use Rattle.mf_policy.specs.declared.operations.Movement.{Movement}
use Rattle.mf_policy.specs.declared.registration.Registration.{Registration}
use Rattle.mf_policy.specs.declared.spec.Spec.{Spec}
use Rattle.mf_policy.specs.Answer.{object_slot, range_label, tests_transfers}
use Rattle.mf_policy.specs.Operations.{is_transfer, row_of}
use Rattle.mf_policy.specs.Registration.{Entry}
use Rattle.mf_list.specs.Asked.{slot_of}
use Rattle.mf_list.specs.Once.{IsListedOnce}
use Rattle.mf_objects.specs.declared.descriptors.Fd.{Fd}
use Rattle.mf_objects.specs.declared.id.Id.{Id}
use Rattle.mf_objects.specs.Live.{Entities}
use Rattle.mf_calls.specs.declared.script.Call.{Call}
use Rattle.mf_plan.specs.declared.outline.Check.{Check}
use Rattle.mf_plan.specs.declared.reply.Reply.{Reply}
use Rattle.mf_plan.specs.declared.state.State.{State}
use Rattle.mf_plan.specs.Found.{descriptor_at}
use Rattle.mf_plan.specs.Lowering.{lowering}
use Rattle.mf_plan.specs.Outline.{item_asking}
use Rattle.mf_plan.specs.Plan.{row_for}
use Rattle.mf_plan.specs.Rows.{about_of}
use Rattle.mf_plan.proofs.Transfers.{AreThrough, opened_before, operation_at_opening, through_descriptor}
use Rattle.mf_plan.proofs.Transfers.AreThrough.{asks_none, asks_read, asks_write}
use Rattle.mf_perform.specs.Passed.{passed}
use Rattle.mf_perform.proofs.Granted.{IsGranted}
use Rattle.mf_lifetimes.proofs.Files.{all_from}
use Rattle.mf_lifetimes.proofs.Marked.{IsHeld}
use Rattle.mf_flow.specs.Order.{is_same_element}
use Rattle.mf_flow.specs.Sources.{Sets, element_by}
use Rattle.mf_flow.specs.Transfers.{counts, has_same_element, is_as_opened, tests_transfers_in}
use Rattle.mf_flow.proofs.Across.{element_at, moved_by_all}
use Rattle.mf_flow.proofs.Answering.{IsOf, IsTested, biba_keeps, granted_allowed, untested_biba}
use Rattle.mf_flow.proofs.Bounds.{Allowed, AllowedBy, Has, allowed_itself}
use Rattle.mf_flow.proofs.Granted.{all_passed}
use Rattle.mf_flow.proofs.Moves.{AllFitNow, AllHave, AllSeen, IsAllowed, IsReady, element_then, items_now, object_element}
use Rattle.mf_flow.proofs.Opened.{AllOpened, IsAsItIs, IsOpened, as_it_is, descriptor_has}
use Rattle.mf_flow.proofs.Orders.{FlowPolicy, IsFlowPolicy}
use Rattle.mf_flow.proofs.Seen.{fold_same, remaining_same, then_same}
use Rattle.mf_flow.proofs.Shown.{AreBehind, Opens, behind_shown, lowering_shown, passed_behind, shown_items}
use Rattle.mf_flow.proofs.Slots.{its_own}

-- Some checks of a list

pub all_pass : (test : Item → Bool) (items : List Item) → ((item : Item) → test item ≡ true) → filter test items ≡ items
all_pass test [] passes = refl
all_pass test (item ∷ items) passes = rw (passes item) (ap (λ (rest : List Item). item ∷ rest) (all_pass test items passes))

some_have : (P Q : Item → Type 0) (test : Item → Bool) (items : List Item) → ((item : Item) → P item → test item ≡ true → Q item)
    → AllByRecursion P items
    → AllByRecursion Q (filter test items)
some_have P Q test [] gives all = tt
some_have P Q test (item ∷ items) gives all = one (test item) refl (some_have P Q test items gives all.1)
  where
    one : (b : Bool) → test item ≡ b → AllByRecursion Q (filter test items)
        → AllByRecursion Q (cond b (item ∷ filter test items) (filter test items))
    one true passes rest = (gives item all.0 passes, rest)
    one false fails rest = rest

-- What those that count make of the sources

module _ (p : FlowPolicy) (flows : IsFlowPolicy p) (r : Registration) (o : Entities) (me : Id) where
  abbrev Leaves : Type 0
  Leaves = (subject object : Elem) → p.remains subject object ≡ subject

  some_seen : Leaves → (test : Item → Bool) (now : Option Elem) (items : List Item) → AllSeen p r o me now items
      → AllSeen p r o me now (filter test items)
  some_seen leaves test now [] seen = tt
  some_seen leaves test now (item ∷ items) seen =
      one (test item) (some_seen leaves test now items (subst (λ (e : Option Elem). AllSeen p r o me e items) (then_same p r leaves now item) seen.1))
    where
      one : (b : Bool) → AllSeen p r o me now (filter test items)
          → AllSeen p r o me now (cond b (item ∷ filter test items) (filter test items))
      one true rest = (seen.0, subst (λ (e : Option Elem). AllSeen p r o me e (filter test items)) (sym (then_same p r leaves now item)) rest)
      one false rest = rest

  -- all checks count, or none lowers anybody
  pub counted_now : (test : Item → Bool) → ((item : Item) → test item ≡ true) ⊎ Leaves
      → (now : Option Elem) (sets : Sets) (items : List Item)
      → AllByRecursion (IsAllowed p r) (filter test items) → AllSeen p r o me now items → AllHave p r o → IsReady p r o me now
      → AllFitNow p r o me now sets
      → AllFitNow p r o me (fold (element_then p r) now items) (moved_by_all r o sets (filter test items))
  counted_now test (inl all) now sets items allowed seen have ready fit =
      let same : filter test items ≡ items = all_pass test items all in
      subst (λ (some : List Item). AllFitNow p r o me (fold (element_then p r) now items) (moved_by_all r o sets some)) (sym same)
      (items_now p flows r o me now sets items (subst (AllByRecursion (IsAllowed p r)) same allowed) seen have ready fit)
  counted_now test (inr leaves) now sets items allowed seen have ready fit =
      subst (λ (e : Option Elem). AllFitNow p r o me e (moved_by_all r o sets (filter test items)))
      (fold_same p r leaves now (filter test items) ∙ sym (fold_same p r leaves now items))
      (items_now p flows r o me now sets (filter test items) allowed (some_seen leaves test now items seen) have ready fit)

-- A transfer right behind its opening

opens_so : (k : CheckOp) → is_transfer k ≡ true
    → (is_transfer (operation_at_opening k) ≡ false) × ((row_of (operation_at_opening k)).movement ≡ (row_of k).movement)
opens_so op.VnodeRead transfer = (refl, refl)
opens_so op.VnodeWrite transfer = (refl, refl)
opens_so other transfer = cc

module _ (p : FlowPolicy) (r : Registration) (o : Entities) where
  -- it transfers nothing, and is allowed
  abbrev IsPlain : Item → Type 0
  IsPlain item = is_transfer item.op ≡ false → IsAllowed p r item

  by_opening : (opening item : Item) → Opens opening item → is_transfer item.op ≡ true → IsAsItIs r o opening → IsAsItIs r o item
      → IsPlain opening → IsAllowed p r item
  by_opening opening item opens transfer told told' allowed own theirs =
      subst (λ (m : Movement). AllowedBy p m (element_by r item.subject.label) (object_element r item))
      (ap (λ (k : CheckOp). (row_of k).movement) opens.op ∙ (opens_so item.op transfer).1)
      (subst (λ (e : Option Elem). AllowedBy p (row_of opening.op).movement (element_by r item.subject.label) e) object
      (subst (λ (e : Option Elem). AllowedBy p (row_of opening.op).movement e (object_element r opening)) subject
      (allowed (ap is_transfer opens.op ∙ (opens_so item.op transfer).0) (subst (Has p) (sym subject) own) (subst (Has p) (sym object) theirs))))
    where
      subject : element_by r opening.subject.label ≡ element_by r item.subject.label
      subject = told ∙ ap (λ (n : ℕ). element_at r o (record { 0 = n })) opens.subject ∙ sym told'

      object : object_element r opening ≡ object_element r item
      object = ap (λ (x : Option ObjectView). (range_label (object_slot x (slot_of r))).effective) opens.object

  pub behind_allowed : (last : Option Item) (items : List Item) → IfSome last (λ item. IsAsItIs r o item × IsPlain item)
      → AreBehind last items
      → AllByRecursion (IsAsItIs r o) items → AllByRecursion IsPlain items → AllByRecursion (IsAllowed p r) items
  behind_allowed last [] first behind told plain = tt
  behind_allowed last (item ∷ items) first behind told plain =
      (one (is_transfer item.op) refl, behind_allowed (Some item) items (told.0, plain.0) behind.1 told.1 plain.1)
    where
      one : (b : Bool) → is_transfer item.op ≡ b → IsAllowed p r item
      one false none = plain.0 none
      one true transfer =
          let opening = behind.0 transfer in
          let so = subst (λ (x : Option Item). IfSome x (λ item. IsAsItIs r o item × IsPlain item)) opening.1.0 first in
          by_opening opening.0 item opening.1.1 transfer so.0 told.0 so.1

-- A transfer through a descriptor

-- for which it is open
abbrev IsThrough : Fd → CheckOp → Type 0
IsThrough fd k = ((k ≡ op.VnodeRead) × (fd.read ≡ true)) ⊎ ((k ≡ op.VnodeWrite) × (fd.write ≡ true))

through_checks : (me : Id) (fd : Fd) (checks : List Check) → AreThrough me fd checks
    → AllByRecursion (λ check. IsThrough fd check.op) checks
through_checks me fd _ asks_none = tt
through_checks me fd _ (asks_read is) = (inl (refl, is), tt)
through_checks me fd _ (asks_write is) = (inr (refl, is), tt)

module _ (p : FlowPolicy) (flows : IsFlowPolicy p) (r : Registration)
    (leaves : (subject object : Elem) → p.remains subject object ≡ subject) (fd : Fd) (opened : IsOpened p fd) where
  -- what was allowed is, between the same elements
  still_allowed : (to to' from from' : Option Elem) → option_eq is_same_element to to' ≡ true → option_eq is_same_element from from' ≡ true
      → Allowed p to' from' → Allowed p to from
  still_allowed None to' from from' same same' allowed = tt
  still_allowed (Some to) to' None from' same same' allowed = tt
  still_allowed (Some to) None (Some from) from' same same' allowed = cc
  still_allowed (Some to) (Some to') (Some from) None same same' allowed = cc
  still_allowed (Some to) (Some to') (Some from) (Some from') same same' allowed = flows.same from from' to to' same' same allowed

  pub as_opened_allowed : (item : Item) → IsThrough fd item.op → is_as_opened (slot_of r) fd item ≡ true → IsAllowed p r item
  as_opened_allowed item through as_opened own theirs = one through
    where
      same : (has_same_element (slice_index_or item.subject.label (slot_of r) Unset) fd.subject ≡ true) × (has_same_element (object_slot item.object (slot_of r)) fd.object ≡ true)
      same =
          and_parts (has_same_element (slice_index_or item.subject.label (slot_of r) Unset) fd.subject)
          (has_same_element (object_slot item.object (slot_of r)) fd.object) as_opened

      one : IsThrough fd item.op → AllowedBy p (row_of item.op).movement (element_by r item.subject.label) (object_element r item)
      one (inl read) =
          subst (λ (k : CheckOp). AllowedBy p (row_of k).movement (element_by r item.subject.label) (object_element r item)) (sym read.0)
          (subst (λ (e : Option Elem). Allowed p e (element_by r item.subject.label) × Allowed p e (object_element r item))
          (sym (remaining_same p r leaves (element_by r item.subject.label) (object_element r item))) (
            allowed_itself p flows (element_by r item.subject.label),
            still_allowed (element_by r item.subject.label) (range_label fd.subject).effective (object_element r item)
                (range_label fd.object).effective same.0 same.1 (opened.reads read.1),
          ))
      one (inr write) =
          subst (λ (k : CheckOp). AllowedBy p (row_of k).movement (element_by r item.subject.label) (object_element r item)) (sym write.0)
          (still_allowed (object_element r item) (range_label fd.object).effective (element_by r item.subject.label) (range_label fd.subject).effective same.1 same.0 (opened.writes write.1))

-- The checks of a call that count

module _ (p : FlowPolicy) (r : Registration) (spec : Spec) (s : State) (of : IsOf p r) (held : IsHeld (slot_of r) (r, spec) s)
    (once : IsListedOnce s.specs) where
  tests_are : tests_transfers_in s.specs r.module ≡ tests_transfers spec
  tests_are =
      ap (λ (x : Option Entry). option_map_or tests_transfers (option_map (λ (entry : Entry). entry.1) x) true) (its_own r spec s held once)

  -- without its tests it is mac_biba's
  untested : tests_transfers spec ≡ false → r.module ≡ Biba
  untested passes = sym held.pinned.module_is ∙ untested_biba spec passes

  tested_counts : (fd : Fd) → tests_transfers spec ≡ true → (item : Item) → counts r s.specs (Some fd) item ≡ true
  tested_counts fd tests item = ap (λ (b : Bool). b || is_as_opened (slot_of r) fd item) (tests_are ∙ tests)

  untested_counts : (fd : Fd) → tests_transfers spec ≡ false → (item : Item) → counts r s.specs (Some fd) item ≡ true
      → is_as_opened (slot_of r) fd item ≡ true
  untested_counts fd passes item counted = sym (ap (λ (b : Bool). b || is_as_opened (slot_of r) fd item) (tests_are ∙ passes)) ∙ counted

  -- each counts, or none lowers anybody
  pub all_count : (fd : Option Fd)
      → ((item : Item) → counts r s.specs fd item ≡ true) ⊎ ((subject object : Elem) → p.remains subject object ≡ subject)
  all_count None = inl (λ item. refl)
  all_count (Some fd) = one (tests_transfers spec) refl
    where
      one : (b : Bool) → tests_transfers spec ≡ b
          → ((item : Item) → counts r s.specs (Some fd) item ≡ true) ⊎ ((subject object : Elem) → p.remains subject object ≡ subject)
      one true tests = inl (tested_counts fd tests)
      one false passes = inr (biba_keeps p r.module of.remains (untested passes))

  module _ (task : List ℕ) (c : Call) (me : Id) (asked : Option Request) (said : Reply) where
    abbrev checks : List Check
    checks = (row_for s task c me).checks

    abbrev items : List Item
    items = passed said (lowering s me (map (item_asking s.objects asked) checks))

    abbrev descriptor : Option Fd
    descriptor = descriptor_at s me (about_of s task me c).place

    module _ (granted : AllByRecursion (IsGranted s.specs) items) (seen : AllSeen p r s.objects me (element_at r s.objects me) items)
        (opened : r.module ≡ Biba → AllOpened p s.objects) where
      by_tests : AllByRecursion (λ item. IsTested spec item → IsAllowed p r item) items
      by_tests = granted_allowed p r spec s.specs s.numbers items of held.pinned granted

      module _ (passes : tests_transfers spec ≡ false) where
        leaves : (subject object : Elem) → p.remains subject object ≡ subject
        leaves = biba_keeps p r.module of.remains (untested passes)

        through_none : descriptor ≡ None → AllByRecursion (IsAllowed p r) items
        through_none none =
            behind_allowed p r s.objects None items tt
            (passed_behind said None (lowering s me (map (item_asking s.objects asked) checks))
            (behind_shown s.objects None None checks (lowering s me (map (item_asking s.objects asked) checks)) tt (lowering_shown s me asked checks) (opened_before s task me c none)))
            (as_it_is p r s.objects me leaves (element_at r s.objects me) refl items seen)
            (all_from (λ item. IsTested spec item → IsAllowed p r item) (IsPlain p r s.objects) items (λ item allowed none. allowed (λ transfer. cc)) by_tests)

        through : (fd : Fd) → descriptor ≡ Some fd → AllByRecursion (λ (item : Item). IsThrough fd item.op) items
        through fd is =
            all_passed (λ (item : Item). IsThrough fd item.op) said (lowering s me (map (item_asking s.objects asked) checks))
            (shown_items (λ (check : Check). IsThrough fd check.op) (λ (item : Item). IsThrough fd item.op) s.objects checks (lowering s me (map (item_asking s.objects asked) checks))
            (λ check item shown so. subst (IsThrough fd) (sym shown.op) so) (lowering_shown s me asked checks)
            (through_checks me fd checks (through_descriptor s task me c fd is)))

        untested_allowed : (found : Option Fd) → descriptor ≡ found → AllByRecursion (IsAllowed p r) (filter (counts r s.specs found) items)
        untested_allowed None none =
            subst (AllByRecursion (IsAllowed p r)) (sym (all_pass (counts r s.specs None) items (λ item. refl))) (through_none none)
        untested_allowed (Some fd) is =
            some_have (λ (item : Item). IsThrough fd item.op) (IsAllowed p r) (counts r s.specs (Some fd)) items
            (λ item so counted.
            as_opened_allowed p of.flows r leaves fd
            (descriptor_has (IsOpened p) s me (about_of s task me c).place fd (opened (untested passes) me) is) item so
            (untested_counts fd passes item counted))
            (through fd is)

      pub counted_allowed : AllByRecursion (IsAllowed p r) (filter (counts r s.specs descriptor) items)
      counted_allowed = one (tests_transfers spec) refl
        where
          one : (b : Bool) → tests_transfers spec ≡ b → AllByRecursion (IsAllowed p r) (filter (counts r s.specs descriptor) items)
          one true tests =
              some_have (λ item. IsTested spec item → IsAllowed p r item) (IsAllowed p r) (counts r s.specs descriptor) items
              (λ item allowed counted. allowed (λ transfer. tests)) by_tests
          one false passes = untested_allowed passes descriptor refl
