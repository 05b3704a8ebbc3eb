use Rattle.std.proofs.Common.{◌≡◌, ℕ, Bool, true, false, ◌&&◌, Option, refl, ap, sym, ◌∙◌}
use Rattle.std.specs.Option.{option_eq}
use Rattle.mf_elem.specs.declared.elem.Elem.{Elem}
use Rattle.mf_elem.specs.declared.label.LabelValue.{LabelValue}
use Rattle.mf_elem.specs.declared.label.RangeLabel.{RangeLabel}
use Rattle.mf_policy.specs.Answer.{object_slot, range_label}
use Rattle.mf_objects.specs.declared.descriptors.Fd.{Fd}
use Rattle.mf_objects.specs.Live.{Entities}
use Rattle.mf_plan.specs.declared.outline.Check.{Check}
use Rattle.mf_plan.specs.Outline.{item_asking, item_of}
use Rattle.mf_flow.specs.Order.{is_same_element}
use Rattle.mf_flow.specs.Rows.{element_numbered}
use Rattle.mf_flow.specs.Transfers.{has_same_element, is_as_opened}
use Rattle.mf_flow.proofs.transfers.is_as_opened.Goals as goal

-- the two tests

subject_told : (o : Entities) (slot : ℕ) (fd : Fd) (check : Check) (n : ℕ) (now : Option Elem) (before : RangeLabel) (b : Bool) → n ≡ check.subject.0
    → now ≡ element_numbered slot o n → before ≡ range_label fd.subject → b ≡ option_eq is_same_element now before.effective → (other : Bool)
    → (b && other) ≡ (option_eq is_same_element (element_numbered slot o check.subject.0) (range_label fd.subject).effective && other)
subject_told o slot fd check n now before b number now_is before_is b_is other =
    ap (λ (x : Bool). x && other)
    (b_is ∙ ap (λ (x : Option Elem). option_eq is_same_element x before.effective) (now_is ∙ ap (element_numbered slot o) number)
    ∙ ap (λ (x : RangeLabel). option_eq is_same_element (element_numbered slot o check.subject.0) x.effective) before_is)

object_told : (slot : ℕ) (fd : Fd) (value : LabelValue) (now : Option Elem) (before : RangeLabel) (b : Bool) → now ≡ (range_label value).effective
    → before ≡ range_label fd.object → b ≡ option_eq is_same_element now before.effective → b ≡ has_same_element value fd.object
object_told slot fd value now before b now_is before_is b_is =
    b_is ∙ ap (λ (x : Option Elem). option_eq is_same_element x before.effective) now_is
    ∙ ap (λ (x : RangeLabel). option_eq is_same_element (range_label value).effective x.effective) before_is

opened_is : (o : Entities) (slot : ℕ) (fd : Fd) (check : Check)
    → (option_eq is_same_element (element_numbered slot o check.subject.0) (range_label fd.subject).effective
    && has_same_element (object_slot (item_of o check).object slot) fd.object) ≡ is_as_opened slot fd (item_of o check)
unfolding item_asking
opened_is o slot fd check = refl

where_true : (b other : Bool) → b ≡ true → other ≡ (b && other)
where_true b other is = sym (ap (λ (x : Bool). x && other) is)

where_false : (b other : Bool) → b ≡ false → b ≡ (b && other)
where_false b other is = is ∙ sym (ap (λ (x : Bool). x && other) is)

pub returns-then-is_same : goal.returns-then-is_same
returns-then-is_same c =
    let o : Entities = c.args.objects.now in
    let check : Check = c.args.check.now in
    let second = c.is_same-then-is_same.result in
    let subject = subject_told o c.args.slot c.args.fd.now check c.number.result c.element_at-subject.result c.slot_label.result c.is_same.result
    c.number.ensures c.element_at-subject.ensures c.slot_label.ensures c.is_same.ensures in
    where_true c.is_same.result second c.if-is_same.true ∙ subject second
    ∙ ap (λ (x : Bool). option_eq is_same_element (element_numbered c.args.slot o check.subject.0) (range_label c.args.fd.now.subject).effective && x)
    (object_told c.args.slot c.args.fd.now (object_slot (item_of o check).object c.args.slot) c.object_element-object.result c.slot_label-then-is_same.result second
    c.object_element-object.ensures c.slot_label-then-is_same.ensures c.is_same-then-is_same.ensures)
    ∙ opened_is o c.args.slot c.args.fd.now check

pub returns-else-is_same : goal.returns-else-is_same
returns-else-is_same c =
    let o : Entities = c.args.objects.now in
    let check : Check = c.args.check.now in
    let second : Bool = has_same_element (object_slot (item_of o check).object c.args.slot) c.args.fd.now.object in
    where_false c.is_same.result second c.if-is_same.false
    ∙ subject_told o c.args.slot c.args.fd.now check c.number.result c.element_at-subject.result c.slot_label.result c.is_same.result
    c.number.ensures c.element_at-subject.ensures c.slot_label.ensures c.is_same.ensures second
    ∙ opened_is o c.args.slot c.args.fd.now check
