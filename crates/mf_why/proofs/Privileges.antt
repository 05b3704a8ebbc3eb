-- That no policy denies a check of a privilege.
use Rattle.std.proofs.Common.{◌≡◌, ℕ, Bool, true, false, not, ◌&&◌, [], ◌∷◌, ◌++◌, Option, Some, None, refl, ap, ◌∙◌}
use Rattle.std.specs.Prelude.{if◌then◌else◌, slice_index_or}
use Rattle.std.specs.List.{flat_map}
use Rattle.std.specs.Option.{option_map_or}
use Rattle.mf_elem.specs.declared.elem.Elem.{Elem}
use Rattle.mf_elem.specs.declared.label.RangeLabel.{RangeLabel}
use Rattle.mf_elem.specs.declared.label.LabelValue.TheVariants.{Unset}
use Rattle.mf_item.specs.Item.{Item}
use Rattle.mf_item.specs.declared.operation.CheckOp.{CheckOp}
use Rattle.mf_item.specs.declared.operation.CheckOp.TheVariants as op
use Rattle.mf_policy.specs.declared.operations.Test.TheVariants as test
use Rattle.mf_policy.specs.declared.spec.Spec.{Spec}
use Rattle.mf_policy.specs.declared.spec.Spec.TheVariants as means
use Rattle.mf_policy.specs.Answer.{object_slot, part_of, range_label}
use Rattle.mf_policy.specs.Operations.{is_transfer}
use Rattle.mf_list.specs.Asked.{asks_privilege, slot_of}
use Rattle.mf_answers.specs.declared.order.Order.{Order}
use Rattle.mf_answers.specs.declared.order.Order.TheVariants.{Biba, Mls, Lomac}
use Rattle.mf_answers.specs.declared.reasons.Reason.{Reason}
use Rattle.mf_answers.specs.Orders.{policy_of}
use Rattle.mf_answers.specs.Reasons.{labels_reason, lattice_reason, reason}
use Rattle.mf_why.specs.Deniers.{denier, mark_of, other_reasons}
use Rattle.mf_why.specs.Laws.{PrivilegesHaveNoDenier}

is_privilege : (k : CheckOp) → asks_privilege k ≡ true → k ≡ op.Priv
is_privilege op.Priv is = refl
is_privilege other is = cc

passes : (order : Order) (label asked : RangeLabel) (subject object : Option Elem) → labels_reason order test.Pass label asked subject object ≡ None
passes order label asked None object = refl
passes order label asked (Some subject) None = refl
passes order label asked (Some subject) (Some object) = refl

lattice : (order : Order) (slot : ℕ) (item : Item) → item.op ≡ op.Priv → lattice_reason order slot item ≡ None
lattice order slot item is =
    let subject : RangeLabel = range_label (slice_index_or item.subject.label slot Unset) in
    rw is (passes order subject (part_of (policy_of order) item.request) subject.effective (range_label (object_slot item.object slot)).effective)

none : (spec : Spec) (slot : ℕ) (item : Item) → item.op ≡ op.Priv → reason spec slot item ≡ None
none (means.Biba revocation) slot item is = one (is_transfer item.op && not revocation)
  where
    one : (b : Bool) → (if b then None else lattice_reason Biba slot item) ≡ None
    one true = refl
    one false = lattice Biba slot item is
none means.Mls slot item is = lattice Mls slot item is
none means.Lomac slot item is = lattice Lomac slot item is
none means.Partition slot item is = rw is refl
none (means.Bsdextended rules first) slot item is = rw is refl
none means.Priority slot item is = refl
none (means.Seeotheruids primarygroup specific gid suser) slot item is = rw is refl
none (means.Portacl rules port_high suser autoport) slot item is = rw is refl

pub privileges_have_no_denier : PrivilegesHaveNoDenier
privileges_have_no_denier [] by item is = refl
privileges_have_no_denier (e ∷ es) by item is =
    ap (λ (o : Option Reason). option_map_or (λ why. (record { «module» = e.0.module; mark = mark_of by e.0.module; reason = why; others = other_reasons e.1 item why }) ∷ []) o []
    ++ flat_map (denier by item) es) (none e.1 (slot_of e.0) item (is_privilege item.op is))
    ∙ privileges_have_no_denier es by item is
