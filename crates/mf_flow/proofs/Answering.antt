-- A listed policy that answers as a policy with an order does: what of the checks that passed it allows itself, and what they see.
use Rattle.std.proofs.Common.{◌≡◌, ℕ, ◌<◌, true, false, List, [], ◌∷◌, length, Option, Some, None, slice_index_or, refl, ap, sym, ◌∙◌, subst}
use Rattle.std.specs.List.{AllByRecursion}
use Rattle.mf_errno.specs.declared.errno.Errno.TheVariants.{Success}
use Rattle.mf_errno.specs.declared.module.Module.{Module}
use Rattle.mf_errno.specs.declared.module.Module.TheVariants.{Biba}
use Rattle.mf_elem.specs.declared.label.TheConstants.{SLOTS}
use Rattle.mf_elem.specs.declared.label.LabelValue.{LabelValue}
use Rattle.mf_elem.specs.declared.label.LabelValue.TheVariants.{Unset}
use Rattle.mf_item.specs.Item.{Item}
use Rattle.mf_item.specs.declared.view.Kind.{Kind}
use Rattle.mf_policy.specs.declared.registration.Registration.{Registration}
use Rattle.mf_policy.specs.declared.spec.Spec.{Spec}
use Rattle.mf_policy.specs.declared.spec.Spec.TheVariants as means
use Rattle.mf_policy.specs.Answer.{answer, lattice_answer, part_of, range_label, tests_transfers}
use Rattle.mf_policy.specs.Modules.{facts_of, module_of}
use Rattle.mf_policy.specs.Operations.{is_transfer}
use Rattle.mf_policy.specs.Registration.{Entry, holds_slot}
use Rattle.mf_list.specs.Asked.{slot_of}
use Rattle.mf_objects.proofs.Entities.{label_of as values_of}
use Rattle.mf_objects.specs.declared.id.Id.{Id}
use Rattle.mf_objects.specs.Live.{LiveEntity, kind_of, label_at, live_at, value_in}
use Rattle.mf_plan.specs.declared.state.State.{State}
use Rattle.mf_perform.proofs.Granted.{IsGranted, granted_by}
use Rattle.mf_lifetimes.proofs.Listing.{IsPinned}
use Rattle.mf_lifetimes.proofs.Marked.{IsHeld}
use Rattle.mf_lifetimes.specs.Laws.{holds_valid}
use Rattle.mf_flow.specs.Sources.{element_by}
use Rattle.mf_flow.proofs.Bounds.{Has, allows}
use Rattle.mf_flow.proofs.Elements.{HasElement, all_labelled}
use Rattle.mf_flow.proofs.Moves.{AllHave, IsAllowed, object_element}
use Rattle.mf_flow.proofs.Orders.{FlowPolicy, IsFlowPolicy}
use Rattle.mf_flow.proofs.Seen.{within_label}
use Rattle.mf_flow.proofs.Slots.{Remains}
use Rattle.mf_flow.proofs.Slots.Remains.{keeps, lowers}

-- what the policy of a spec tests: all but transfers, and these where it tests them
abbrev pub IsTested : Spec → Item → Type 0
IsTested spec item = is_transfer item.op ≡ true → tests_transfers spec ≡ true

-- a policy that answers as this one does to what it tests, labels with its elements, and holds a label slot
pub record IsOf (p : FlowPolicy) (r : Registration) : Type 0 where
  pub flows : IsFlowPolicy p
  pub within : slot_of r < SLOTS
  pub means : (spec : Spec) (item : Item) → module_of spec ≡ r.module → IsTested spec item
      → answer spec (slot_of r) item ≡ lattice_answer p.lattice (slot_of r) item
  pub remains : Remains p r.module
  pub has : (kind : Kind) (value : LabelValue) → holds_valid (facts_of r.module).labels kind value ≡ true
      → Has p (range_label value).effective

-- mac_biba alone may leave transfers untested
pub untested_biba : (spec : Spec) → tests_transfers spec ≡ false → module_of spec ≡ Biba
untested_biba (means.Biba revocation) passes = refl
untested_biba other passes = cc

-- and leaves the element of what observes
pub biba_keeps : (p : FlowPolicy) (m : Module) → Remains p m → m ≡ Biba → ((subject object : _) → p.remains subject object ≡ subject)
biba_keeps p m (lowers lomac sinks) biba = cc
biba_keeps p m (keeps apart same) biba = same

passed_allowed : (p : FlowPolicy) → IsFlowPolicy p → (r : Registration) (item : Item) → lattice_answer p.lattice (slot_of r) item ≡ Success
    → IsAllowed p r item
passed_allowed p flows r item success own theirs =
    allows p flows (range_label (slice_index_or item.subject.label (slot_of r) Unset)) (part_of p.lattice item.request)
    (element_by r item.subject.label) (object_element r item)
    own theirs item.op success

-- what is granted is allowed, where the policy tests it
pub granted_allowed : (p : FlowPolicy) (r : Registration) (spec : Spec) (specs : List Entry) (given : ℕ) (items : List Item) → IsOf p r
    → IsPinned (slot_of r) (r, spec) specs given
    → AllByRecursion (IsGranted specs) items → AllByRecursion (λ item. IsTested spec item → IsAllowed p r item) items
granted_allowed p r spec specs given [] of pinned granted = tt
granted_allowed p r spec specs given (item ∷ items) of pinned granted = (
  (λ tested. passed_allowed p of.flows r item
      (sym (of.means spec item pinned.module_is tested) ∙ granted_by (holds_slot (slot_of r)) specs (r, spec) item pinned.found granted.0)),
  granted_allowed p r spec specs given items of pinned granted.1,
)

-- Elements

-- each element is one that the policy's labels have
pub all_have : (p : FlowPolicy) (r : Registration) (spec : Spec) (s : State) → IsOf p r → IsHeld (slot_of r) (r, spec) s
    → AllHave p r s.objects
all_have p r spec s of held id = one (live_at s.objects id) refl
  where
    one : (found : Option LiveEntity) → live_at s.objects id ≡ found → Has p (element_by r (values_of found))
    one None is = tt
    one (Some e) is = of.has (kind_of e.what) (value_in (slot_of r) e) (held.valid id e is)

-- whoever has an element has a label with the slot
pub its_label : (r : Registration) (spec : Spec) (s : State) → IsHeld (slot_of r) (r, spec) s → (me : Id) (e : LiveEntity)
    → live_at s.objects me ≡ Some e
    → slot_of r < length (label_at s.objects me)
its_label r spec s held me e live =
    let has : HasElement (element_by r e.label) = all_labelled r spec s held me e live in
    subst (λ (label : List LabelValue). slot_of r < length label) (sym (ap values_of live)) (within_label e.label (slot_of r) has.0 has.1)
