-- What a relabel makes of the labels of Biba, MLS and LOMAC that they allow: it leaves a label as the kind of entity has it.
use Rattle.std.proofs.Common.{◌≡◌, ℕ, Bool, true, false, not, cond, ◌&&◌, List, Option, Some, None, refl, ap, sym, ◌∙◌, subst, slice_index_or}
use Rattle.std.specs.Option.{option_or}
use Rattle.std.specs.Prelude.{is_some, is_none, unwrap_or, IfSome}
use Rattle.std.proofs.lemmas.Bool.{and_parts}
use Rattle.mf_errno.specs.declared.errno.Errno.{Errno}
use Rattle.mf_errno.specs.declared.errno.Errno.TheVariants.{Success, Einval, Eperm}
use Rattle.mf_errno.specs.declared.module.Module.{Module}
use Rattle.mf_elem.specs.declared.elem.Elem.{Elem}
use Rattle.mf_elem.specs.declared.label.RangeLabel.{RangeLabel}
use Rattle.mf_elem.specs.declared.label.LabelValue.{LabelValue}
use Rattle.mf_elem.specs.declared.label.LabelValue.TheVariants.{Unset, Range, Number}
use Rattle.mf_elem.specs.declared.label.Request.{Request}
use Rattle.mf_elem.specs.Elem.{in_range}
use Rattle.mf_elem.specs.Bounds.{IsRequest}
use Rattle.mf_elem.specs.Label.{is_plain_label, is_valid, replaced}
use Rattle.mf_elem.proofs.Valid.{is_valid_for}
use Rattle.mf_item.specs.declared.view.Kind.{Kind}
use Rattle.mf_item.specs.declared.view.Kind.TheVariants as kinds
use Rattle.mf_item.specs.declared.view.ObjectView.{ObjectView}
use Rattle.mf_item.specs.declared.operation.CheckOp.{CheckOp}
use Rattle.mf_item.specs.declared.operation.CheckOp.TheVariants as ops
use Rattle.mf_item.specs.Item.{Item}
use Rattle.mf_policy.specs.declared.modules.Labelling.{Labelling}
use Rattle.mf_policy.specs.declared.modules.Labelling.TheVariants.{Ranges, Elements}
use Rattle.mf_policy.specs.declared.operations.Test.TheVariants.{RelabelObject, RelabelCredential}
use Rattle.mf_policy.specs.declared.spec.Spec.{Spec}
use Rattle.mf_policy.specs.Answer.{LatticePolicy, nothing, range_label, object_slot, labels_answer, lattice_answer, answer, tests_transfers}
use Rattle.mf_policy.specs.Laws.{IsOfSubject, SubjectsStayValid, IsOfObject, ObjectsGetNoRange}
use Rattle.mf_policy.specs.Modules.{facts_of, module_of, number_asked, range_asked}
use Rattle.mf_policy.specs.Operations.{is_transfer, row_of}
use Rattle.mf_policy.specs.Relabel.{credential_relabel, object_relabel}
use Rattle.mf_policy.specs.Relabelled.{after_by, range_after, value_after}
use Rattle.mf_policy.proofs.EachModule.{AnswersAs, answers_as, has_elements, has_ranges}
use Rattle.mf_lifetimes.specs.Laws.{holds_valid}
use Rattle.mf_lifetimes.proofs.Lasting.{IsLasting}
use Rattle.mf_lifetimes.proofs.Valid.{IsValidOf, plain_asked, plain_replaced}

-- The rules for relabels

-- a test that answers an error hasn't fitted where the answer is success
passed : (fits : Bool) (error rest : Errno) → (error ≡ Success → ⊥) → cond fits error rest ≡ Success → fits ≡ false
passed true error rest fails success = absurd (fails success)
passed false error rest fails success = refl

no_einval : Einval ≡ Success → ⊥
no_einval same = cc

no_eperm : Eperm ≡ Success → ⊥
no_eperm same = cc

negated : (b : Bool) → not b ≡ false → b ≡ true
negated true is = refl
negated false is = cc

subject_by : (element : Elem) (ends : Elem × Elem) (asked : Option Elem) (asked_ends : Option (Elem × Elem)) → in_range element ends.0 ends.1 ≡ true
    → credential_relabel (record { effective = Some element; range = Some ends }) (record { effective = asked; range = asked_ends }) ≡ Success
    → IsOfSubject (record { effective = option_or asked (Some element); range = option_or asked_ends (Some ends) })
subject_by element ends None None inside success = record { valid = inside; has_range = refl }
subject_by element ends None (Some range) inside success =
    record { valid = negated (in_range element range.0 range.1) (passed _ Einval _ no_einval success); has_range = refl }
subject_by element ends (Some asked) None inside success =
    record { valid = negated (in_range asked ends.0 ends.1) (passed _ Eperm _ no_eperm success); has_range = refl }
subject_by element ends (Some asked) (Some range) inside success =
    record { valid = negated (in_range asked range.0 range.1) (passed _ Einval _ no_einval success); has_range = refl }

-- a subject's label stays one
subjects_stay : SubjectsStayValid
subjects_stay label asked own success = one label.effective label.range own success
  where
    one : (effective : Option Elem) (range : Option (Elem × Elem)) → IsOfSubject (record { effective = effective; range = range })
        → credential_relabel (record { effective = effective; range = range }) asked ≡ Success
        → IsOfSubject (replaced (record { effective = effective; range = range }) (Some asked))
    one None range own success = let valid = own.valid in cc
    one (Some element) None own success = let some = own.has_range in cc
    one (Some element) (Some ends) own success = subject_by element ends asked.effective asked.range own.valid success

object_by : (subject : RangeLabel) (old : Elem) (effective asked : Option Elem) (range asked_range : Option (Elem × Elem)) → effective ≡ Some old → range ≡ None
    → object_relabel subject old (record { effective = asked; range = asked_range }) ≡ Success
    → IsOfObject (record { effective = option_or asked effective; range = option_or asked_range range })
object_by subject old effective asked range (Some ends) is none success = absurd (no_einval success)
object_by subject old effective None range None is none success = record { has_effective = ap is_some is; has_no_range = none }
object_by subject old effective (Some element) range None is none success = record { has_effective = refl; has_no_range = none }

-- so does an object's
objects_stay : ObjectsGetNoRange
objects_stay subject label asked old is none success =
    object_by subject old label.effective asked.effective label.range asked.range is none success

-- what is asked without compartments and without a range leaves such a label
plain_after : (element : Elem) (kind : Kind) (part : Option RangeLabel) (value : LabelValue) → IfSome part (λ label. is_plain_label label ≡ true)
    → holds_valid (Elements element) kind value ≡ true → holds_valid (Elements element) kind (range_after part value) ≡ true
plain_after element kind None value plain valid = valid
plain_after element kind (Some asked) Unset plain valid = cc
plain_after element kind (Some asked) (Number n) plain valid = cc
plain_after element kind (Some asked) (Range label) plain valid = plain_replaced label (Some asked) valid plain

-- A policy whose labels have ranges

-- it answers to relabels by the rules for these
abbrev TakesByRule : LatticePolicy → Type 0
TakesByRule policy = (subject : Elem) (label asked : RangeLabel) → policy.relabel_credential subject label asked ≡ credential_relabel label asked

abbrev GivesByRule : LatticePolicy → Type 0
GivesByRule policy = (subject : Elem) (label : RangeLabel) (old : Elem) (asked : RangeLabel) → policy.relabel_object subject label old asked ≡ object_relabel label old asked

module _ (process other : RangeLabel) (policy : LatticePolicy) (take : TakesByRule policy) (give : GivesByRule policy) where
  -- its own relabel, which the policy allows, leaves a process's label
  process_after : (part : Option RangeLabel) (value : LabelValue) (object : Option Elem) → holds_valid (Ranges process other) kinds.Process value ≡ true
      → labels_answer policy RelabelCredential (range_label value) (unwrap_or part nothing) (range_label value).effective object ≡ Success
      → holds_valid (Ranges process other) kinds.Process (range_after part value) ≡ true
  process_after None value object valid success = valid
  process_after (Some asked) Unset object valid success = cc
  process_after (Some asked) (Number n) object valid success = cc
  process_after (Some asked) (Range label) object valid success =
      let both = and_parts (is_valid label) (is_some label.range) valid in
      let stays = subjects_stay label asked (record { valid = both.0; has_range = both.1 }) (one label.effective label.range both.0 success) in
      rw stays.valid stays.has_range
    where
      one : (effective : Option Elem) (range : Option (Elem × Elem)) → is_valid_for effective range ≡ true
          → labels_answer policy RelabelCredential label asked effective object ≡ Success → credential_relabel label asked ≡ Success
      one None range valid success = cc
      one (Some element) range valid success = sym (take element label asked) ∙ success

  -- an object's relabel by a process, which the policy allows, leaves an object's label
  object_after : (part : Option RangeLabel) (subject value : LabelValue) → holds_valid (Ranges process other) kinds.Process subject ≡ true
      → holds_valid (Ranges process other) kinds.Vnode value ≡ true
      → labels_answer policy RelabelObject (range_label subject) (unwrap_or part nothing) (range_label subject).effective (range_label value).effective ≡ Success
      → holds_valid (Ranges process other) kinds.Vnode (range_after part value) ≡ true
  object_after None subject value own valid success = valid
  object_after (Some asked) subject Unset own valid success = cc
  object_after (Some asked) subject (Number n) own valid success = cc
  object_after (Some asked) Unset (Range label) own valid success = cc
  object_after (Some asked) (Number n) (Range label) own valid success = cc
  object_after (Some asked) (Range subject) (Range label) own valid success = one subject.effective subject.range label.effective label.range refl refl own valid success
    where
      after : IsOfObject (replaced label (Some asked)) → holds_valid (Ranges process other) kinds.Vnode (Range (replaced label (Some asked))) ≡ true
      after stays = rw (stays.has_effective, stays.has_no_range) refl

      one : (effective : Option Elem) (range : Option (Elem × Elem)) (old : Option Elem) (old_range : Option (Elem × Elem)) → label.effective ≡ old → label.range ≡ old_range
          → (is_valid_for effective range && is_some range) ≡ true → (is_some old && is_none old_range) ≡ true
          → labels_answer policy RelabelObject subject asked effective old ≡ Success
          → holds_valid (Ranges process other) kinds.Vnode (Range (replaced label (Some asked))) ≡ true
      one None range old old_range is there own valid success = cc
      one effective range None old_range is there own valid success = cc
      one effective range (Some old) (Some ends) is there own valid success = cc
      one (Some element) range (Some old) None is there own valid success =
          after (objects_stay subject label asked old is there (sym (give element subject old asked) ∙ success))

  -- what a policy answers to an item that asks so much

  module _ (slot : ℕ) (item : Item) (request : Request) (asked : item.request ≡ Some request) where
    item_process : (label : List LabelValue) → (row_of item.op).test ≡ RelabelCredential → item.subject.label ≡ label
        → lattice_answer policy slot item ≡ Success → holds_valid (Ranges process other) kinds.Process (slice_index_or label slot Unset) ≡ true
        → holds_valid (Ranges process other) kinds.Process (range_after (policy.part request) (slice_index_or label slot Unset)) ≡ true
    item_process label test own success valid =
        process_after (policy.part request) (slice_index_or label slot Unset) (range_label (object_slot item.object slot)).effective valid cc

    item_object : (maker label : List LabelValue) (object : ObjectView) → (row_of item.op).test ≡ RelabelObject → item.subject.label ≡ maker → item.object ≡ Some object
        → object.label ≡ label → lattice_answer policy slot item ≡ Success
        → holds_valid (Ranges process other) kinds.Process (slice_index_or maker slot Unset) ≡ true
        → holds_valid (Ranges process other) kinds.Vnode (slice_index_or label slot Unset) ≡ true
        → holds_valid (Ranges process other) kinds.Vnode (range_after (policy.part request) (slice_index_or label slot Unset)) ≡ true
    item_object maker label object test own there labelled success subject valid =
        object_after (policy.part request) (slice_index_or maker slot Unset) (slice_index_or label slot Unset) subject valid cc

-- all entities but processes are labelled alike
other_kind : (process other : RangeLabel) (kind : Kind) (value : LabelValue) → (kind ≡ kinds.Process → ⊥)
    → holds_valid (Ranges process other) kind value ≡ holds_valid (Ranges process other) kinds.Vnode value
other_kind process other kind Unset no_process = refl
other_kind process other kind (Number n) no_process = refl
other_kind process other kinds.Process (Range label) no_process = absurd (no_process refl)
other_kind process other kinds.Vnode (Range label) no_process = refl
other_kind process other kinds.Pipe (Range label) no_process = refl
other_kind process other kinds.Socket (Range label) no_process = refl

-- No relabel is a transfer

taking_is_none : (op : CheckOp) → (row_of op).test ≡ RelabelCredential → is_transfer op ≡ true → ⊥
taking_is_none ops.VnodeRead test transfer = cc
taking_is_none ops.VnodeWrite test transfer = cc
taking_is_none other test transfer = cc

giving_is_none : (op : CheckOp) → (row_of op).test ≡ RelabelObject → is_transfer op ≡ true → ⊥
giving_is_none ops.VnodeRead test transfer = cc
giving_is_none ops.VnodeWrite test transfer = cc
giving_is_none other test transfer = cc

-- A policy that stays

module _ (m : Module) (spec : Spec) (of : module_of spec ≡ m) (lasting : IsLasting m) (slot : ℕ) (item : Item) (request : Request) (spelled : IsRequest request)
    (asked : item.request ≡ Some request) (success : answer spec slot item ≡ Success) where
  own : AnswersAs m
  own = answers_as m lasting

  allowed : (is_transfer item.op ≡ true → tests_transfers spec ≡ true) → lattice_answer own.policy slot item ≡ Success
  allowed tested = sym (own.answers spec slot item of tested) ∙ success

  -- what is so of the policy and of what is asked, by the labels of its module
  record FitsLabels (labels : Labelling) : Type 0 where
    take : has_ranges labels ≡ true → TakesByRule own.policy
    give : has_ranges labels ≡ true → GivesByRule own.policy
    plain : (element : Elem) → labels ≡ Elements element → IfSome (range_asked m request) (λ label. is_plain_label label ≡ true)

  fits : FitsLabels (facts_of m).labels
  fits = record { take = own.take; give = own.give; plain = λ element same. plain_asked m request element spelled same }

  -- a process's slot holds a valid label after it was let ask for that
  pub process_relabelled : (label : List LabelValue) → (row_of item.op).test ≡ RelabelCredential → item.subject.label ≡ label
      → IsValidOf m kinds.Process (slice_index_or label slot Unset) → IsValidOf m kinds.Process (value_after m request (slice_index_or label slot Unset))
  process_relabelled label test is valid = by_labels (facts_of m).labels lasting fits valid
    where
      by_labels : (labels : Labelling) → has_elements labels ≡ true → FitsLabels labels → holds_valid labels kinds.Process (slice_index_or label slot Unset) ≡ true
          → holds_valid labels kinds.Process (after_by labels (range_asked m request) (number_asked m request) (slice_index_or label slot Unset)) ≡ true
      by_labels (Ranges process other) elements fit valid =
          subst (λ (part : Option RangeLabel). holds_valid (Ranges process other) kinds.Process (range_after part (slice_index_or label slot Unset)) ≡ true) (own.part request)
          (item_process process other own.policy (fit.take refl) (fit.give refl) slot item request asked label test is (allowed (λ transfer. absurd (taking_is_none item.op test transfer))) valid)
      by_labels (Elements element) elements fit valid =
          plain_after element kinds.Process (range_asked m request) (slice_index_or label slot Unset) (fit.plain element refl) valid
      by_labels other elements fit valid = cc

  -- and that of another entity after a process was let ask for that
  pub object_relabelled : (kind : Kind) (maker label : List LabelValue) (object : ObjectView) → (kind ≡ kinds.Process → ⊥) → (row_of item.op).test ≡ RelabelObject
      → item.subject.label ≡ maker → item.object ≡ Some object → object.label ≡ label → IsValidOf m kinds.Process (slice_index_or maker slot Unset)
      → IsValidOf m kind (slice_index_or label slot Unset) → IsValidOf m kind (value_after m request (slice_index_or label slot Unset))
  object_relabelled kind maker label object no_process test is there labelled subject valid = by_labels (facts_of m).labels lasting fits subject valid
    where
      by_labels : (labels : Labelling) → has_elements labels ≡ true → FitsLabels labels → holds_valid labels kinds.Process (slice_index_or maker slot Unset) ≡ true
          → holds_valid labels kind (slice_index_or label slot Unset) ≡ true
          → holds_valid labels kind (after_by labels (range_asked m request) (number_asked m request) (slice_index_or label slot Unset)) ≡ true
      by_labels (Ranges process other) elements fit subject valid =
          subst (λ (part : Option RangeLabel). holds_valid (Ranges process other) kind (range_after part (slice_index_or label slot Unset)) ≡ true) (own.part request)
          (other_kind process other kind _ no_process
          ∙ item_object process other own.policy (fit.take refl) (fit.give refl) slot item request asked maker label object test is there labelled (allowed (λ transfer. absurd (giving_is_none item.op test transfer))) subject
          (sym (other_kind process other kind _ no_process) ∙ valid))
      by_labels (Elements element) elements fit subject valid =
          plain_after element kind (range_asked m request) (slice_index_or label slot Unset) (fit.plain element refl) valid
      by_labels other elements fit subject valid = cc
