-- How the last check of a plan finds its caller: as the checks before it leave it, which is as the state after all has it where the last moves
-- nothing to its subject.
use Rattle.std.proofs.Common.{◌≡◌, ℕ, Bool, false, cond, List, [], ◌∷◌, ◌++◌, Option, Some, None, option_map, refl, ap, sym, ◌∙◌, subst, eq-eqb}
use Rattle.std.specs.Option.{option_map_or}
use Rattle.std.specs.Prelude.{slice_set}
use Rattle.std.specs.List.{AllByRecursion}
use Rattle.mf_elem.specs.declared.label.LabelValue.{LabelValue}
use Rattle.mf_item.specs.Item.{Item}
use Rattle.mf_policy.specs.Answer.{object_slot}
use Rattle.mf_policy.specs.Lowering.{after_checks, lomac_slot, lowered_value, observes}
use Rattle.mf_policy.specs.Operations.{row_of}
use Rattle.mf_objects.specs.declared.id.Id.{Id}
use Rattle.mf_objects.specs.Live.{LiveEntity, Entities, has_id, label_at, live_at}
use Rattle.mf_objects.specs.Lives.{value_at}
use Rattle.mf_objects.specs.Changes.{with_change}
use Rattle.mf_objects.specs.Labels.{with_value}
use Rattle.mf_objects.proofs.Entities.{label_of, changed_at}
use Rattle.mf_plan.specs.declared.state.State.{State}
use Rattle.mf_plan.specs.Lowering.{each_lowered, lowering, while_lowered, with_slot}
use Rattle.mf_plan.proofs.LoweredChecks.{after_pushed, each_pushed, same_afters}
use Rattle.mf_perform.specs.Effect.{with_objects}
use Rattle.mf_perform.specs.OneCall.{observed_by}
use Rattle.mf_perform.proofs.Granted.{IsGranted, last_granted}
use Rattle.mf_perform.proofs.Observing.{find_valued, passes_found}

-- the check of a plan as its caller comes to it in s, with the caller's label as it is in s1
pub record LastCheck (s s1 : State) (me : Id) (item : Item) : Type 0 where
  pub check : Item
  pub op : check.op ≡ item.op
  pub object : check.object ≡ item.object
  pub request : check.request ≡ item.request
  pub label : check.subject.label ≡ label_at s1.objects me
  pub granted : IsGranted s.specs check

-- the label of the one that has another value
valued_label : (slot : ℕ) (value : LabelValue) (o : Entities) (me : Id) (e : LiveEntity) → live_at o me ≡ Some e
    → label_at (with_change (with_value slot value) o me) me ≡ slice_set (label_at o me) slot value
valued_label slot value o me e live =
    ap label_of (find_valued slot value me me o.live)
    ∙ ap (λ (found : Option LiveEntity). label_of (option_map (changed_at (with_value slot value) me) found)) live
    ∙ ap (λ (b : Bool). (cond b (with_value slot value e) e).label) (passes_found (has_id me) o.live e live)
    ∙ ap (λ (found : Option LiveEntity). slice_set (label_of found) slot value) (sym live)

module _ (s : State) (me : Id) (e : LiveEntity) (live : live_at s.objects me ≡ Some e) (before : List Item) (item : Item) (own : item.subject.id ≡ me.0)
    (label : item.subject.label ≡ label_at s.objects me) (still : observes (row_of item.op).movement ≡ false) where
  module _ (slot : ℕ) where
    abbrev first : LabelValue
    first = value_at s.objects me slot

    abbrev last : LabelValue
    last = after_checks slot first before

    -- the last check moves nothing to its subject
    last_value : after_checks slot first (each_lowered slot me.0 first (before ++ item ∷ [])) ≡ last
    last_value =
        same_afters slot me.0 first first (before ++ item ∷ [])
        ∙ after_pushed slot first before item
        ∙ ap (λ (b : Bool). cond b (lowered_value last (object_slot item.object slot)) last) still

    lowered_last : AllByRecursion (IsGranted s.specs) (each_lowered slot me.0 first (before ++ item ∷ []))
        → LastCheck s (with_objects s (with_change (with_value slot (after_checks slot first (each_lowered slot me.0 first (before ++ item ∷ [])))) s.objects me)) me item
    lowered_last granted =
        record {
          check = record item { subject = with_slot slot last item.subject };
          op = refl;
          object = refl;
          request = refl;
          label = ap (λ (values : List LabelValue). slice_set values slot last) label
              ∙ ap (λ (value : LabelValue). slice_set (label_at s.objects me) slot value) (sym last_value)
              ∙ sym (valued_label slot (after_checks slot first (each_lowered slot me.0 first (before ++ item ∷ []))) s.objects me e live);
          granted = subst (λ (b : Bool). IsGranted s.specs (cond b (record item { subject = with_slot slot last item.subject }) item)) (eq-eqb item.subject.id me.0 own)
              (last_granted s.specs (each_lowered slot me.0 first before) (while_lowered slot me.0 last item)
              (subst (AllByRecursion (IsGranted s.specs)) (each_pushed slot me.0 first before item) granted));
        }

  last_at : (at : Option ℕ)
      → AllByRecursion (IsGranted s.specs) (option_map_or (λ slot. each_lowered slot me.0 (value_at s.objects me slot) (before ++ item ∷ [])) at (before ++ item ∷ []))
      → LastCheck s
      (option_map_or
      (λ slot. with_objects s
      (with_change (with_value slot
      (after_checks slot (value_at s.objects me slot)
      (option_map_or (λ slot. each_lowered slot me.0 (value_at s.objects me slot) (before ++ item ∷ [])) at (before ++ item ∷ [])))) s.objects me)) at s)
      me item
  last_at None granted =
      record { check = item; op = refl; object = refl; request = refl; label = label; granted = last_granted s.specs before item granted }
  last_at (Some slot) granted = lowered_last slot granted

  -- the last check that is granted is that of the caller as the state after all checks has it
  pub last_check : AllByRecursion (IsGranted s.specs) (lowering s me (before ++ item ∷ []))
      → LastCheck s (observed_by s (lowering s me (before ++ item ∷ [])) me) me item
  last_check granted = last_at (lomac_slot s.specs) granted
