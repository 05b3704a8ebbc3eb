-- What `observed` is where it is known who calls, and in which slot mac_lomac has its values; and that it is read from the checks as the state has them.
use Rattle.std.proofs.Common.{◌≡◌, ℕ, ◌+◌, ◌-◌, ◌<◌, Bool, false, cond, List, Option, Some, length, get_or, take, map, refl, ap, sym, ◌∙◌}
use Rattle.std.proofs.lemmas.List.{map_more, take-map}
use Rattle.std.specs.Option.{option_map_or}
use Rattle.mf_elem.specs.declared.label.LabelValue.{LabelValue}
use Rattle.mf_item.specs.Item.{Item}
use Rattle.mf_objects.specs.declared.id.Id.{Id}
use Rattle.mf_objects.specs.Changes.{with_change}
use Rattle.mf_objects.specs.Labels.{with_value}
use Rattle.mf_objects.specs.Lives.{value_at}
use Rattle.mf_policy.specs.Lowering.{after_check, after_checks, lomac_slot}
use Rattle.mf_calls.specs.declared.script.Call.{Call}
use Rattle.mf_calls.specs.Tasks.{is_change}
use Rattle.mf_plan.specs.declared.outline.Check.{Check}
use Rattle.mf_plan.specs.declared.outline.Outline.{Outline}
use Rattle.mf_plan.specs.declared.reply.Reply.{Reply}
use Rattle.mf_plan.specs.declared.reply.Reply.TheVariants as reply
use Rattle.mf_plan.specs.declared.state.State.{State}
use Rattle.mf_plan.specs.Lowering.{each_lowered, lowering}
use Rattle.mf_plan.specs.Names.{caller_name}
use Rattle.mf_plan.specs.Outline.{item_asking, outlined}
use Rattle.mf_plan.specs.Plan.{call_row, plan_in, plan_of}
use Rattle.mf_plan.specs.Planned.{Plan}
use Rattle.mf_plan.specs.Views.{process_named}
use Rattle.mf_plan.proofs.LoweredChecks.{after_pushed, each_taken, same_afters}
use Rattle.mf_perform.specs.Effect.{with_objects}
use Rattle.mf_perform.specs.OneCall.{call_reply, observed, observed_by}
use Rattle.mf_perform.specs.Passed.{passed}

-- the value after one check more
pub one_more : (f : Check → Item) (slot : ℕ) (own value value' : LabelValue) (checks : List Check) (k : ℕ) (d : Check) → k < length checks
    → value ≡ after_checks slot own (map f (take k checks)) → value' ≡ after_check slot value (f (get_or checks k d))
    → value' ≡ after_checks slot own (map f (take (k + 1) checks))
one_more f slot own value value' checks k d within so is =
    is ∙ ap (λ (v : LabelValue). after_check slot v (f (get_or checks k d))) so
    ∙ sym (after_pushed slot own (map f (take k checks)) (f (get_or checks k d)))
    ∙ ap (after_checks slot own) (sym (map_more f checks k d within))

-- Those that passed

passed_lowered : (r : Reply) (slot caller : ℕ) (value : LabelValue) (items : List Item)
    → passed r (each_lowered slot caller value items) ≡ each_lowered slot caller value (passed r items)
passed_lowered (reply.Denied errno op item by) slot caller value items = each_taken slot caller value (item - 1) items
passed_lowered (reply.Ok payload) slot caller value items = refl
passed_lowered (reply.Refused errno) slot caller value items = refl

passed_mapped : {A B : Type 0} (r : Reply) (f : A → B) (xs : List A) → passed r (map f xs) ≡ map f (passed r xs)
passed_mapped (reply.Denied errno op item by) f xs = take-map f (item - 1) xs
passed_mapped (reply.Ok payload) f xs = refl
passed_mapped (reply.Refused errno) f xs = refl

-- The state after them

module _ (s : State) (task : List ℕ) (child : Option (List ℕ)) (c : Call) where
  abbrev items : List Item
  items = (plan_in s (call_row s task child c)).items

  abbrev checks_of : Reply → List Item
  checks_of r = passed r (plan_of s task child c).items

  -- an entry lowers its caller, in the slot of mac_lomac
  pub lowers : (slot : ℕ) (me : Id) → is_change c ≡ false → lomac_slot s.specs ≡ Some slot → process_named s.objects (caller_name task child) ≡ Some me
      → observed s task child c ≡ with_objects s (with_change (with_value slot (after_checks slot (value_at s.objects me slot) (checks_of (call_reply s task child c)))) s.objects me)
  lowers slot me entry listed named =
      ap (λ (b : Bool). cond b s (option_map_or (observed_by s (checks_of (call_reply s task child c))) (process_named s.objects (caller_name task child)) s)) entry
      ∙ ap (λ (caller : Option Id). option_map_or (observed_by s (checks_of (call_reply s task child c))) caller s) named
      ∙ ap (λ (o : Option ℕ). option_map_or (λ (slot : ℕ).
      with_objects s (with_change (with_value slot (after_checks slot (value_at s.objects me slot) (checks_of (call_reply s task child c)))) s.objects me)) o s) listed

  -- by the checks as the state has them
  same_checks : (r : Reply) (slot : ℕ) (me : Id) (value : LabelValue) → lomac_slot s.specs ≡ Some slot → process_named s.objects (caller_name task child) ≡ Some me
      → after_checks slot value (checks_of r) ≡ after_checks slot value (passed r items)
  same_checks r slot me value listed named =
      ap (λ (caller : Option Id). after_checks slot value (passed r (option_map_or (λ (by : Id). lowering s by items) caller items))) named
      ∙ ap (λ (o : Option ℕ). after_checks slot value (passed r (option_map_or (λ (at : ℕ). each_lowered at me.0 (value_at s.objects me at) items) o items))) listed
      ∙ ap (after_checks slot value) (passed_lowered r slot me.0 (value_at s.objects me slot) items)
      ∙ same_afters slot me.0 value (value_at s.objects me slot) (passed r items)

  -- which are those of its outline
  pub lowers_by : (slot : ℕ) (me : Id) (r : Reply) (outline : Outline) → is_change c ≡ false → lomac_slot s.specs ≡ Some slot
      → process_named s.objects (caller_name task child) ≡ Some me → r ≡ call_reply s task child c → outlined s.objects outline ≡ plan_in s (call_row s task child c)
      → with_objects s (with_change (with_value slot
      (after_checks slot (value_at s.objects me slot) (map (item_asking s.objects outline.found.request) (passed r outline.checks)))) s.objects me)
      ≡ observed s task child c
  lowers_by slot me r outline entry listed named replied planned =
      ap state (ap (after_checks slot own) (sym (passed_mapped r (item_asking s.objects outline.found.request) outline.checks))
      ∙ ap (λ (p : Plan). after_checks slot own (passed r p.items)) planned ∙ sym (same_checks r slot me own listed named)
      ∙ ap (λ (r : Reply). after_checks slot own (checks_of r)) replied)
      ∙ sym (lowers slot me entry listed named)
    where
      own : LabelValue
      own = value_at s.objects me slot

      state : LabelValue → State
      state value = with_objects s (with_change (with_value slot value) s.objects me)
