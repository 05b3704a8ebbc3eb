-- The state after the checks of a call that passed, by its outline.
use Rattle.std.proofs.Common.{◌≡◌, ℕ, Bool, true, false, cond, List, Option, Some, None, map, refl, ap, sym, ◌∙◌}
use Rattle.std.specs.Option.{option_map_or}
use Rattle.std.specs.Prelude.{IfNone, IfSome}
use Rattle.mf_elem.specs.declared.label.LabelValue.{LabelValue}
use Rattle.mf_item.specs.Item.{Item}
use Rattle.mf_objects.specs.declared.id.Id.{Id}
use Rattle.mf_objects.specs.Changes.{with_change}
use Rattle.mf_objects.specs.Labels.{with_value}
use Rattle.mf_objects.specs.Lives.{value_at}
use Rattle.mf_policy.specs.Lowering.{after_checks, lomac_slot}
use Rattle.mf_calls.specs.declared.script.Call.{Call}
use Rattle.mf_calls.specs.Tasks.{is_change}
use Rattle.mf_plan.specs.declared.outline.Outline.{Outline}
use Rattle.mf_plan.specs.declared.reply.Reply.{Reply}
use Rattle.mf_plan.specs.declared.state.State.{State}
use Rattle.mf_plan.specs.Found.{AreFound}
use Rattle.mf_plan.specs.Names.{caller_name}
use Rattle.mf_plan.specs.Outline.{item_asking}
use Rattle.mf_plan.specs.OutlineOf.{IsOutlineOf}
use Rattle.mf_plan.specs.Plan.{call_row, plan_of}
use Rattle.mf_plan.specs.Planned.{Plan}
use Rattle.mf_plan.specs.Views.{process_named}
use Rattle.mf_perform.specs.Effect.{with_objects}
use Rattle.mf_perform.specs.Held.{lomac_value, observed_in, with_lomac_value}
use Rattle.mf_perform.specs.OneCall.{call_reply, observed, observed_by}
use Rattle.mf_perform.specs.Passed.{passed}
use Rattle.mf_perform.specs.Refused.{is_ok}
use Rattle.mf_perform.specs.Verdict.{verdict_of}
use Rattle.mf_perform.proofs.LoweredBy.{lowers_by}
use Rattle.mf_perform.proofs.Observing.{observed_unlisted}
use Rattle.mf_perform.proofs.Ready.{ok_proceeds}

module _ (s : State) (task : List ℕ) (child : Option (List ℕ)) (c : Call) (outline : Outline) (r : Reply) (of : IsOutlineOf s task child c outline)
    (replied : r ≡ call_reply s task child c) where
  abbrev caller : Option Id
  caller = process_named s.objects (caller_name task child)

  abbrev checks : List Item
  checks = map (item_asking s.objects outline.found.request) (passed r outline.checks)

  abbrev checks_of : List Item
  checks_of = passed (call_reply s task child c) (plan_of s task child c).items

  module _ (entry : is_change c ≡ false) where
    by_slot : (me : Id) (at : Option ℕ) → caller ≡ Some me → lomac_slot s.specs ≡ at
        → option_map_or (λ slot. with_objects s (with_change (with_value slot (after_checks slot (value_at s.objects me slot) checks)) s.objects me)) at s
        ≡ observed s task child c
    by_slot me None named none = sym (observed_unlisted s task child c none)
    by_slot me (Some slot) named listed = lowers_by s task child c slot me r outline entry listed named replied of.plan

    by_caller : (found : Option Id) → caller ≡ found → option_map_or (observed_by s checks) found s ≡ observed s task child c
    by_caller None named =
        sym (ap (λ (b : Bool). cond b s (option_map_or (observed_by s checks_of) caller s)) entry
        ∙ ap (λ (found : Option Id). option_map_or (observed_by s checks_of) found s) named)
    by_caller (Some me) named = by_slot me (lomac_slot s.specs) named refl

    -- it is that of an entry
    pub observed_so : observed_in s outline r ≡ observed s task child c
    observed_so = ap (λ (found : Option Id). option_map_or (observed_by s checks) found s) of.caller ∙ by_caller caller refl

  -- and where the call is done, the outline says what it is about
  pub found_so : is_ok r ≡ true → AreFound s task child c outline.found
  found_so done =
      of.found
      (ap (λ (p : Plan). p.tail) of.plan
      ∙ ok_proceeds (plan_of s task child c) (verdict_of s.specs (plan_of s task child c)).denied (call_row s task child c).payload (ap is_ok (sym replied) ∙ done))

-- What is put back, after a call that was not done for want of memory

pub weaker : {P Q : LabelValue → Type 0} (value : Option LabelValue) → ((v : LabelValue) → P v → Q v) → IfSome value P → IfSome value Q
weaker None some is = tt
weaker (Some value) some is = some value is

pub as_before : (s low new : State) (by : Option Id) (before : Option LabelValue) → IfNone before (new ≡ low)
    → IfSome before (λ value. new ≡ with_lomac_value value low by) → IfNone before (low ≡ s) → IfSome before (λ value. value ≡ lomac_value s by)
    → with_lomac_value (lomac_value s by) low by ≡ s → new ≡ s
as_before s low new by None stays gets kept had back = stays ∙ kept
as_before s low new by (Some value) stays gets kept had back = gets ∙ ap (λ (v : LabelValue). with_lomac_value v low by) had ∙ back
