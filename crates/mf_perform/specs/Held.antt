-- What a caller has in the slot of mac_lomac, and what checks leave of it; inner contracts alone cite this.
use Rattle.std.specs.Option.{option_map_or}
use Rattle.std.specs.Prelude.{map, Option, Some, None}
use Rattle.mf_elem.specs.declared.elem.Elem.{Elem}
use Rattle.mf_elem.specs.declared.label.LabelValue.{LabelValue}
use Rattle.mf_elem.specs.declared.label.LabelValue.TheVariants.{Unset, Range}
use Rattle.mf_objects.specs.declared.id.Id.{Id}
use Rattle.mf_objects.specs.Changes.{with_change}
use Rattle.mf_objects.specs.Labels.{with_value}
use Rattle.mf_objects.specs.Lives.{value_at}
use Rattle.mf_policy.specs.Lowering.{lomac_slot}
use Rattle.mf_plan.specs.declared.outline.Outline.{Outline}
use Rattle.mf_plan.specs.declared.reply.Reply.{Reply}
use Rattle.mf_plan.specs.declared.state.State.{State}
use Rattle.mf_plan.specs.Outline.{item_asking}
use Rattle.mf_perform.specs.Effect.{with_objects}
use Rattle.mf_perform.specs.OneCall.{observed_by}
use Rattle.mf_perform.specs.Passed.{passed}

-- its value, where mac_lomac is listed and somebody calls
abbrev pub lomac_value : State → Option Id → LabelValue
lomac_value s caller = option_map_or (λ slot. option_map_or (λ me. value_at s.objects me slot) caller Unset) (lomac_slot s.specs) Unset

-- the state in which it has this one
abbrev pub with_lomac_value : LabelValue → State → Option Id → State
with_lomac_value value s caller =
    option_map_or (λ slot. option_map_or (λ me. with_objects s (with_change (with_value slot value) s.objects me)) caller s) (lomac_slot s.specs) s

-- the value with the element to which checks lower it, where they do
abbrev pub with_element : LabelValue → Option Elem → LabelValue
with_element value None = value
with_element (Range label) (Some element) = Range (record label { effective = Some element })
with_element value (Some element) = value

-- the state after the checks of an outline that passed, by the reply
abbrev pub observed_in : State → Outline → Reply → State
observed_in s outline r =
    option_map_or (observed_by s (map (item_asking s.objects outline.found.request) (passed r outline.checks))) outline.found.caller s
