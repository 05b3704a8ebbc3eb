-- The checks of a call while mac_lomac is listed: each finds the caller as those before it have lowered it. Which checks lower is this model's own
-- choice (docs/DIFFERENCES.md).
use Rattle.std.specs.Option.{option_map_or}
use Rattle.std.specs.Prelude.{ℕ, ◌==◌, if◌then◌else◌, List, [], ◌∷◌, slice_set}
use Rattle.mf_elem.specs.declared.label.LabelValue.{LabelValue}
use Rattle.mf_item.specs.declared.view.SubjectView.{SubjectView}
use Rattle.mf_item.specs.Item.{Item}
use Rattle.mf_objects.specs.declared.id.Id.{Id}
use Rattle.mf_objects.specs.Lives.{value_at}
use Rattle.mf_policy.specs.Lowering.{after_check, lomac_slot}
use Rattle.mf_plan.specs.declared.state.State.{State}

abbrev pub with_slot : ℕ → LabelValue → SubjectView → SubjectView
with_slot slot value subject = record subject { label = slice_set subject.label slot value }

-- the check while the caller has this value in the slot; a socket that delivers is no caller
abbrev pub while_lowered : ℕ → ℕ → LabelValue → Item → Item
while_lowered slot caller value item = if item.subject.id == caller then record item { subject = with_slot slot value item.subject } else item

-- each check with the caller as those before it leave it
abbrev pub each_lowered : ℕ → ℕ → LabelValue → List Item → List Item
each_lowered slot caller value [] = []
each_lowered slot caller value (item ∷ items) =
    while_lowered slot caller value item ∷ each_lowered slot caller (after_check slot value item) items

-- the checks of this caller as it comes to them: where mac_lomac isn't listed, as it is in the state
abbrev pub lowering : State → Id → List Item → List Item
lowering s caller items = option_map_or (λ slot. each_lowered slot caller.0 (value_at s.objects caller slot) items) (lomac_slot s.specs) items
