-- What checks leave of the caller's value, seen by its element alone.
use Rattle.std.proofs.Common.{◌≡◌, Bool, true, false, cond, List, [], ◌∷◌, map, Option, Some, None, Bor, refl, ap, sym, ◌∙◌}
use Rattle.std.specs.Option.{option_map_or}
use Rattle.std.specs.Prelude.{ℕ, option_copied, unwrap_or}
use Rattle.mf_elem.specs.declared.elem.Elem.{Elem}
use Rattle.mf_elem.specs.declared.label.LabelValue.{LabelValue}
use Rattle.mf_elem.specs.declared.label.LabelValue.TheVariants.{Unset, Range, Number}
use Rattle.mf_elem.specs.declared.label.RangeLabel.{RangeLabel}
use Rattle.mf_elem.specs.Elem.{dominates}
use Rattle.mf_item.specs.Item.{Item}
use Rattle.mf_objects.specs.declared.id.Id.{Id}
use Rattle.mf_objects.specs.Changes.{with_change}
use Rattle.mf_objects.specs.Labels.{with_value}
use Rattle.mf_objects.specs.Lives.{value_at}
use Rattle.mf_policy.specs.Answer.{object_slot, range_label}
use Rattle.mf_policy.specs.Lowering.{after_check, after_checks, lomac_slot, lowered, lowered_element, lowered_value, observes}
use Rattle.mf_policy.specs.Operations.{row_of}
use Rattle.mf_plan.specs.declared.outline.Outline.{Outline}
use Rattle.mf_plan.specs.declared.reply.Reply.{Reply}
use Rattle.mf_plan.specs.declared.state.State.{State}
use Rattle.mf_plan.specs.Outline.{item_asking}
use Rattle.mf_perform.specs.Effect.{with_objects}
use Rattle.mf_perform.specs.Held.{observed_in, with_element}
use Rattle.mf_perform.specs.OneCall.{observed_by}
use Rattle.mf_perform.specs.Passed.{passed}

abbrev pub element_of : LabelValue → Option Elem
element_of value = (range_label value).effective

-- the element of the value that is left
with_it : (own : LabelValue) (first : Elem) (lowered : Option Elem) → element_of own ≡ Some first
    → element_of (with_element own lowered) ≡ Some (unwrap_or lowered first)
with_it own first None is = is
with_it Unset first (Some element) is = cc
with_it (Range label) first (Some element) is = refl
with_it (Number n) first (Some element) is = cc

-- the last element counts
last_element : (own : LabelValue) (lowered : Option Elem) (element : Elem) → with_element (with_element own lowered) (Some element) ≡ with_element own (Some element)
last_element own None element = refl
last_element Unset (Some e) element = refl
last_element (Range label) (Some e) element = refl
last_element (Number n) (Some e) element = refl

-- A value, and that of an object

with_own : (label : RangeLabel) (e : Option Elem) → e ≡ label.effective → Range (record label { effective = e }) ≡ Range label
with_own label e is = ap (λ (x : Option Elem). Range (record label { effective = x })) is

by_none : (e : Option Elem) → lowered_element e None ≡ e
by_none None = refl
by_none (Some e) = refl

none_seen : (value other : LabelValue) → element_of other ≡ None → lowered_value value other ≡ value
none_seen Unset other none = refl
none_seen (Range label) other none = with_own label _ (ap (lowered_element label.effective) none ∙ by_none label.effective)
none_seen (Number n) other none = refl

none_had : (value other : LabelValue) → element_of value ≡ None → lowered_value value other ≡ value
none_had Unset other none = refl
none_had (Range label) other none = with_own label _ (ap (λ (e : Option Elem). lowered_element e (element_of other)) none ∙ sym none)
none_had (Number n) other none = refl

seen_by : (value other : LabelValue) (now element : Elem) → element_of value ≡ Some now → element_of other ≡ Some element
    → lowered_value value other ≡ with_element value (Some (lowered now element))
seen_by Unset other now element had is = cc
seen_by (Range label) other now element had is =
    ap (λ (e : Option Elem). Range (record label { effective = lowered_element e (element_of other) })) had
    ∙ ap (λ (e : Option Elem). Range (record label { effective = lowered_element (Some now) e })) is
seen_by (Number n) other now element had is = cc

with_now : (value : LabelValue) (now : Elem) → element_of value ≡ Some now → with_element value (Some now) ≡ value
with_now Unset now had = refl
with_now (Range label) now had = with_own label (Some now) (sym had)
with_now (Number n) now had = refl

-- One check

-- it moves nothing to its subject
pub unmoved : (slot : ℕ) (value : LabelValue) (item : Item) → observes (row_of item.op).movement ≡ false → after_check slot value item ≡ value
unmoved slot value item moves = ap (λ (b : Bool). cond b (lowered_value value (object_slot item.object slot)) value) moves

by_way : (slot : ℕ) (value : LabelValue) (item : Item) → lowered_value value (object_slot item.object slot) ≡ value → after_check slot value item ≡ value
by_way slot value item stays = one (observes (row_of item.op).movement)
  where
    one : (b : Bool) → cond b (lowered_value value (object_slot item.object slot)) value ≡ value
    one true = stays
    one false = refl

-- its object has no element
pub unseen : (slot : ℕ) (value : LabelValue) (item : Item) → element_of (object_slot item.object slot) ≡ None → after_check slot value item ≡ value
unseen slot value item none = by_way slot value item (none_seen value (object_slot item.object slot) none)

-- the caller has none
unlowered : (slot : ℕ) (value : LabelValue) (item : Item) → element_of value ≡ None → after_check slot value item ≡ value
unlowered slot value item none = by_way slot value item (none_had value (object_slot item.object slot) none)

module _ (slot : ℕ) (own : LabelValue) (first : Elem) (before : Option Elem) (item : Item) (other : Elem) (had : element_of own ≡ Some first)
    (is : element_of (object_slot item.object slot) ≡ Some other) where
  abbrev value : LabelValue
  value = with_element own before

  abbrev now : Elem
  now = unwrap_or before first

  seen : lowered_value value (object_slot item.object slot) ≡ with_element value (Some (lowered now other))
  seen = seen_by value (object_slot item.object slot) now other (with_it own first before had) is

  -- it dominates the caller's
  pub dominated : dominates other now ≡ true → after_check slot value item ≡ value
  dominated above =
      by_way slot value item
      (seen ∙ ap (λ (b : Bool). with_element value (Some (cond b now other))) above ∙ with_now value now (with_it own first before had))

  -- it doesn't
  pub sunk : observes (row_of item.op).movement ≡ true → dominates other now ≡ false → after_check slot value item ≡ with_element own (Some other)
  sunk moves above =
      ap (λ (b : Bool). cond b (lowered_value value (object_slot item.object slot)) value) moves
      ∙ seen ∙ ap (λ (b : Bool). with_element value (Some (cond b now other))) above ∙ last_element own before other

-- the element that it had last, by reference
pub now_of : (lowered : Option (Bor Elem)) (first : Bor Elem) → (unwrap_or lowered first).now ≡ unwrap_or (option_copied lowered) first.now
now_of None first = refl
now_of (Some element) first = refl

-- Checks of a caller that has no element

pub none_left : (slot : ℕ) (own : LabelValue) (items : List Item) → element_of own ≡ None → after_checks slot own items ≡ own
none_left slot own [] none = refl
none_left slot own (item ∷ items) none =
    ap (λ (v : LabelValue). after_checks slot v items) (unlowered slot own item none) ∙ none_left slot own items none

-- The state after the checks of an outline, whose caller is known

pub by_outline : (s : State) (outline : Outline) (r : Reply) (slot : ℕ) (me : Id) → lomac_slot s.specs ≡ Some slot → outline.found.caller ≡ Some me
    → with_objects s (with_change (with_value slot
    (after_checks slot (value_at s.objects me slot) (map (item_asking s.objects outline.found.request) (passed r outline.checks)))) s.objects me)
    ≡ observed_in s outline r
by_outline s outline r slot me listed named =
    sym (ap (λ (caller : Option Id). option_map_or (observed_by s checks) caller s) named
    ∙ ap (λ (at : Option ℕ). option_map_or (λ (slot : ℕ). with_objects s (with_change (with_value slot (after_checks slot (value_at s.objects me slot) checks)) s.objects me)) at s) listed)
  where
    checks : List Item
    checks = map (item_asking s.objects outline.found.request) (passed r outline.checks)
