-- Label values in zones: one zone for each slot number, in which each value lies under a handle.
use Rattle.std.specs.Prelude.{◌≡◌, ◌≢◌, ℕ, ◌<◌, List, [], ◌∷◌, Option, Some, None, IsSome, is_some, count_by, All, ◌≤◌, slice_index_or}
use Rattle.slab.specs.Slab.{Slab, HasRoomFor, slab_len}
use Rattle.mf_elem.specs.declared.label.LabelValue.{LabelValue}
use Rattle.mf_elem.specs.declared.label.TheConstants.{SLOTS}
use Rattle.mf_elem.specs.declared.label.LabelValue.TheVariants.{Unset}
use Rattle.mf_slots.specs.declared.zones.TheConstants.{MOST_HELD}

-- a label: the handle of each slot that is made
abbrev pub Handles : Type 0
Handles = List (Option ℕ)

-- what a zone has under each handle
abbrev pub Zone : Type 0
Zone = List (Option LabelValue)

-- the zones of the slots
abbrev pub Contents : Type 0
Contents = List Zone

-- the handle of a slot, where it is made
abbrev pub handle : Handles → ℕ → Option ℕ
handle label slot = slice_index_or label slot None

-- what a zone has under a handle
abbrev pub at_handle : Zone → ℕ → Option LabelValue
at_handle zone h = slice_index_or zone h None

-- the zone of a slot
abbrev pub zone_of : Contents → ℕ → Zone
zone_of zones slot = slice_index_or zones slot []

-- what the zone of a slot has under a handle
abbrev pub under : Contents → ℕ → ℕ → Option LabelValue
under zones slot h = at_handle (zone_of zones slot) h

-- how many values lie in the zone of a slot
abbrev pub value_count : Contents → ℕ → ℕ
value_count zones slot = count_by is_some (zone_of zones slot)

-- no zone has more values than it may
abbrev pub NoneOverfull : Contents → Type 0
NoneOverfull zones = All (λ zone. count_by is_some zone ≤ MOST_HELD) zones

-- no value in the zones is Unset: a slot is Unset where it isn't made
pub record NoneUnset (zones : Contents) : Type 0 where
  pub each : (slot h : ℕ) → under zones slot h ≢ Some Unset

-- the zone of this slot has this under the handle, and all else is as before
pub record Writes (zones zones' : Contents) (slot h : ℕ) (v : Option LabelValue) : Type 0 where
  pub changed : under zones' slot h ≡ v
  pub others : (s k : ℕ) → (s ≡ slot → k ≡ h → ⊥) → under zones' s k ≡ under zones s k

-- no handle, or one under which the zone has a value
abbrev pub IsIn : Zone → Option ℕ → Type 0
IsIn zone None = Unit {0}
IsIn zone (Some h) = IsSome (at_handle zone h)

-- no slot, or one whose value lies in these zones
abbrev pub IsHeldAt : Contents → ℕ → Option ℕ → Type 0
IsHeldAt zones slot key = IsIn (zone_of zones slot) key

-- a slot whose value lies in these zones
abbrev pub IsMadeAt : Contents → ℕ → Option ℕ → Type 0
IsMadeAt zones slot None = ⊥
IsMadeAt zones slot (Some h) = IsSome (under zones slot h)

-- the value of every made slot of the label lies in these zones
pub record IsHeld (zones : Contents) (label : Handles) : Type 0 where
  pub each : (slot : ℕ) → slot < SLOTS → IsHeldAt zones slot (handle label slot)

abbrev pub value_or_unset : Option LabelValue → LabelValue
value_or_unset None = Unset
value_or_unset (Some v) = v

-- what a zone has under the handle of a slot, and Unset where the slot isn't made
abbrev pub held_in : Zone → Option ℕ → LabelValue
held_in zone None = Unset
held_in zone (Some h) = value_or_unset (at_handle zone h)

abbrev pub value_under : Contents → ℕ → Option ℕ → LabelValue
value_under zones slot key = held_in (zone_of zones slot) key

-- the value of a label's slot, Unset where the slot isn't made
abbrev pub slot_value : Contents → Handles → ℕ → LabelValue
slot_value zones label slot = value_under zones slot (handle label slot)

-- the values of the four slots of a label
unfoldable pub label_values : Contents → Handles → List LabelValue
label_values zones label = slot_value zones label 0 ∷ slot_value zones label 1 ∷ slot_value zones label 2 ∷ slot_value zones label 3 ∷ []

-- one of the values of a label
abbrev pub value_for : List LabelValue → ℕ → LabelValue
value_for values slot = slice_index_or values slot Unset

-- a slot of the label is made, under a handle that was free
pub record Makes (zones zones' : Contents) (label label' : Handles) (slot : ℕ) (v : LabelValue) : Type 0 where
  pub new : ℕ
  pub was_free : under zones slot new ≡ None
  pub writes : Writes zones zones' slot new (Some v)
  pub here : handle label' slot ≡ Some new
  pub elsewhere : (s : ℕ) → s ≢ slot → handle label' s ≡ handle label s

-- a made slot of the label has this value, and all else is as before
abbrev pub SetsAt : Contents → Contents → ℕ → Option ℕ → LabelValue → Type 0
SetsAt zones zones' slot None v = ⊥
SetsAt zones zones' slot (Some h) v = Writes zones zones' slot h (Some v)

-- the value under this handle of a slot, if there is one, is freed, and all else is as before
pub record Frees (zones zones' : Contents) (slot : ℕ) (key : Option ℕ) : Type 0 where
  pub freed : (h : ℕ) → key ≡ Some h → under zones' slot h ≡ None
  pub others : (s k : ℕ) → (s ≡ slot → key ≡ Some k → ⊥) → under zones' s k ≡ under zones s k

-- all values of the label are freed, and all else is as before
pub record GivesUp (zones zones' : Contents) (label : Handles) : Type 0 where
  pub freed : (slot h : ℕ) → slot < SLOTS → handle label slot ≡ Some h → under zones' slot h ≡ None
  pub others : (s k : ℕ) → (s < SLOTS → handle label s ≡ Some k → ⊥) → under zones' s k ≡ under zones s k

-- Whole labels

-- the zone has this under the handle, and all else is as before
pub record Updates (zone zone' : Zone) (h : ℕ) (v : Option LabelValue) : Type 0 where
  pub changed : at_handle zone' h ≡ v
  pub others : (k : ℕ) → k ≢ h → at_handle zone' k ≡ at_handle zone k

-- the value is under a handle that was free, and all else is as before
pub record Adds (zone zone' : Zone) (key : Option ℕ) (v : LabelValue) : Type 0 where
  pub new : ℕ
  pub here : key ≡ Some new
  pub was_free : at_handle zone new ≡ None
  pub updates : Updates zone zone' new (Some v)

-- A slot that has the first handle gets this value, and then has the second handle: a made slot keeps its handle, and never becomes Unset; one
-- that isn't made gets a free handle, and none for Unset.
abbrev pub Rewrites : Zone → Zone → Option ℕ → Option ℕ → LabelValue → Type 0
Rewrites zone zone' None key Unset = (zone' ≡ zone) × (key ≡ None)
Rewrites zone zone' None key v = Adds zone zone' key v
Rewrites zone zone' (Some h) key Unset = ⊥
Rewrites zone zone' (Some h) key v = Updates zone zone' h (Some v) × (key ≡ Some h)

-- the new value of a slot with an old one: Unset leaves it the old one
abbrev pub given : LabelValue → LabelValue → LabelValue
given Unset old = old
given new old = new

-- the values of a label that is given new ones, slot by slot
unfoldable pub given_to : List LabelValue → List LabelValue → List LabelValue
given_to values label =
    given (value_for values 0) (value_for label 0)
    ∷ given (value_for values 1) (value_for label 1)
    ∷ given (value_for values 2) (value_for label 2)
    ∷ given (value_for values 3) (value_for label 3)
    ∷ []

-- every slot of the label gets its value of these
pub record Relabels (zones zones' : Contents) (label label' : Handles) (values : List LabelValue) : Type 0 where
  pub each : (slot : ℕ) → Rewrites (zone_of zones slot) (zone_of zones' slot) (handle label slot) (handle label' slot) (value_for values slot)

-- a label with these values is made: each slot under a handle that was free, and none where the value is Unset
pub record MakesLabel (zones zones' : Contents) (label : Handles) (values : List LabelValue) : Type 0 where
  pub made : (slot : ℕ) → slot_value zones' label slot ≡ value_for values slot
  pub unset : (slot : ℕ) → value_for values slot ≡ Unset → handle label slot ≡ None
  pub held : (slot h : ℕ) → handle label slot ≡ Some h → IsSome (under zones' slot h)
  pub was_free : (slot h : ℕ) → handle label slot ≡ Some h → under zones slot h ≡ None
  pub others : (slot h : ℕ) → (handle label slot ≡ Some h → ⊥) → under zones' slot h ≡ under zones slot h

-- the value is Unset, or the handle is there for it
abbrev pub IsMadeFor : Option ℕ → LabelValue → Type 0
IsMadeFor key Unset = Unit {0}
IsMadeFor key v = IsSome key

-- each slot that gets a value is made
abbrev pub AreMade : Handles → List LabelValue → Type 0
AreMade label values = (slot : ℕ) → slot < SLOTS → IsMadeFor (handle label slot) (value_for values slot)

-- one value more can be written without an allocation
abbrev pub HasRoomForOne : Slab LabelValue → Type 0
HasRoomForOne zone = HasRoomFor zone 1 × (slab_len zone < MOST_HELD)

-- the value can be written without an allocation
abbrev pub HasRoomToWrite : Slab LabelValue → Option ℕ → LabelValue → Type 0
HasRoomToWrite zone (Some h) v = Unit {0}
HasRoomToWrite zone None Unset = Unit {0}
HasRoomToWrite zone None v = HasRoomForOne zone
