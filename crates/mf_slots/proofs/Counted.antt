-- How many values each zone has.
use Rattle.std.proofs.Common.{◌≡◌, ℕ, ◌<◌, ◌≤◌, List, [], Option, get_or, set, length, sym, ap, ◌∙◌, subst, count_by, is_some, ◌+◌, Some, None, OnSome, IfNone, arith}
use Rattle.std.proofs.lemmas.List.{length-map}
use Rattle.std.proofs.lemmas.List.Elements.{All-set, All-get_or}
use Rattle.slab.specs.Slab.{Slab, slab_len}
use Rattle.mf_elem.specs.declared.label.LabelValue.{LabelValue}
use Rattle.mf_slots.specs.declared.zones.TheConstants.{MOST_HELD}
use Rattle.mf_slots.specs.Zones.{Zone, Contents, NoneOverfull, value_count}
use Rattle.mf_slots.proofs.Places.{seen, seen_at, seen_set}

-- one zone of a slot
pub counted_at : (slabs : List (Slab LabelValue)) (i : ℕ) (zone : Slab LabelValue) → i < length slabs → get_or slabs i zone ≡ zone → value_count (seen slabs) i ≡ slab_len zone
counted_at slabs i zone within is =
    ap (λ (z : Zone). count_by is_some z) (seen_at slabs i zone within ∙ ap (λ (s : Slab LabelValue). s.slots) is)

pub few_set : (slabs : List (Slab LabelValue)) (i : ℕ) (new : Slab LabelValue) → slab_len new ≤ MOST_HELD → NoneOverfull (seen slabs) → NoneOverfull (seen (set slabs i new))
few_set slabs i new most few =
    subst NoneOverfull (sym (seen_set slabs i new)) (All-set (λ (z : Zone). count_by is_some z ≤ MOST_HELD) (seen slabs) i new.slots most few)

-- a zone of a slot isn't overfull
pub few_at : (slabs : List (Slab LabelValue)) (i : ℕ) (zone : Slab LabelValue) → i < length slabs → get_or slabs i zone ≡ zone → NoneOverfull (seen slabs) → slab_len zone ≤ MOST_HELD
few_at slabs i zone within is few =
    let long : i < length (seen slabs) = subst (λ (n : ℕ). i < n) (sym (length-map slabs (λ (s : Slab LabelValue). s.slots))) within in
    let most : value_count (seen slabs) i ≤ MOST_HELD = All-get_or (λ (z : Zone). count_by is_some z ≤ MOST_HELD) (seen slabs) i [] long few in
    subst (λ (n : ℕ). n ≤ MOST_HELD) (counted_at slabs i zone within is) most

-- one zone that became another, which isn't overfull where it wasn't
pub few_changed : (slabs : List (Slab LabelValue)) (i : ℕ) (old new : Slab LabelValue) → i < length slabs → get_or slabs i old ≡ old
    → (slab_len old ≤ MOST_HELD → slab_len new ≤ MOST_HELD) → NoneOverfull (seen slabs) → NoneOverfull (seen (set slabs i new))
few_changed slabs i old new within is most few = few_set slabs i new (most (few_at slabs i old within is few)) few

-- the same zones, seen the same
pub few_same : (zones zones' : Contents) → zones ≡ zones' → NoneOverfull zones → NoneOverfull zones'
few_same zones zones' same few = subst NoneOverfull same few

-- a zone that may have lost a value
pub few_left : (old new : Slab LabelValue) (removed : Option LabelValue) → OnSome removed (slab_len new + 1 ≡ slab_len old) → IfNone removed (new ≡ old)
    → slab_len old ≤ MOST_HELD → slab_len new ≤ MOST_HELD
few_left old new None len same few = subst (λ (s : Slab LabelValue). slab_len s ≤ MOST_HELD) (sym same) few
few_left old new (Some v) len same few = omega (arith, len, few)
