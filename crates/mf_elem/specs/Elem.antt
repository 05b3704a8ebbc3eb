-- Dominance of elements, and ranges, as mac_biba(4) and mac_mls(4) have them. That elements of one level have the same
-- compartments too is this model's own choice.
use Rattle.std.specs.Prelude.{Bool, true, false, nat_le, ◌&&◌}
use Rattle.std.specs.FinSet as set
use Rattle.mf_elem.specs.Comps.{compartments_of}
use Rattle.mf_elem.specs.declared.elem.Elem.{Elem}
use Rattle.mf_elem.specs.declared.elem.Elem.TheVariants.{Low, High, Equal, Grade}

-- Whether the first element dominates the second. A grade dominates those that are no greater, with no compartment more.
abbrev pub dominates : Elem → Elem → Bool
dominates Equal other = true
dominates element Equal = true
dominates High other = true
dominates element Low = true
dominates (Grade grade comps) (Grade other others) = nat_le other grade && set.is_subset (compartments_of others) (compartments_of comps)
dominates element other = false

abbrev pub is_equal : Elem → Bool
is_equal Equal = true
is_equal other = false

-- whether an element has no compartments, as those of mac_lomac
abbrev pub is_plain : Elem → Bool
is_plain (Grade grade comps) = set.is_subset (compartments_of comps) set.empty
is_plain other = true

-- Whether two elements are of the same level: each dominates the other, as where one is equal, or they are the same, their compartments too.
abbrev pub same_level : Elem → Elem → Bool
same_level a b = dominates a b && dominates b a

abbrev pub in_range : Elem → Elem → Elem → Bool
in_range element low high = dominates high element && dominates element low

abbrev pub range_in_range : Elem → Elem → Elem → Elem → Bool
range_in_range inner_low inner_high low high = dominates high inner_high && dominates inner_low low
