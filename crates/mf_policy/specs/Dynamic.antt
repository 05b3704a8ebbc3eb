-- Which list an entry stands in.
use Rattle.std.specs.Prelude.{Bool, not}
use Rattle.mf_policy.specs.Registration.{Entry}

-- whether the entry is in the dynamic list
abbrev pub is_dynamic : Entry → Bool
is_dynamic entry = not entry.0.fixed
