-- The calls of a source or a sink over memory.
use Rattle.std.specs.Prelude.{ℕ, ◌+◌, Bool, ◌==◌, ◌&&◌, nat_lt, min}
use Rattle.std.specs.List.{list_any}
use Rattle.mf_io.specs.Outside.{last_count}
use Rattle.mf_io.specs.declared.calls.Calls.{Calls}

-- the next call is one of those that fail; calls count from 1, and no number of 64 bits names a call beyond the last
abbrev pub fails_next : Calls → Bool
fails_next c = nat_lt c.made last_count && list_any (λ number. number == c.made + 1) c.fails.items

-- a count of 64 bits after one more: it stays at its greatest value
abbrev pub counted : ℕ → ℕ
counted n = min (n + 1) last_count

-- after one call more
abbrev pub one_more : Calls → Calls
one_more c = record c { made = counted c.made }

-- after one fault more
abbrev pub one_fault_more : Calls → Calls
one_fault_more c = record c { faults = counted c.faults }
