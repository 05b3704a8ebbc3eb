-- Going on with what was read, where there was no fault.
use Rattle.std.specs.Prelude.{Result, Ok, Err}

abbrev pub and_then : {A B E : Type 0} → Result A E → (A → Result B E) → Result B E
and_then (Ok x) more = more x
and_then (Err fault) more = Err fault

infixl 10 ◌>>=◌
abbrev pub ◌>>=◌ : {A B E : Type 0} → Result A E → (A → Result B E) → Result B E
read >>= more = and_then read more
