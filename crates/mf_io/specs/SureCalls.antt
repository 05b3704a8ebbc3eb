-- What the calls of a sure source and a sure sink do.
use Rattle.std.specs.Prelude.{◌≡◌, ℕ, List, ◌++◌, length, take, drop, min, nat_le, if◌then◌else◌, Option, Some, None, Result, Ok}
use Rattle.mf_io.specs.declared.source.Failed.{Failed}
use Rattle.mf_io.specs.Sure.{SureStore}

-- A call that gave what fits of the bytes left.
pub record SureSupplies (before after buffer_before buffer_now : List ℕ) (result : Result ℕ Failed) : Type 0 where
  pub count : result ≡ Ok (min (length buffer_before) (length before))
  pub bytes : buffer_now ≡ take (length buffer_before) before ++ drop (length before) buffer_before
  pub leaves : after ≡ drop (length buffer_before) before

-- bytes that are known as long as they have room
abbrev pub told_within : ℕ → List ℕ → Option (List ℕ)
told_within room bytes = if nat_le (length bytes) room then Some bytes else None

-- what is known after a piece: nothing, once nothing was known
abbrev pub told_after : ℕ → Option (List ℕ) → List ℕ → Option (List ℕ)
told_after room None piece = None
told_after room (Some all) piece = told_within room (all ++ piece)

-- a sink after a piece
abbrev pub stored : SureStore → List ℕ → SureStore
stored s piece = record s { taken = told_after s.room s.taken piece }
