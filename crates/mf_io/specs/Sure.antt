-- What a call of a source or a sink over memory that never fails does: this model's own.
use Rattle.std.specs.Prelude.{ℕ, List, Some, Option}
use Rattle.mf_io.specs.Outside.{Seen}

-- what a sink that never fails has taken, as long as that is known, and how many bytes are known at most
pub record SureStore : Type 0 where
  pub taken : Option (List ℕ)
  pub room : ℕ

-- what is seen of them around a call: their bytes, and no faults
abbrev pub seen_source : List ℕ → List ℕ → Seen
seen_source old new = record { before = Some old; after = Some new; faults_before = 0; faults_after = 0 }

abbrev pub seen_sink : SureStore → SureStore → Seen
seen_sink old new = record { before = old.taken; after = new.taken; faults_before = 0; faults_after = 0 }
