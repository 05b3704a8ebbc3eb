-- What a source and a sink over memory hold: this model's own.
use Rattle.std.specs.Prelude.{ℕ, List}
use Rattle.mf_io.specs.declared.calls.Calls.{Calls}

-- what a source has left
pub record Supply : Type 0 where
  pub left : List ℕ
  pub calls : Calls

-- what a sink has taken, and how many bytes it takes in all
pub record Store : Type 0 where
  pub taken : List ℕ
  pub room : ℕ
  pub calls : Calls
