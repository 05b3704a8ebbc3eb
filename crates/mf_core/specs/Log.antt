-- The events of a history, and how many of them there is room for: this model's own.
use Rattle.std.specs.Prelude.{ℕ, List}
use Rattle.mf_core.specs.declared.history.Event.{Event}

pub record Log : Type 0 where
  pub list : List Event
  pub room : ℕ
