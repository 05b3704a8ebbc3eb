-- A valid label by its parts, for proofs that go by the cases of each.
use Rattle.std.proofs.Common.{Bool, Option}
use Rattle.mf_elem.specs.Label.{is_valid}
use Rattle.mf_elem.specs.declared.elem.Elem.{Elem}

abbrev pub is_valid_for : Option Elem → Option (Elem × Elem) → Bool
is_valid_for effective range = is_valid (record { effective = effective; range = range })
