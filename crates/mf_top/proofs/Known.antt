-- What a source that tells its bytes held.
use Rattle.std.proofs.Common.{◌≡◌, ℕ, List, [], Option, Some, None, subst}
use Rattle.std.specs.Prelude.{IfSome}
use Rattle.mf_io.specs.Outside.{Seen}
use Rattle.mf_top.specs.Reading.{IsWhole, Held}

told_by : (before after : Option (List ℕ)) (AreSo : List ℕ → Type 0) (bytes : List ℕ) → IsWhole before after bytes → AreSo bytes → IfSome before (λ all. AreSo all × (after ≡ Some []))
told_by None after AreSo bytes whole are = tt
told_by (Some all) after AreSo bytes whole are = (subst AreSo whole.0 are, whole.1)

pub known : (source : Seen) (AreSo : List ℕ → Type 0) → Held source AreSo → IfSome source.before (λ all. AreSo all × (source.after ≡ Some []))
known source AreSo held = told_by source.before source.after AreSo held.0 held.1 held.2
