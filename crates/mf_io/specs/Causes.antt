-- What a call outside gives, and why it fails.
use Rattle.std.specs.Prelude.{◌≡◌, ℕ, ◌<◌, ◌≤◌, List, [], ◌++◌, take, Option, IfSome, IsSomeAnd, ◌↔◌, Result, OnOk, OnErr}
use Rattle.mf_io.specs.declared.source.Failed.{Failed}
use Rattle.mf_io.specs.Outside.{HasRisen}

-- A count of faults that doesn't fall, stays where the call didn't fail, and has risen where it failed.
pub record HasCause {T : Type 0} (before now : ℕ) (result : Result T Failed) : Type 0 where
  pub later : before ≤ now
  pub stays : OnOk result (now ≡ before)
  pub failed : OnErr result (HasRisen before now)

-- Where the source's bytes are known: n of them went to the front of the buffer, and none only at the end.
pub record Gave (before : Option (List ℕ)) (now : Option (List ℕ)) (room n : ℕ) (buffer : List ℕ) : Type 0 where
  pub fits : n ≤ room
  pub bytes : IfSome before (λ all. IsSomeAnd now (λ rest. all ≡ take n buffer ++ rest))
  pub last : IfSome before (λ all. 0 < room → (n ≡ 0) ↔ (all ≡ []))
