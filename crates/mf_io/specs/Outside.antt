-- What a source has left, what a sink has taken, and how often each has failed: this model's own view of read(2) and write(2).
use Rattle.std.specs.Prelude.{◌≡◌, ◌⊎◌, ℕ, ◌<◌, List, ◌++◌, take, Option, Some, None}

-- the greatest value of a count of 64 bits
abbrev pub last_count : ℕ
last_count = 18446744073709551615

-- the count of faults rose, or stands at its greatest value
abbrev pub HasRisen : ℕ → ℕ → Type 0
HasRisen before now = (before < now) ⊎ (now ≡ last_count)

-- What is seen of a source or a sink around a call: its bytes, where they are known, and its count of faults.
pub record Seen : Type 0 where
  pub before : Option (List ℕ)
  pub after : Option (List ℕ)
  pub faults_before : ℕ
  pub faults_after : ℕ

abbrev pub seen : {A : Type 0} → (A → Option (List ℕ)) → (A → ℕ) → A → A → Seen
seen told faults old new = record { before = told old; after = told new; faults_before = faults old; faults_after = faults new }

abbrev pub FaultsRose : Seen → Type 0
FaultsRose s = HasRisen s.faults_before s.faults_after

-- the count of faults stands where it stood: no call failed, unless the count is at its greatest value
abbrev pub HadNoFault : Seen → Type 0
HadNoFault s = s.faults_after ≡ s.faults_before

-- Where the sink's bytes are known before and now: the piece came behind them. Bytes that aren't known stay unknown.
abbrev pub Took : Option (List ℕ) → Option (List ℕ) → List ℕ → Type 0
Took None now piece = now ≡ None
Took (Some all) None piece = Unit {0}
Took (Some all) (Some more) piece = more ≡ all ++ piece

-- a beginning of the text came behind them
abbrev pub TookPart : Option (List ℕ) → Option (List ℕ) → List ℕ → Type 0
TookPart before now text = (n : ℕ) × Took before now (take n text)
