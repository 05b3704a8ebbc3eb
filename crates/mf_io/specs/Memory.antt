-- What a call of a source or a sink over memory does.
use Rattle.std.specs.Prelude.{◌≡◌, ◌⊎◌, ℕ, ◌-◌, ◌<◌, ◌≤◌, List, ◌++◌, length, take, drop, min, IsTrue}
use Rattle.mf_io.specs.declared.calls.Calls.{Calls}
use Rattle.mf_io.specs.Held.{Supply, Store}
use Rattle.mf_io.specs.Calls.{fails_next, one_more, one_fault_more}

-- how many bytes a call moves: the least of the call's most, the room of its buffer or the length of its piece, and what is there
abbrev pub moves : Calls → ℕ → ℕ → ℕ
moves c asked there = min (min c.most asked) there

-- A call that gave n bytes.
pub record Supplies (before after : Supply) (buffer_before buffer_now : List ℕ) (n : ℕ) : Type 0 where
  pub count : n ≡ moves before.calls (length buffer_before) (length before.left)
  pub bytes : buffer_now ≡ take n before.left ++ drop n buffer_before
  pub leaves : after ≡ record { left = drop n before.left; calls = one_more before.calls }

-- a call that failed
abbrev pub read_failed : Supply → Supply
read_failed s = record s { calls = one_fault_more (one_more s.calls) }

-- the write fails: by its number, or since nothing of a piece that isn't empty has room
abbrev pub Refuses : Store → List ℕ → Type 0
Refuses s piece = IsTrue (fails_next s.calls) ⊎ ((0 < length piece) × (s.room ≤ length s.taken))

-- A call that took n bytes.
pub record Stores (before after : Store) (piece : List ℕ) (n : ℕ) : Type 0 where
  pub count : n ≡ moves before.calls (length piece) (before.room - length before.taken)
  pub leaves : after ≡ record { taken = before.taken ++ take n piece; room = before.room; calls = one_more before.calls }

-- a call that failed
abbrev pub write_failed : Store → Store
write_failed s = record s { calls = one_fault_more (one_more s.calls) }
