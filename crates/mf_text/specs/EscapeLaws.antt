-- Where an escape is faulty, and that an escaped text stands for its bytes.
use Rattle.std.specs.Prelude.{◌≡◌, ℕ, ◌+◌, ◌-◌, ◌<◌, List, length, Result, Ok, Err}
use Rattle.std.specs.List.{AllByRecursion}
use Rattle.mf_text.specs.declared.escapes.TextFault.{TextFault}
use Rattle.mf_text.specs.declared.escapes.TextFault.TheVariants.{BadEscape, Memory}
use Rattle.mf_text.specs.Escape.{bytes_from, bytes_of, escaped, with_first}

-- the text begins with a bad escape, wherever it stands
abbrev pub BeginsWithBadEscape : List ℕ → Type 0
BeginsWithBadEscape text = (place : ℕ) → bytes_from place text ≡ Err place

-- the text stands for this byte and then for what the rest stands for, which is the end of it
abbrev pub StandsForByteThen : List ℕ → ℕ → List ℕ → Type 0
StandsForByteThen text byte rest =
    (place : ℕ) → bytes_from place text ≡ with_first byte (bytes_from (place + (length text - length rest)) rest)

-- a fault other than that memory ran out, at the place that reading gives
abbrev pub IsFaultOf : TextFault → Result (List ℕ) ℕ → Type 0
IsFaultOf (BadEscape place) read = read ≡ Err place
IsFaultOf Memory read = Unit {0}

-- What the escaped text of bytes stands for are these bytes.
abbrev pub EscapedTextStandsForItsBytes : Type 0
EscapedTextStandsForItsBytes = (bytes : List ℕ) → AllByRecursion (λ byte. byte < 256) bytes → bytes_of (escaped bytes) ≡ Ok bytes
