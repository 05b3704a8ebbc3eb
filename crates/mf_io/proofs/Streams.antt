-- What a reader gives, a source over it gives.
use Rattle.std.proofs.Common.{◌≡◌, ℕ, ◌≤◌, ◌<◌, List, ◌++◌, length, take, Option, Some, None, sym, ◌∙◌, ap, arith, length-take}
use Rattle.std.proofs.lemmas.List.{length-append}
use Rattle.std.specs.Io.KnownBytes.{Consumes, IsAtEnd}
use Rattle.mf_io.specs.Causes.{Gave}

pub gave_of_read : (before now : Option (List ℕ)) (room n : ℕ) (buffer : List ℕ) → n ≤ room → length buffer ≡ room
    → Consumes before now (take n buffer) → (n ≡ 0 → 0 < length buffer → IsAtEnd now) → Gave before now room n buffer
gave_of_read None now room n buffer fits len consumes end = record { fits = fits; bytes = tt; last = tt }
gave_of_read (Some all) None room n buffer fits len consumes end = absurd consumes
gave_of_read (Some all) (Some rest) room n buffer fits len consumes end = record {
  fits = fits;
  bytes = consumes;
  last = λ some. (
    λ z. consumes ∙ (ap (λ k. take k buffer ++ rest) z ∙ end z (omega (arith, some, len))),
    λ e. let z : length (take n buffer ++ rest) ≡ 0 = ap length (sym consumes ∙ e) in omega (arith, z, len, fits, length-take n buffer, length-append (take n buffer) rest),
  );
}
