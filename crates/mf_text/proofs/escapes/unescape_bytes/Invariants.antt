use Rattle.std.proofs.Common.{◌≡◌, ◌≤◌, ◌-◌, length}
use Rattle.mf_text.specs.Escape.{bytes_from, bytes_of}
use Rattle.mf_text.proofs.Unescaping.{behind}
use Rattle.mf_text.proofs.escapes.unescape_bytes.Given as goal

abbrev pub invariant-loop-rest : goal.invariant-loop-rest
invariant-loop-rest l =
    record {
      read : behind l.bytes.items (bytes_from (length l.text - length l.rest) l.rest) ≡ bytes_of l.text;
      within : length l.rest ≤ length l.text;
    }

abbrev pub decreases-loop-rest : goal.decreases-loop-rest
decreases-loop-rest l = length l.rest
