use Rattle.std.proofs.Common.{◌≡◌, ◌+◌, ◌≤◌, length, take, drop}
use Rattle.mf_verdict.specs.Pieces.{pieces}
use Rattle.mf_verdict.proofs.lines.first_difference.Given as goal

abbrev pub invariant-lines : goal.invariant-lines
invariant-lines l = record {
  passed : take l.same (pieces l.fn.text) ≡ take l.same (pieces l.fn.other);
  text_left : pieces l.left ≡ drop l.same (pieces l.fn.text);
  other_left : pieces l.right ≡ drop l.same (pieces l.fn.other);
  within : l.same + length l.left ≤ length l.fn.text;
}

abbrev pub decreases-lines : goal.decreases-lines
decreases-lines l = length l.left
