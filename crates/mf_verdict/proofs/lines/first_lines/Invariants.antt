use Rattle.std.proofs.Common.{◌≡◌, take, drop}
use Rattle.std.specs.List.{concat}
use Rattle.mf_verdict.specs.Pieces.{pieces}
use Rattle.mf_verdict.proofs.Walks.{IsAt}
use Rattle.mf_verdict.proofs.lines.first_lines.Given as goal

abbrev pub invariant-loop-line : goal.invariant-loop-line
invariant-loop-line l = record {
  place : IsAt l.text l.len l.rest;
  passed : take l.len l.text ≡ concat (take l._line (pieces l.text));
  left : pieces l.rest ≡ drop l._line (pieces l.text);
}
