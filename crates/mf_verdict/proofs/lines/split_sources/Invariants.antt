use Rattle.std.proofs.Common.{take, length}
use Rattle.mf_verdict.proofs.Pieces.{ArePassed}
use Rattle.mf_verdict.proofs.Walks.{IsAt}
use Rattle.mf_verdict.proofs.lines.split_sources.Given as goal

abbrev pub invariant-loop-rest : goal.invariant-loop-rest
invariant-loop-rest l = record {
  place : IsAt l.text l.len l.rest;
  passed : ArePassed l.text (take l.len l.text) l.rest;
}

abbrev pub decreases-loop-rest : goal.decreases-loop-rest
decreases-loop-rest l = length l.rest
