use Rattle.std.proofs.Common.{◌≡◌, ◌+◌, ◌≤◌, true, length}
use Rattle.std.specs.Prelude.{IsTrue}
use Rattle.std.specs.List.{list_all}
use Rattle.mf_spelling.specs.Spelling.{is_line_byte}
use Rattle.mf_names.specs.declared.limits.TheConstants.{SCRIPT_LIMIT}
use Rattle.mf_script.specs.Grammar.{script_from, script_of}
use Rattle.mf_script.proofs.SoFar.{IsSoFar}
use Rattle.mf_script.proofs.reading.read_script.Given as goal

abbrev pub invariant-loop-line : goal.invariant-loop-line
invariant-loop-line l = record {
  so_far : script_from l.script l.place l.number l.lines ≡ script_of l.bytes;
  formed : IsSoFar l.script l.place;
  plain : IsTrue l.plain → list_all (λ line. list_all is_line_byte line) l.lines ≡ true;
  number : l.number + length l.lines ≤ SCRIPT_LIMIT + 1;
}

abbrev pub decreases-loop-line : goal.decreases-loop-line
decreases-loop-line l = length l.lines
