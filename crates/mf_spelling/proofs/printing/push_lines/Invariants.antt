use Rattle.std.proofs.Common.{◌≡◌, ◌++◌, take, string_bytes}
use Rattle.mf_spelling.specs.Spelling.{line_pieces}
use Rattle.mf_spelling.specs.Canonical.{lines_text}
use Rattle.mf_spelling.proofs.printing.push_lines.Given as goal

abbrev pub invariant-loop-line : goal.invariant-loop-line
invariant-loop-line l = string_bytes l.out ≡ string_bytes l.fn.out ++ lines_text line_pieces (take l.line-index l.lines)
