use Rattle.std.specs.Str.{byte}
use Rattle.std.proofs.Common.{take}
use Rattle.mf_hist.specs.Found.{Lacks}
use Rattle.mf_verdict.proofs.lines.split_at_newline.Given as goal

abbrev pub invariant-loop-i : goal.invariant-loop-i
invariant-loop-i l = Lacks (byte "\n") (take l.i l.text)
