use Rattle.std.proofs.Common.{◌≡◌, ◌<◌}
use Rattle.mf_calls.specs.Generated.{load_lines, number_at}
use Rattle.mf_calls.proofs.generated.load_lines.Given as goal

abbrev pub invariant-loop-line : goal.invariant-loop-line
invariant-loop-line l = record {
  so_far : l.lines ≡ load_lines l.task l._line;
  number : l.number ≡ number_at l.task l._line;
  below : l.number < 2147483648;
}
