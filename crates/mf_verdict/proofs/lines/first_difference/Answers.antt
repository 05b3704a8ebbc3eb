use Rattle.std.proofs.Common.{◌≡◌, ◌≢◌, ◌∙◌, [], ap, sym, arith}
use Rattle.mf_verdict.specs.Pieces.{pieces}
use Rattle.mf_hist.proofs.ReadLines.{empty, nonempty}
use Rattle.mf_verdict.proofs.Newlines.{apart, decided, some_len}
use Rattle.mf_verdict.proofs.Walks.{agrees, differs, line_none, next_is, same_text, some_within}
use Rattle.mf_verdict.proofs.lines.first_difference.Goals as goal

pub returns-then-ne-clause-difference : goal.returns-then-ne-clause-difference
returns-then-ne-clause-difference c =
    differs (pieces c.args.text.now) (pieces c.args.other.now) c.lines.same c.split_line.result.0.now c.split_line.result.1.now
    c.split_line-in-lines.result.0.now c.split_line-in-lines.result.1.now c.lines.invariant.passed
    (next_is (pieces c.args.text.now) c.lines.same c.lines.left.now c.split_line.result.0.now c.split_line.result.1.now c.lines.invariant.text_left c.split_line.ensures.first)
    (next_is (pieces c.args.other.now) c.lines.same c.lines.right.now c.split_line-in-lines.result.0.now c.split_line-in-lines.result.1.now c.lines.invariant.other_left c.split_line-in-lines.ensures.first)
    (apart c.split_line.result.0.now c.split_line-in-lines.result.0.now c.if-ne.ensures)

pub returns-then-is_empty-clause-difference : goal.returns-then-is_empty-clause-difference
returns-then-is_empty-clause-difference c =
    let none : c.split_line.result.0.now ≡ [] = empty c.split_line.result.0.now c.if-is_empty.ensures in
    let nothing : c.split_line-in-lines.result.0.now ≡ [] = sym (decided c.split_line.result.0.now c.split_line-in-lines.result.0.now c.if-ne.ensures) ∙ none in
    same_text c.args.text.now c.args.other.now c.lines.same c.lines.invariant.passed
    (sym (ap pieces (line_none c.lines.left.now c.split_line.result.0.now c.split_line.result.1.now c.split_line.ensures.first none)) ∙ c.lines.invariant.text_left)
    (sym (ap pieces (line_none c.lines.right.now c.split_line-in-lines.result.0.now c.split_line-in-lines.result.1.now c.split_line-in-lines.ensures.first nothing)) ∙ c.lines.invariant.other_left)

pub lines-preserved : goal.lines-preserved
lines-preserved c =
    let equal : c.split_line.result.0.now ≡ c.split_line-in-lines.result.0.now = decided c.split_line.result.0.now c.split_line-in-lines.result.0.now c.if-ne.ensures in
    let some : c.split_line.result.0.now ≢ [] = nonempty c.split_line.result.0.now c.if-is_empty.ensures in
    let next = next_is (pieces c.args.text.now) c.lines.same c.lines.left.now c.split_line.result.0.now c.split_line.result.1.now c.lines.invariant.text_left c.split_line.ensures.first in
    let second = next_is (pieces c.args.other.now) c.lines.same c.lines.right.now c.split_line-in-lines.result.0.now c.split_line-in-lines.result.1.now c.lines.invariant.other_left c.split_line-in-lines.ensures.first in
    record {
      passed = agrees (pieces c.args.text.now) (pieces c.args.other.now) c.lines.same c.split_line.result.0.now c.split_line.result.1.now
          c.split_line-in-lines.result.0.now c.split_line-in-lines.result.1.now c.lines.invariant.passed
          (some_within (pieces c.args.text.now) c.lines.same c.lines.left.now c.split_line.result.0.now c.split_line.result.1.now c.lines.invariant.text_left c.split_line.ensures.first some)
          (some_within (pieces c.args.other.now) c.lines.same c.lines.right.now c.split_line-in-lines.result.0.now c.split_line-in-lines.result.1.now c.lines.invariant.other_left
          c.split_line-in-lines.ensures.first (λ e. some (equal ∙ e)))
          next second equal;
      text_left = next.left;
      other_left = second.left;
      within = omega (arith, some_len c.split_line.result.0.now some, c.split_line.ensures.all, c.lines.invariant.within);
    }
