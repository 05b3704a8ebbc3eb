use Rattle.std.proofs.Common.{◌+◌, ap, sym, ◌∙◌, arith}
use Rattle.mf_calls.specs.Generated.{next_in_sequence}
use Rattle.mf_calls.proofs.LoadSteps.{no_lines, first_number, number_plus, line_more}
use Rattle.mf_calls.proofs.generated.load_lines.Goals as goal

pub loop-line-init : goal.loop-line-init
loop-line-init c =
    record {
      so_far = c.new-lines.ensures ∙ sym (no_lines c.args.task);
      number = ap (λ n. n + 1) c.from-number.ensures ∙ sym (first_number c.args.task);
      below = omega (arith, c.from-number.ensures, c.requires);
    }

pub loop-line-preserved : goal.loop-line-preserved
loop-line-preserved c =
    record {
      so_far =
          line_more c.args.task c.loop-line._line c.loop-line.number c.next_in_sequence-number.result c.in_ok-call.call c.loop-line.lines c.push.new.self
          c.loop-line.invariant.so_far c.loop-line.invariant.number c.next_in_sequence-number.ensures.value c.in_ok-call.ensures c.in_ok-push.ensures.ok;
      number = c.next_in_sequence-number.ensures.value ∙ ap next_in_sequence c.loop-line.invariant.number ∙ sym (number_plus c.args.task c.loop-line._line);
      below = c.next_in_sequence-number.ensures.below;
    }
