use Rattle.std.proofs.Common.{Option, ap, sym, ◌∙◌, arith}
use Rattle.mf_perform.specs.declared.verdict.Denial.{Denial}
use Rattle.mf_perform.specs.declared.verdict.Verdict.{Verdict}
use Rattle.mf_perform.proofs.Denials.{goes_on, stops}
use Rattle.mf_perform.proofs.verdict.verdict_of.Goals as goal

pub loop-place-preserved : goal.loop-place-preserved
loop-place-preserved g c =
    record {
      counts = omega (arith, c.loop-place.invariant.counts);
      so_far = c.loop-place.invariant.so_far
          ∙ goes_on c.args.list.now c.loop-place.number c.loop-place.place c.args.plan.now.items c.item.result c.ask-answer.result (omega arith) c.item.ensures
          c.ask-answer.ensures c.in-Success.is;
    }

pub returns-in_default : goal.returns-in_default
returns-in_default g c =
    ap {B = Verdict} (λ (denied : Option Denial). record { denied = denied })
    (sym (c.loop-place.invariant.so_far
    ∙ stops c.args.list.now c.loop-place.number c.loop-place.place c.args.plan.now.items c.item.result c.ask-answer.result (omega arith) c.item.ensures
    c.ask-answer.ensures c.in_default.not-Success))
