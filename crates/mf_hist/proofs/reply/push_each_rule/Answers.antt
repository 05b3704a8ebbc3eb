use Rattle.std.proofs.Common.{string_bytes, ap, ◌∙◌}
use Rattle.mf_hist.proofs.Numbered.{rule_pushed, none_pushed}
use Rattle.mf_hist.proofs.reply.push_each_rule.Goals as goal
use Rattle.mf_hist.proofs.reply.push_each_rule.Goals.{in-Some+in_ok-push_rule, in_default}

pub loop-number-preserved : goal.loop-number-preserved
loop-number-preserved c =
    let slots = c.args.rules.now in
    let items = c.as_slice-slot-items.result.now in
    let front = string_bytes c.args.out.now in
    let before = string_bytes c.loop-number.out in
    elim c.match-slot.branch [
      | in-Some+in_ok-push_rule w ↦
          rule_pushed slots items c.loop-number.number w.in-Some.rule front before (string_bytes c.match-slot.out) c.as_slice-slot-items.ensures.value c.loop-number-test.true w.in-Some.is c.loop-number.invariant
          (ap string_bytes w.out-is ∙ w.in_ok-push_rule.ensures.ok)
      | in_default w ↦
          ap string_bytes w.out-is
          ∙ none_pushed slots items c.loop-number.number front before c.as_slice-slot-items.ensures.value c.loop-number-test.true w.in_default.is c.loop-number.invariant
    ]
