use Rattle.mf_perform.proofs.Keeping.{call_keeps}
use Rattle.mf_perform.proofs.performing.perform.Goals as goal

pub returns-in-Some-clause-next : goal.returns-in-Some-clause-next
returns-in-Some-clause-next c = (call_keeps c.perform_by.result c.args.state.now c.perform_by.new.state c.in-Some.caller _ c.perform_by.ensures.ok c.perform_by.ensures.err).next

pub returns-in-Some-clause-rises : goal.returns-in-Some-clause-rises
returns-in-Some-clause-rises c = (call_keeps c.perform_by.result c.args.state.now c.perform_by.new.state c.in-Some.caller _ c.perform_by.ensures.ok c.perform_by.ensures.err).rises

pub returns-in-Some-clause-kept : goal.returns-in-Some-clause-kept
returns-in-Some-clause-kept c = (call_keeps c.perform_by.result c.args.state.now c.perform_by.new.state c.in-Some.caller _ c.perform_by.ensures.ok c.perform_by.ensures.err).kept
