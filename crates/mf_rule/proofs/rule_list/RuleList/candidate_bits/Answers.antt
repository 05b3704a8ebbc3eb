use Rattle.std.proofs.Common.{true, false, arith}
use Rattle.mf_rule.proofs.Candidates.{candidates_by_index}
use Rattle.mf_rule.proofs.rule_list.RuleList.candidate_bits.Goals as goal

pub returns-then-dir : goal.returns-then-dir
returns-then-dir c = rw (c.if-dir.true, ← c.self.view_is) (candidates_by_index c.self.inside.slots.items c.args.cred.now true c.self.inside.directories c.at_any.result c.self.invariant.4 (omega arith) (omega arith) (omega arith) c.at_any.ensures)

pub returns-else-dir : goal.returns-else-dir
returns-else-dir c = rw (c.if-dir.false, ← c.self.view_is) (candidates_by_index c.self.inside.slots.items c.args.cred.now false c.self.inside.files c.at_any-else-dir.result c.self.invariant.3 (omega arith) (omega arith) (omega arith) c.at_any-else-dir.ensures)
