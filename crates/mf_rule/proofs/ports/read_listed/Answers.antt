use Rattle.mf_rule.proofs.PortRules.{text_fails, text_adds, texts_end}
use Rattle.mf_rule.proofs.ports.read_listed.Goals as goal

pub returns-then-not-add_rule : goal.returns-then-not-add_rule
returns-then-not-add_rule c = text_fails c.loop-first.rules _ c.in-Some.first.now _ _ c.in-Some.ensures.parted c.loop-first.invariant.so_far c.if-not-add_rule.ensures

pub loop-first-preserved : goal.loop-first-preserved
loop-first-preserved c = record {
  so_far = text_adds c.loop-first.rules _ c.in-Some.first.now _ c.add_rule.new.rules _ c.in-Some.ensures.parted c.loop-first.invariant.so_far c.if-not-add_rule.ensures;
  text = search;
}

pub returns-then-add_rule : goal.returns-then-add_rule
returns-then-add_rule c =
    texts_end c.loop-first.rules _ c.loop-first.rest.now c.add_rule-2.new.rules _ c.in_default.ensures.parted c.loop-first.invariant.so_far c.if-add_rule.ensures

pub returns-else-add_rule : goal.returns-else-add_rule
returns-else-add_rule c = text_fails c.loop-first.rules _ c.loop-first.rest.now _ _ c.in_default.ensures.parted c.loop-first.invariant.so_far c.if-add_rule.ensures
