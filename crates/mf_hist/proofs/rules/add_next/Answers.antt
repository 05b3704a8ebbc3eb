use Rattle.mf_hist.proofs.Semicolons.{texts, adds, adds_none, less_words}
use Rattle.mf_hist.proofs.rules.add_next.Goals as goal

pub returns-in-Err-clause-value : goal.returns-in-Err-clause-value
returns-in-Err-clause-value c =
    adds_none c.in-Err.unread c.in_ok-front.more c.args.rules.now c.args.words.now c.in_ok-front.front.items c.as_slice.result.now c.up_to_semicolon.new.words c.in_ok-front.ensures
    c.in-Err.ensures c.as_slice.ensures.value

pub returns : goal.returns
returns c = record {
  value = adds c.in_ok-front.more c.args.rules.now c.add_rule.new.rules c.args.words.now c.in_ok-front.front.items c.as_slice.result.now c.up_to_semicolon.new.words c.in_ok-front.ensures
      c.in-Ok.ensures c.as_slice.ensures.value;
  less = less_words c.in_ok-front.more (texts c.in_ok-front.front.items) c.args.words.now c.up_to_semicolon.new.words c.in_ok-front.ensures;
}
