use Rattle.std.proofs.Common.{rules}
use Rattle.mf_top.proofs.Whole.{run_is}
use Rattle.mf_top.proofs.text.whole_text.Goals as goal

pub returns : goal.returns
returns c =
    let history = c.history-history.ensures in
    (run_is c.args.core.now.script c.args.core.now.history history.formed history.legal (history.complete c.requires.entries c.requires.lines), search rules)
