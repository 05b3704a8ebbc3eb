use Rattle.std.proofs.Common.{rules, string_bytes}
use Rattle.mf_top.proofs.Whole.{stepped_is}
use Rattle.mf_top.proofs.text.add_sources.Goals as goal

pub returns-clause-made : goal.returns-clause-made
returns-clause-made c =
    stepped_is c.args.core.now.script c.args.core.now.history (string_bytes c.args.text.now) (string_bytes c.print_sources.new.out) c.history.ensures.formed c.history.ensures.legal c.requires.taken
    (search rules)
