use Rattle.mf_labeltext.proofs.Cutting.{split_once_cuts}
use Rattle.mf_script.proofs.Added.{split_once_parts}
use Rattle.mf_script.proofs.parts.split_at.Goals as goal

pub returns-clause-parted : goal.returns-clause-parted
returns-clause-parted c = split_once_parts c.args.separator c.args.text.now c.split_once.result c.requires c.split_once.ensures.cases

pub returns-clause-cut : goal.returns-clause-cut
returns-clause-cut c = split_once_cuts c.args.separator c.args.text.now c.split_once.result c.split_once.ensures.cases c.requires
