use Rattle.mf_labeltext.proofs.Cutting.{split_once_cuts}
use Rattle.mf_labeltext.proofs.splitting.split_once.Goals as goal

pub returns-clause-cut : goal.returns-clause-cut
returns-clause-cut c = split_once_cuts c.args.separator c.args.text.now c.split_once.result c.split_once.ensures.cases c.requires
