use Rattle.std.proofs.Common.{rules}
use Rattle.mf_io.specs.Outside.{seen}
use Rattle.mf_top.proofs.FromSource.{read_of}
use Rattle.mf_top.proofs.read.read_source.Goals as goal

pub returns-clause-read : goal.returns-clause-read
returns-clause-read g c =
    read_of (seen g.S.Source.left g.S.Source.faults c.args.source.now c.read_all.new.source) c.in_ok-bytes.bytes.items
    (search rules) c.in_ok-bytes.ensures.whole c.in_ok-bytes.ensures.most c.in_ok-script.script (search rules)
