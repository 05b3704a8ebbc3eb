use Rattle.std.proofs.Common.{sym}
use Rattle.mf_errno.proofs.Modules.{no_name}
use Rattle.mf_errno.proofs.module.Module.from_name.Goals as goal

pub returns-in_default : goal.returns-in_default
returns-in_default c =
    let other = c.in_default in
    sym (no_name c.args.name.now
    (other.not-mac_biba, (other.not-mac_mls, (other.not-mac_lomac, (other.not-mac_partition, (other.not-mac_bsdextended, (other.not-mac_priority, (other.not-mac_seeotheruids, (other.not-mac_portacl, tt)))))))))
