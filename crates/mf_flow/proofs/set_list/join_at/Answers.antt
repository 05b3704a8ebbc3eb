use Rattle.std.proofs.Common.{arith}
use Rattle.mf_flow.proofs.SetRows.{not_joined}
use Rattle.mf_flow.proofs.set_list.join_at.Goals as goal

pub returns-else-place-len-clause-ok : goal.returns-else-place-len-clause-ok
returns-else-place-len-clause-ok c =
    not_joined c.args.sets.now.items c.args.number c.args.given.now (omega (arith, c.if-place-len.false, c.len.ensures, c.args.sets.now.ok.0))
