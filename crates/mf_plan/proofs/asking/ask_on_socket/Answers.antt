use Rattle.std.proofs.Common.{sym}
use Rattle.mf_plan.proofs.asking.ask_on_socket.Goals as goal

pub returns-in-Setsockmac-clause-row : goal.returns-in-Setsockmac-clause-row
returns-in-Setsockmac-clause-row c = rw c.in-Setsockmac.is c.relabel_named.ensures.row

pub returns-in-Send-clause-row : goal.returns-in-Send-clause-row
returns-in-Send-clause-row c = rw (c.in-Send.is, sym c.get.ensures) c.send.ensures.row
