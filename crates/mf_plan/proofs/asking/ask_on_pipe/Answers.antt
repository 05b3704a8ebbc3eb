use Rattle.mf_plan.proofs.asking.ask_on_pipe.Goals as goal

pub returns-in-Setpipemac-clause-row : goal.returns-in-Setpipemac-clause-row
returns-in-Setpipemac-clause-row c = rw c.in-Setpipemac.is c.relabel_named.ensures.row
