use Rattle.mf_kernel_scenarios.proofs.tests.over_modules.Given as goal

abbrev pub ghosts-history_over-J-Job : goal.ghosts-history_over-J-Job
ghosts-history_over-J-Job g a = record { script = a.script.now; register = a.register }

abbrev pub ghosts-history_over-J-Ledger : goal.ghosts-history_over-J-Ledger
ghosts-history_over-J-Ledger g a = record { name = a.lines.name; parts = a.lines.parts }

abbrev pub ghosts-history_over-B-Ledger : goal.ghosts-history_over-B-Ledger
ghosts-history_over-B-Ledger g a = record { name = a.busy.name; parts = a.busy.parts }
