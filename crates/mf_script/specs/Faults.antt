-- The numbers and names of the faults of a script, as docs/ERRORS.md lists them.
use Rattle.std.specs.Prelude.{ℕ, List, codes}
use Rattle.mf_script.specs.declared.error.ScriptFault.{ScriptFault}
use Rattle.mf_script.specs.declared.error.ScriptFault.TheVariants as fault

abbrev pub fault_row : ScriptFault → ℕ × List ℕ
fault_row fault.NotText = (1, codes "NotText")
fault_row fault.UnknownWord = (2, codes "UnknownWord")
fault_row fault.Missing = (3, codes "Missing")
fault_row fault.Extra = (4, codes "Extra")
fault_row fault.BadNumber = (5, codes "BadNumber")
fault_row fault.BadLabel = (6, codes "BadLabel")
fault_row fault.BadRule = (7, codes "BadRule")
fault_row fault.BadPath = (8, codes "BadPath")
fault_row fault.Duplicate = (9, codes "Duplicate")
fault_row fault.NoEnd = (10, codes "NoEnd")
fault_row fault.TooMany = (11, codes "TooMany")
fault_row fault.BootRefused = (12, codes "BootRefused")
fault_row fault.BadText = (13, codes "BadText")

abbrev pub fault_number : ScriptFault → ℕ
fault_number fault = (fault_row fault).0

abbrev pub fault_name : ScriptFault → List ℕ
fault_name fault = (fault_row fault).1
