use Rattle.mf_core.proofs.Entries.{policies_stay}
use Rattle.mf_core.proofs.entry_law.policies_stay_in_entries.Goals as goal

pub returns : goal.returns
returns c = policies_stay
