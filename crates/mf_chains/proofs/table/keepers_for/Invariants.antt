use Rattle.mf_chains.proofs.Listing.{HasKeepers}
use Rattle.mf_chains.proofs.table.keepers_for.Given as goal

abbrev pub invariant-loop-past : goal.invariant-loop-past
invariant-loop-past l = HasKeepers l.script l.history l.booted l.past-index l.most l.keepers
