use Rattle.mf_chains.proofs.Traced.{IsTraced}
use Rattle.mf_chains.proofs.tracing.leads.Given as goal

abbrev pub invariant-loop-place : goal.invariant-loop-place
invariant-loop-place l = IsTraced l.fn.past l.fn.party l.fn.element l.fn.chain l.place l.end l.left
