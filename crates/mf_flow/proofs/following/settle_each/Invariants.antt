use Rattle.mf_flow.proofs.Becoming.{IsSettled, SoFar}
use Rattle.mf_flow.proofs.following.settle_each.Given as goal

abbrev pub invariant-loop-place : goal.invariant-loop-place
invariant-loop-place l = SoFar (IsSettled l.next l.objects l.found l.is_done) l.initial.flows.items l.flows.items l.place
