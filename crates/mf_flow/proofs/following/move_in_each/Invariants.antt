use Rattle.std.proofs.Common.{◌≡◌, map}
use Rattle.std.specs.Option.{option_copied}
use Rattle.mf_objects.specs.declared.descriptors.Fd.{Fd}
use Rattle.mf_plan.specs.Outline.{item_of}
use Rattle.mf_flow.specs.Rows.{flow_moved}
use Rattle.mf_flow.proofs.Becoming.{SoFar}
use Rattle.mf_flow.proofs.following.move_in_each.Given as goal

abbrev pub invariant-loop-place : goal.invariant-loop-place
invariant-loop-place l = SoFar (λ f new. new ≡ flow_moved l.state (option_copied {T = Fd} l.fd) (map (item_of l.state.objects) l.checks) f) l.initial.flows.items l.flows.items l.place
