-- The outline of a call: its plan before anyone is lowered, with what was found on the way.
use Rattle.std.specs.Prelude.{◌≡◌, ℕ, IfSome, IsSome, List, Option}
use Rattle.mf_objects.specs.Live.{live_at}
use Rattle.mf_calls.specs.declared.script.Call.{Call}
use Rattle.mf_plan.specs.declared.outline.Outline.{Outline}
use Rattle.mf_plan.specs.declared.plan.Tail.TheVariants.{Do}
use Rattle.mf_plan.specs.declared.state.State.{State}
use Rattle.mf_plan.specs.Found.{AreFound}
use Rattle.mf_plan.specs.Names.{caller_name}
use Rattle.mf_plan.specs.Outline.{AreLive, outlined}
use Rattle.mf_plan.specs.Plan.{call_row, plan_in}
use Rattle.mf_plan.specs.Views.{process_named}

-- It shows the plan that the call has before anyone is lowered, and says who calls, and what the call is about where it may be done. Who
-- calls and what the checks are about is live.
pub record IsOutlineOf (s : State) (task : List ℕ) (child : Option (List ℕ)) (c : Call) (outline : Outline) : Type 0 where
  pub plan : outlined s.objects outline ≡ plan_in s (call_row s task child c)
  pub live : AreLive s.objects outline.checks
  pub caller : outline.found.caller ≡ process_named s.objects (caller_name task child)
  pub lives : IfSome outline.found.caller (λ id. IsSome (live_at s.objects id))
  pub found : outline.tail ≡ Do → AreFound s task child c outline.found
