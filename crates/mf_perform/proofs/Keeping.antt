-- What no call changes: whether boot has ended. And how far the next id goes on.
use Rattle.std.proofs.Common.{◌≡◌, ◌+◌, ◌≤◌, Result, Ok, Err, OnOk, OnErr, refl, sym, subst, arith}
use Rattle.mf_objects.specs.declared.id.Id.{Id}
use Rattle.mf_plan.specs.declared.state.State.{State}
use Rattle.mf_plan.specs.Effect.{Effect}
use Rattle.mf_plan.specs.Effect.Effect.{Make}
use Rattle.mf_perform.specs.Effect.{after}

-- boot has ended or not as before, and at most one id was given
pub record Keeps (s s' : State) : Type 0 where
  pub next : s'.objects.next ≤ s.objects.next + 1
  pub rises : s.objects.next ≤ s'.objects.next
  pub kept : s'.booted ≡ s.booted

after_keeps : (s : State) (me : Id) (e : Effect) → Keeps s (after s me e)
after_keeps s me (Make name what) = record { next = omega arith; rises = omega arith; kept = refl }
after_keeps s me other = record { next = omega arith; rises = omega arith; kept = refl }

-- a call that may be done is done, or changes nothing
pub call_keeps : {T E : Type 0} (r : Result T E) (s s' : State) (me : Id) (e : Effect) → OnOk r (s' ≡ after s me e) → OnErr r (s' ≡ s) → Keeps s s'
call_keeps (Ok value) s s' me e ok err = subst (Keeps s) (sym ok) (after_keeps s me e)
call_keeps (Err error) s s' me e ok err = subst (Keeps s) (sym err) (record { next = omega arith; rises = omega arith; kept = refl })
