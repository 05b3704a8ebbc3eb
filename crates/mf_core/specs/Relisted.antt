-- The policies after a change; inner contracts alone cite this.
use Rattle.std.specs.Prelude.{◌≡◌, true, false, Option, Some, None}
use Rattle.mf_objects.specs.declared.id.Id.{Id}
use Rattle.mf_plan.specs.declared.reply.Reply.{Reply}
use Rattle.mf_plan.specs.declared.state.State.{State}
use Rattle.mf_perform.specs.Effect.{after}
use Rattle.mf_perform.specs.Refused.{is_ok}
use Rattle.mf_perform.specs.Relisting.{effect_in, IsFormed, SetsDynamic}
use Rattle.mf_perform.specs.Suits.{Suits}
use Rattle.mf_perform.specs.declared.relisting.Relisting.{Relisting}
use Rattle.mf_core.specs.declared.run.changing.Relisted.{Relisted}

-- the change leads from one state to the other, whoever makes it
pub record Leads (s next : State) (relisting : Relisting) : Type 0 where
  pub suits : Suits s (effect_in relisting)
  pub formed : IsFormed relisting
  pub dynamic : SetsDynamic relisting
  pub made : (caller : Id) → next ≡ after s caller (effect_in relisting)

-- what the call with that reply changes; nothing where it is denied or refused
abbrev pub IsMade : State → State → Reply → Option Relisting → Type 0
IsMade s next reply (Some relisting) = (is_ok reply ≡ true) × Leads s next relisting
IsMade s next reply None = is_ok reply ≡ false

-- and the listed specs after it
abbrev pub AreListedAfter : State → State → Reply → Option Relisted → Type 0
AreListedAfter s next reply (Some listed) = (is_ok reply ≡ true) × Leads s next listed.relisting × (listed.specs ≡ next.specs)
AreListedAfter s next reply None = is_ok reply ≡ false
