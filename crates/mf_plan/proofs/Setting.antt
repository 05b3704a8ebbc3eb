-- How a call ends that changes a setting.
use Rattle.std.proofs.Common.{◌≡◌, ℕ, Bool, true, List, Option, refl, ◌∙◌}
use Rattle.mf_errno.specs.declared.module.Module.{Module}
use Rattle.mf_objects.specs.declared.id.Id.{Id}
use Rattle.mf_policy.specs.declared.settings.Change.{Change}
use Rattle.mf_calls.specs.declared.script.Call.{Call}
use Rattle.mf_calls.specs.declared.script.Call.TheVariants as call
use Rattle.mf_plan.specs.declared.reply.Payload.TheVariants as payload
use Rattle.mf_plan.specs.declared.state.State.{State}
use Rattle.mf_plan.specs.Ended.{Ended, end_by, end_in}
use Rattle.mf_plan.specs.Found.{is_setting, setting_at, tunable_at}
use Rattle.mf_plan.specs.Row.{through}
use Rattle.mf_plan.specs.Rows.{about_of, set}
use Rattle.mf_plan.specs.Ways.Place.{Setting}
use Rattle.mf_plan.specs.Ways.{way_to}

module _ (s : State) (task : List ℕ) (me : Id) where
  -- the end of such a call goes by its place, whatever it hands back
  abbrev end_at : Bool → Option Module × Option Change → Ended
  end_at tunable setting = end_in (through (way_to s me (Setting tunable setting.0 setting.1)) (set s payload.None))

  by_place : (c : Call) → is_setting (about_of s task me c).place ≡ true
      → end_at (tunable_at (about_of s task me c).place) (setting_at (about_of s task me c).place) ≡ end_by s task me c
  by_place (call.Sysctl name value) is = refl
  by_place (call.UgidfwAdd rule) is = refl
  by_place (call.UgidfwSet n rule) is = refl
  by_place (call.UgidfwRemove n) is = refl
  by_place other is = cc

  pub ends : (c : Call) (tunable : Bool) (setting : Option Module × Option Change) → is_setting (about_of s task me c).place ≡ true
      → tunable ≡ tunable_at (about_of s task me c).place → setting ≡ setting_at (about_of s task me c).place → end_at tunable setting ≡ end_by s task me c
  ends c tunable setting is nobody same = (λ k. end_at (nobody k) (same k)) ∙ by_place c is
