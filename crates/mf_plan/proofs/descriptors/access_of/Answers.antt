use Rattle.std.proofs.Common.{◌≡◌, ℕ, List, None, refl}
use Rattle.mf_objects.specs.declared.id.Id.{Id}
use Rattle.mf_calls.specs.declared.script.Call.{Call}
use Rattle.mf_calls.specs.declared.script.Call.TheVariants as call
use Rattle.mf_plan.specs.declared.state.State.{State}
use Rattle.mf_plan.specs.Found.{descriptor_at}
use Rattle.mf_plan.specs.Rows.{about_of}
use Rattle.mf_plan.proofs.descriptors.access_of.Goals as goal

-- other calls go through none
none_through : (s : State) (task : List ℕ) (c : Call) → ((n : ℕ) → c ≡ call.Fread n → ⊥) → ((n : ℕ) (text : List ℕ) → c ≡ call.Fwrite n text → ⊥)
    → ((n : ℕ) → c ≡ call.Close n → ⊥) → (me : Id) → None ≡ descriptor_at s me (about_of s task me c).place
none_through s task (call.Fread n) reads writes closes me = absurd (reads n refl)
none_through s task (call.Fwrite n text) reads writes closes me = absurd (writes n text refl)
none_through s task (call.Close n) reads writes closes me = absurd (closes n refl)
none_through s task other reads writes closes me = refl

pub returns-in_default : goal.returns-in_default
returns-in_default c s task me = none_through s task c.args.call.now c.in_default.not-Fread c.in_default.not-Fwrite c.in_default.not-Close me
