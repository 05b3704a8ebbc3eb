use Rattle.std.proofs.Common.{◌≡◌, ℕ, Bool, List, Option, Some, None, Result, Ok, Err, refl, ap, sym, ◌∙◌, subst}
use Rattle.mf_text.specs.Results.{and_then}
use Rattle.mf_errno.specs.declared.errno.Errno.{Errno}
use Rattle.mf_errno.specs.declared.errno.Errno.TheVariants.{Einval}
use Rattle.mf_errno.specs.declared.module.Module.{Module}
use Rattle.mf_objects.specs.declared.id.Id.{Id}
use Rattle.mf_policy.specs.declared.settings.Change.{Change}
use Rattle.mf_calls.specs.declared.script.Call.TheVariants as call
use Rattle.mf_plan.specs.declared.state.State.{State}
use Rattle.mf_plan.specs.Plan.{row_for}
use Rattle.mf_plan.specs.Settings.{is_tunable, owner_named}
use Rattle.mf_plan.specs.Ways.{setting_found, straight}
use Rattle.mf_audit.specs.declared.done.Done.{Done}
use Rattle.mf_audit.specs.declared.walk.Walk.{Walk}
use Rattle.mf_audit.specs.Changing.{change_named, changing_by}
use Rattle.mf_audit.specs.Ends.{Goes, Leads}
use Rattle.mf_audit.proofs.Through.{found, missed, setting_there, with_change}
use Rattle.mf_audit.proofs.settings.sysctl.Goals as goal

module _ (s : State) (task : List ℕ) (me : Id) (walk : Walk) where
  -- the same of the texts that were read of the words
  of_words : (n name v value : List ℕ) (end : Result Done Errno) → n ≡ name → v ≡ value
      → Goes s task me (row_for s task (call.Sysctl n v) me) walk walk end → Goes s task me (row_for s task (call.Sysctl name value) me) walk walk end
  of_words n name v value end named valued goes =
      subst (λ (v : List ℕ). Goes s task me (row_for s task (call.Sysctl name v) me) walk walk end) valued
      (subst (λ (n : List ℕ). Goes s task me (row_for s task (call.Sysctl n v) me) walk walk end) named goes)

  way : (n v : List ℕ) (tunable : Bool) (owner : Option Module) (may : Result Module Errno) (change : Option Change)
      → tunable ≡ is_tunable s.specs n → owner ≡ owner_named n → may ≡ changing_by s me tunable owner → change ≡ change_named s n v
      → Leads s me (straight (setting_found s me (is_tunable s.specs n) (owner_named n) (change_named s n v))) walk walk (and_then may (with_change change))
  way n v tunable owner may change tunable_is owner_is may_is change_is =
      let here : may ≡ changing_by s me (is_tunable s.specs n) (owner_named n) =
      may_is ∙ ap (λ (b : Bool). changing_by s me b owner) tunable_is ∙ ap (changing_by s me (is_tunable s.specs n)) owner_is in
      subst (λ (x : Option Change). Leads s me (straight (setting_found s me (is_tunable s.specs n) (owner_named n) x)) walk walk (and_then may (with_change change)))
      change_is (setting_there s me (is_tunable s.specs n) (owner_named n) change may walk here)

pub returns-in_err-module : goal.returns-in_err-module
returns-in_err-module c task walk =
    let s = c.args.kernel.now in
    let n = c.as_str-name.result.now in
    let v = c.args.value.now in
    of_words s task c.args.me walk n c.args.name.now v v _ c.as_str-name.ensures refl
    (missed s task c.args.me (call.Sysctl n v) (call.Sysctl n v) _ walk walk _ refl
    (way s task c.args.me walk n v c.is_tunable.result c.owner_named.result (Err _) (change_named s n v) c.is_tunable.ensures c.owner_named.ensures
    c.in_err-module.ensures refl) (c.from_residual.ensures.1))

pub returns-in-None : goal.returns-in-None
returns-in-None c task walk =
    let s = c.args.kernel.now in
    let n = c.as_str-name.result.now in
    let v = c.as_str.result.now in
    of_words s task c.args.me walk n c.args.name.now v c.args.value.now _ c.as_str-name.ensures c.as_str.ensures
    (missed s task c.args.me (call.Sysctl n v) (call.Sysctl n v) Einval walk walk (Err Einval) refl
    (way s task c.args.me walk n v c.is_tunable.result c.owner_named.result (Ok _) None c.is_tunable.ensures c.owner_named.ensures
    c.in_ok-module.ensures (sym c.in-None.is ∙ c.asked_named.ensures.value)) refl)

pub returns-in-Some : goal.returns-in-Some
returns-in-Some c task walk =
    let s = c.args.kernel.now in
    let n = c.as_str-name.result.now in
    let v = c.as_str.result.now in
    let change = c.in-Some.change in
    of_words s task c.args.me walk n c.args.name.now v c.args.value.now _ c.as_str-name.ensures c.as_str.ensures
    (found s task c.args.me (call.Sysctl n v) (call.Sysctl n v) (c.in_ok-module.«module», change) walk walk walk _ refl
    (way s task c.args.me walk n v c.is_tunable.result c.owner_named.result (Ok _) (Some change) c.is_tunable.ensures c.owner_named.ensures
    c.in_ok-module.ensures (sym c.in-Some.is ∙ c.asked_named.ensures.value)) (c.set.ensures task walk))
