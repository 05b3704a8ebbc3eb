-- What a core has to do with the lists of policies and the catalogue that came with it: this model's own.
use Rattle.std.specs.Prelude.{◌≡◌, ℕ, ◌<◌, ◌++◌, true, false, List, filter}
use Rattle.mf_errno.specs.declared.module.Module.{Module}
use Rattle.mf_elem.specs.declared.label.TheConstants.{SLOTS}
use Rattle.mf_policy.specs.Modules.{wants_slot}
use Rattle.mf_policy.specs.Registration.{Entry, is_listed}
use Rattle.mf_list.specs.Lists.{in_catalogue}
use Rattle.mf_list.specs.Once.{times_held}
use Rattle.mf_calls.specs.declared.script.Script.{Script}
use Rattle.mf_core.specs.Opening.{booted_specs}
use Rattle.mf_core.specs.declared.progress.ChangeOutcome.{ChangeOutcome}
use Rattle.mf_core.specs.declared.progress.ChangeOutcome.TheVariants as outcome

-- the policies in the static list, in walk order
abbrev pub static_among : List Entry → List Entry
static_among listed = filter (λ entry. entry.0.fixed) listed

-- the static list at the end of boot: nothing changes it after that
abbrev pub static_of : Script → List Entry
static_of s = static_among (booted_specs s)

-- each module stands once, in the lists or in the catalogue
abbrev pub AreHeld : List Entry → List Module → Type 0
AreHeld listed catalogue = (m : Module) → times_held m listed catalogue ≡ 1

-- The static list and the dynamic list are those whose policies these are, and with the catalogue they hold each module.
pub record AreOf (specs : List Entry) (fixed list : List Entry) (catalogue : List Module) : Type 0 where
  pub listed : fixed ++ list ≡ specs
  pub held : AreHeld (fixed ++ list) catalogue

-- while a change waits, the dynamic list and the catalogue stay as they are
abbrev pub StaysWhileWaiting : ChangeOutcome → List Entry → List Entry → List Module → List Module → Type 0
StaysWhileWaiting outcome.Done list list' catalogue catalogue' = Unit {0}
StaysWhileWaiting (outcome.Waits n) list list' catalogue catalogue' = (list' ≡ list) × (catalogue' ≡ catalogue)

-- A module can be registered at boot: it is there, it isn't listed, and a slot number is left where it wants one.
pub record CanBoot (m : Module) (listed : List Entry) (catalogue : List Module) (given : ℕ) : Type 0 where
  pub there : in_catalogue m catalogue ≡ true
  pub free : is_listed m listed ≡ false
  pub slot : wants_slot m ≡ true → given < SLOTS
