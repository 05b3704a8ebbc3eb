-- A row: what is said of a call, once it is found what it is about.
use Rattle.std.specs.Option.{option_map_or}
use Rattle.std.specs.Prelude.{Bool, nat_le, if◌then◌else◌, List, [], ◌∷◌, ◌++◌, length, Option, Result, Ok, Err}
use Rattle.mf_errno.specs.declared.errno.Errno.{Errno}
use Rattle.mf_errno.specs.declared.errno.Errno.TheVariants as errno
use Rattle.mf_elem.specs.declared.label.Request.{Request}
use Rattle.mf_objects.specs.declared.id.Id.{Id}
use Rattle.mf_objects.specs.declared.limits.TheConstants.{MOST_ENTITIES}
use Rattle.mf_plan.specs.declared.outline.Check.{Check}
use Rattle.mf_plan.specs.declared.plan.Tail.{Tail}
use Rattle.mf_plan.specs.declared.plan.Tail.TheVariants.{Do, Refuse}
use Rattle.mf_plan.specs.declared.reply.Payload.{Payload}
use Rattle.mf_plan.specs.declared.reply.Payload.TheVariants as payload
use Rattle.mf_plan.specs.declared.state.State.{State}
use Rattle.mf_plan.specs.Effect.{Effect}
use Rattle.mf_plan.specs.Effect.Effect.{Unchanged, Relabel}
use Rattle.mf_plan.specs.Ways.{Way}

-- the checks and the end of a call; and where it is done, what it hands back and what it changes
pub record Row : Type 0 where
  pub checks : List Check
  pub tail : Tail
  pub payload : Payload
  pub effect : Effect

-- How a row ends

abbrev pub returns : Payload → Effect → Row
returns payload effect = record { checks = []; tail = Do; payload = payload; effect = effect }

abbrev pub shows : Payload → Row
shows payload = returns payload Unchanged

abbrev pub changes : Effect → Row
changes effect = returns payload.None effect

abbrev pub does_nothing : Row
does_nothing = changes Unchanged

abbrev pub refuse : Errno → Row
refuse e = record does_nothing { tail = Refuse e }

-- Before that: a check, or a test of the framework

abbrev pub ask : Check → Row → Row
ask check rest = record rest { checks = check ∷ rest.checks }

-- a check that is made where the test holds
abbrev pub ask_if : Bool → Check → Row → Row
ask_if test check rest = record rest { checks = if test then check ∷ rest.checks else rest.checks }

abbrev pub refuse_if : Bool → Errno → Row → Row
refuse_if test e rest = record rest { checks = if test then [] else rest.checks; tail = if test then Refuse e else rest.tail }

abbrev pub refuse_by : Option Errno → Row → Row
refuse_by fault rest =
    record rest { checks = option_map_or (λ e. []) fault rest.checks; tail = option_map_or Refuse fault rest.tail }

-- one entity more finds room
abbrev pub if_room : State → Row → Row
if_room s rest = refuse_if (nat_le MOST_ENTITIES (length s.objects.live)) errno.Enfile rest

-- the check of a relabel, and the relabel
abbrev pub relabel_by : (Id → Check) → Request × Id → Row
relabel_by check asked = ask (check asked.1) (changes (Relabel asked.1 asked.0))

-- what is so of what is there, and else by the errno
abbrev pub if_there : {A B : Type 0} → (A → B) → (Errno → B) → Result A Errno → B
if_there so other (Ok found) = so found
if_there so other (Err e) = other e

-- the whole of a call: the checks on the way to what it is about, and then its row
abbrev pub through : {A : Type 0} → Way A → (A → Row) → Row
through way row =
    record {
      checks = way.checks ++ if_there (λ found. (row found).checks) (λ e. []) way.there;
      tail = if_there (λ found. (row found).tail) Refuse way.there;
      payload = if_there (λ found. (row found).payload) (λ e. payload.None) way.there;
      effect = if_there (λ found. (row found).effect) (λ e. Unchanged) way.there;
    }
