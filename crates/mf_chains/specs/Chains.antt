-- The chains by which elements came to parties, over what happened, the newest first: this model's own (docs/MANUAL.md, CHAINS).
use Rattle.std.specs.Prelude.{◌≡◌, ◌⊎◌, ◌++◌, ◌==◌, ◌&&◌, ℕ, Bool, false, if◌then◌else◌, List, [], ◌∷◌, Option, Some, None}
use Rattle.mf_elem.specs.declared.elem.Elem.{Elem}
use Rattle.mf_objects.specs.declared.id.Id.{Id}
use Rattle.mf_chains.specs.declared.happening.Happening.{Happening}
use Rattle.mf_chains.specs.declared.happening.Happening.TheVariants.{Labelled, Moves}
use Rattle.mf_chains.specs.declared.happening.Occurrence.{Occurrence}
use Rattle.mf_chains.specs.declared.chain.Step.{Step}
use Rattle.mf_chains.specs.declared.chain.Chain.{Chain}

-- What happens to a party

abbrev pub is_party : Id → Id → Bool
is_party p q = p.0 == q.0

-- who hands on to a new party what it holds; nothing is handed to one that is equal
abbrev pub maker_for : Option Elem → Option Id → Option Id
maker_for None maker = None
maker_for (Some own) maker = maker

-- who hands on to the party what it holds
abbrev pub giver_of : Happening → Id → Option Id
giver_of (Labelled q own maker) p = if is_party p q then maker_for own maker else None
giver_of (Moves subject object to_subject to_object) p =
    if to_subject && is_party p subject then Some object else (if to_object && is_party p object then Some subject else None)

-- the element that the party gets as its own
abbrev pub own_of : Happening → Id → Option Elem
own_of (Labelled q own maker) p = if is_party p q then own else None
own_of (Moves subject object to_subject to_object) p = None

-- whether the party loses what it held: it is new, or is relabelled
abbrev pub loses : Happening → Id → Bool
loses (Labelled q own maker) p = is_party p q
loses (Moves subject object to_subject to_object) p = false

-- Chains

-- a chain that begins with the party's own element, set in this event
abbrev pub from_origin : Id → ℕ → Chain
from_origin p event = record { origin = p; event = event; steps = [] }

abbrev pub with_step : Step → Chain → Chain
with_step step c = record c { steps = c.steps ++ step ∷ [] }

abbrev pub step_at : Occurrence → Id → Step
step_at x p = record { party = p; event = x.event; item = x.item }

-- Over what happened the chain leads to the party with the element: it begins with the last that happened; or the last hands the element on
-- from the party that the chain led to before; or the chain led here before, and the party still holds what it held.
abbrev pub Leads : List Occurrence → Id → Elem → Chain → Type 0
Leads [] p e c = ⊥
Leads (x ∷ older) p e c =
    ((own_of x.what p ≡ Some e) × (c ≡ from_origin p x.event))
    ⊎ ((giver : Id) × (giver_of x.what p ≡ Some giver) × (before : Chain) × Leads older giver e before × (c ≡ with_step (step_at x p) before))
    ⊎ ((loses x.what p ≡ false) × Leads older p e c)
