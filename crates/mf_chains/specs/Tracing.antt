-- A chain traced back over what happened.
use Rattle.std.specs.Prelude.{◌≡◌, ◌≤◌, ◌<◌, ◌-◌, slice_index_or, ℕ, Bool, true, false, List, [], ◌∷◌, length, take}
use Rattle.std.specs.List.{AllByRecursion}
use Rattle.mf_elem.specs.declared.elem.Elem.{Elem}
use Rattle.mf_objects.specs.declared.id.Id.{Id}
use Rattle.mf_chains.specs.declared.happening.Happening.{Happening}
use Rattle.mf_chains.specs.declared.happening.Happening.TheVariants.{Labelled, Moves}
use Rattle.mf_chains.specs.declared.happening.Occurrence.{Occurrence}
use Rattle.mf_chains.specs.declared.chain.Step.{Step}
use Rattle.mf_chains.specs.declared.chain.Chain.{Chain}
use Rattle.mf_chains.specs.declared.tracing.Trace.{Trace}
use Rattle.mf_chains.specs.declared.tracing.Trace.TheVariants.{Begins, Breaks, Leads as GoesOn}
use Rattle.mf_chains.specs.Chains.{Leads}

-- the chain with so many of its steps
abbrev pub chain_to : Chain → ℕ → Chain
chain_to c n = record c { steps = take n c.steps }

-- the step is the last of so many
abbrev pub IsLastOf : Chain → ℕ → Step → Type 0
IsLastOf c n step = (0 < n) × (slice_index_or c.steps (n - 1) step ≡ step)

-- no steps are left, and the chain begins with the party in this event
abbrev pub IsOriginOf : Chain → ℕ → Id → ℕ → Type 0
IsOriginOf c n p event = (n ≡ 0) × (c.origin ≡ p) × (c.event ≡ event)

-- how the chain leads over what happened before, where so much of it is left
abbrev pub LeadsBefore : Trace → List Occurrence → Elem → Chain → Type 0
LeadsBefore Begins older e c = Unit {0}
LeadsBefore Breaks older e c = ⊥
LeadsBefore (GoesOn p steps) older e c = Leads older p e (chain_to c steps)

abbrev pub HasSteps : Trace → Chain → Type 0
HasSteps (GoesOn p steps) c = steps ≤ length c.steps
HasSteps other c = Unit {0}

abbrev pub is_move : Happening → Bool
is_move (Labelled party own maker) = false
is_move (Moves subject object to_subject to_object) = true

abbrev pub IsAtOnce : Occurrence → Occurrence → Type 0
IsAtOnce x y = (x.event ≡ y.event) × (x.item ≡ y.item)

-- no check moves anything at the moment of what happened before
abbrev pub AreApart : List Occurrence → Type 0
AreApart [] = Unit {0}
AreApart (x ∷ older) = (is_move x.what ≡ true → AllByRecursion (λ y. IsAtOnce x y → ⊥) older) × AreApart older
