-- The chains that are kept: of each element that a party holds, the one by which it came first. This model's own (docs/MANUAL.md, CHAINS).
use Rattle.std.specs.Prelude.{ℕ, ◌+◌, ◌-◌, Bool, true, false, if◌then◌else◌, List, [], ◌∷◌, ◌++◌, map, length, Option, Some, None}
use Rattle.std.specs.List.{sum}
use Rattle.std.specs.declared.cmp.Ordering.{Ordering}
use Rattle.std.specs.Set.{sorted_merge}
use Rattle.mf_elem.specs.declared.elem.Elem.{Elem}
use Rattle.mf_objects.specs.declared.id.Id.{Id}
use Rattle.mf_flow.specs.Order.{elem_cmp}
use Rattle.mf_chains.specs.declared.happening.Happening.{Happening}
use Rattle.mf_chains.specs.declared.happening.Happening.TheVariants.{Labelled, Moves}
use Rattle.mf_chains.specs.declared.happening.Occurrence.{Occurrence}
use Rattle.mf_chains.specs.declared.chain.Step.{Step}
use Rattle.mf_chains.specs.declared.chain.Chain.{Chain}
use Rattle.mf_chains.specs.Chains.{from_origin, giver_of, loses, own_of, step_at, with_step}

-- an element that a party holds, with the chain by which it came first
pub record Kept : Type 0 where
  pub element : Elem
  pub chain : Chain

abbrev pub kept_cmp : Kept → Kept → Ordering
kept_cmp a b = elem_cmp a.element b.element

-- with those of the others whose elements it lacks, in the order of elements
abbrev pub with_lacking : List Kept → List Kept → List Kept
with_lacking set others = sorted_merge kept_cmp true set others

-- what a party gets as its own, with the chain of that origin alone
abbrev pub own_kept : Option Elem → Id → ℕ → List Kept
own_kept None p event = []
own_kept (Some e) p event = record { element = e; chain = from_origin p event } ∷ []

-- what a party still holds
abbrev pub still_kept : Bool → List Kept → List Kept
still_kept true set = []
still_kept false set = set

abbrev pub stepped : Step → Kept → Kept
stepped step k = record k { chain = with_step step k.chain }

-- what the giver hands on, each with the chain that it had and this step
abbrev pub handed_on : Option Id → (Id → List Kept) → Step → List Kept
handed_on None before step = []
handed_on (Some giver) before step = map (stepped step) (before giver)

-- What a party then holds: its own element comes first, then what it still holds, and then what it is handed and lacks.
abbrev pub kept_after : Occurrence → (Id → List Kept) → Id → List Kept
kept_after x before p =
    with_lacking (with_lacking (own_kept (own_of x.what p) p x.event) (still_kept (loses x.what p) (before p)))
    (handed_on (giver_of x.what p) before (step_at x p))

-- what a party holds after all that happened, the newest first
abbrev pub kept : List Occurrence → Id → List Kept
kept [] p = []
kept (x ∷ older) p = kept_after x (kept older) p

-- How many come into sets

-- the parties whose sets may get some
abbrev pub receivers_of : Happening → List Id
receivers_of (Labelled party own maker) = party ∷ []
receivers_of (Moves subject object to_subject to_object) = (if to_subject then subject ∷ [] else []) ++ (if to_object then object ∷ [] else [])

-- how many elements a party gets that it doesn't hold still
abbrev pub added_to : Occurrence → (Id → List Kept) → Id → ℕ
added_to x before p = length (kept_after x before p) - length (still_kept (loses x.what p) (before p))

abbrev pub added_by : Occurrence → (Id → List Kept) → ℕ
added_by x before = sum (map (added_to x before) (receivers_of x.what))

abbrev pub additions : List Occurrence → ℕ
additions [] = 0
additions (x ∷ older) = additions older + added_by x (kept older)
