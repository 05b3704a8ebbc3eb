-- What parties hold, as it is kept: elements, each with the link at the end of its chain.
use Rattle.std.specs.Prelude.{◌≡◌, ◌<◌, ℕ, List, [], ◌∷◌, map, length, slice_index_or, ◌++◌}
use Rattle.std.specs.List.{AllByRecursion}
use Rattle.std.specs.declared.cmp.Ordering.{Ordering}
use Rattle.std.specs.declared.cmp.Ordering.TheVariants.{Greater}
use Rattle.mf_objects.specs.declared.id.Id.{Id}
use Rattle.mf_flow.specs.Order.{elem_cmp}
use Rattle.mf_chains.specs.declared.chain.Chain.{Chain}
use Rattle.mf_chains.specs.declared.marks.Mark.{Mark}
use Rattle.mf_chains.specs.declared.happening.Occurrence.{Occurrence}
use Rattle.mf_chains.specs.Chains.{step_at}
use Rattle.mf_chains.specs.Kept.{Kept, stepped, with_lacking}
use Rattle.mf_chains.specs.Links.{no_chain}

-- what each party holds, by the number of its id
abbrev pub Sets : Type 0
Sets = List (List Mark)

abbrev pub set_at : Sets → ℕ → List Mark
set_at sets n = slice_index_or sets n []

abbrev pub kept_of : List Chain → Mark → Kept
kept_of chains mark = record { element = mark.element; chain = slice_index_or chains mark.link no_chain }

abbrev pub kept_in : List Chain → List Mark → List Kept
kept_in chains set = map (kept_of chains) set

-- what a party holds
abbrev pub kept_at : List Chain → Sets → Id → List Kept
kept_at chains sets p = kept_in chains (set_at sets p.0)

-- the links are there
abbrev pub AreThere : List Chain → List Mark → Type 0
AreThere chains set = AllByRecursion (λ mark. mark.link < length chains) set

abbrev pub AllAreThere : List Chain → Sets → Type 0
AllAreThere chains sets = (n : ℕ) → AreThere chains (set_at sets n)

-- chains were appended to others
abbrev pub Extends : List Chain → List Chain → Type 0
Extends before chains = (more : List Chain) × (chains ≡ before ++ more)

-- how the first of these compares with another; where there is none, the other comes first
abbrev pub order_from : List Mark → Mark → Ordering
order_from [] other = Greater
order_from (mark ∷ set) other = elem_cmp mark.element other.element

-- what the one party then holds, to which the other hands on what it holds
abbrev pub given_to : Occurrence → (Id → List Kept) → Id → Id → List Kept
given_to x before from to = with_lacking (before to) (map (stepped (step_at x to)) (before from))
