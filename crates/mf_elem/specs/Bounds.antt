-- Which values of these types are in bounds, and which requests a label text can spell.
use Rattle.std.specs.Prelude.{◌≡◌, ℕ, ◌^◌, ◌<◌, List, length, slice_index, ◌≤◌, true, ◌||◌, is_some, IfSome}
use Rattle.mf_elem.specs.declared.elem.TheConstants.{LAST_GRADE}
use Rattle.mf_elem.specs.declared.label.TheConstants.{LAST_PARTITION}
use Rattle.mf_elem.specs.declared.elem.Elem.{Elem}
use Rattle.mf_elem.specs.declared.elem.Elem.TheVariants.{Grade}
use Rattle.mf_elem.specs.Elem.{is_plain}
use Rattle.mf_elem.specs.declared.label.RangeLabel.{RangeLabel}
use Rattle.mf_elem.specs.declared.label.Request.{Request}

-- four words of 64 bits
pub record AreWords (words : List ℕ) : Type 0 where
  pub four : length words ≡ 4
  pub fit : (k : ℕ) → slice_index words k < 2 ^ 64

-- an element that a label text can spell: a grade has 16 bits, and compartments of the numbers that there are
abbrev pub IsElement : Elem → Type 0
IsElement (Grade grade comps) = (grade ≤ LAST_GRADE) × AreWords comps.words
IsElement other = Unit

-- a label that it can ask for: such an effective element, a range of such elements, or both
pub record IsAskedLabel (label : RangeLabel) : Type 0 where
  pub effective : IfSome label.effective IsElement
  pub range : IfSome label.range (λ ends. IsElement ends.0 × IsElement ends.1)
  pub not_empty : (is_some label.effective || is_some label.range) ≡ true

-- a request that it can spell: such labels, one without compartments for mac_lomac, and a partition that there can be
pub record IsRequest (request : Request) : Type 0 where
  pub biba : IfSome request.biba IsAskedLabel
  pub mls : IfSome request.mls IsAskedLabel
  pub lomac : IfSome request.lomac (λ element. IsElement element × (is_plain element ≡ true))
  pub partition : IfSome request.partition (λ n. n ≤ LAST_PARTITION)
