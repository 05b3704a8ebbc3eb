-- The first fault of a label text: the first of its elements that asks for nothing, and what it lacks.
use Rattle.std.specs.Prelude.{◌≡◌, ◌≢◌, ℕ, ◌+◌, List, [], ◌∷◌, ◌++◌, length}
use Rattle.std.specs.List.{join_with_byte, AllByRecursion}
use Rattle.std.specs.Str.{byte}
use Rattle.mf_elem.specs.Label.{no_request}
use Rattle.mf_elem.specs.declared.label.Request.{Request}
use Rattle.mf_labeltext.specs.LabelGrammar.{IsPolicyName, Asks, SpellsElement, HasNoComma}
use Rattle.mf_labeltext.specs.declared.fault.LabelFault.{LabelFault}
use Rattle.mf_labeltext.specs.declared.fault.LabelFault.TheVariants.{NoSlash, BadValue, EmptyElement}

-- the element asks for something
abbrev pub AsksSomething : List ℕ → Type 0
AsksSomething element = (request : Request) × SpellsElement element no_request request

-- no slash stands in the element, or what stands before its first one is no name
abbrev pub HasNoName : List ℕ → Type 0
HasNoName element = (name value : List ℕ) → element ≡ name ++ byte "/" ∷ value → IsPolicyName name → ⊥

-- a value that the policy of this name doesn't know
abbrev pub IsUnknown : List ℕ → List ℕ → Type 0
IsUnknown name value = (request : Request) → Asks name value no_request request → ⊥

-- the element that begins at a place has this fault
abbrev pub IsElementFault : ℕ → List ℕ → LabelFault → Type 0
IsElementFault place element (EmptyElement found) = (element ≡ []) × (found ≡ place)
IsElementFault place element (NoSlash found) = (element ≢ []) × HasNoName element × (found ≡ place)
IsElementFault place element (BadValue found) =
    (name : List ℕ) × (value : List ℕ) × (element ≡ name ++ byte "/" ∷ value) × IsPolicyName name × IsUnknown name value × (found ≡ place + length name + 1)

-- where an element behind these begins: each of them has a comma behind it
abbrev pub place_behind : List (List ℕ) → ℕ
place_behind [] = 0
place_behind (element ∷ elements) = length element + 1 + place_behind elements

-- each element before the faulty one asks for something
pub record IsFirstLabelFault (text : List ℕ) (fault : LabelFault) : Type 0 where
  pub before : List (List ℕ)
  pub faulty : List ℕ
  pub behind : List (List ℕ)
  pub parted : text ≡ join_with_byte (byte ",") (before ++ faulty ∷ behind)
  pub whole : AllByRecursion HasNoComma (before ++ faulty ∷ behind)
  pub sound : AllByRecursion AsksSomething before
  pub is : IsElementFault (place_behind before) faulty fault
