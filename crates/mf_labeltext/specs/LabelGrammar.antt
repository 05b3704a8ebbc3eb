-- The label texts of maclabel(7), and what each of them asks for.
--
-- A text is label elements, parted by commas. An element is the name of a policy, a slash and a value. The value of biba and
-- mls is an effective element, a range "(low end-high end)", or both, one behind the other; that of lomac an element without compartments;
-- that of partition a number, or "none", which is 0. Of several elements of one policy the last one counts.
use Rattle.std.specs.Prelude.{◌≡◌, ◌≢◌, ℕ, ◌≤◌, ◌⊎◌, List, [], ◌∷◌, ◌++◌, Option, Some, None, codes, true}
use Rattle.std.specs.List.{join_with_byte, AllByRecursion}
use Rattle.std.specs.Int.{IsInRange}
use Rattle.std.specs.Str.{byte}
use Rattle.std.specs.Str.Parse.{IsNumeral, digits_value}
use Rattle.std.specs.FinSet as set
use Rattle.mf_elem.specs.OfSets.{comps_of}
use Rattle.mf_elem.specs.Elem.{is_plain}
use Rattle.mf_elem.specs.Label.{no_request}
use Rattle.mf_elem.specs.declared.comps.Comps.{Comps}
use Rattle.mf_elem.specs.declared.comps.TheConstants.{LAST_COMPARTMENT}
use Rattle.mf_elem.specs.declared.elem.TheConstants.{LAST_GRADE}
use Rattle.mf_elem.specs.declared.label.TheConstants.{LAST_PARTITION}
use Rattle.mf_elem.specs.declared.elem.Elem.{Elem}
use Rattle.mf_elem.specs.declared.elem.Elem.TheVariants.{Low, High, Equal, Grade}
use Rattle.mf_elem.specs.declared.label.RangeLabel.{RangeLabel}
use Rattle.mf_elem.specs.declared.label.Request.{Request}

-- decimal digits of a number from the least to the greatest; leading zeros are accepted
pub record SpellsNumber (least greatest : ℕ) (text : List ℕ) (n : ℕ) : Type 0 where
  pub numeral : IsNumeral 10 text
  pub value : digits_value 10 text ≡ n
  pub above : least ≤ n
  pub below : n ≤ greatest

-- each text spells the compartment that stands in its place
abbrev pub SpellEach : List (List ℕ) → List ℕ → Type 0
SpellEach [] [] = Unit {0}
SpellEach [] (n ∷ ns) = ⊥
SpellEach (text ∷ texts) [] = ⊥
SpellEach (text ∷ texts) (n ∷ ns) = SpellsNumber 1 LAST_COMPARTMENT text n × SpellEach texts ns

-- one or more compartments with a plus between them, in any order and repeated: they are a set
pub record SpellsComps (text : List ℕ) (comps : Comps) : Type 0 where
  pub texts : List (List ℕ)
  pub some : texts ≢ []
  pub parted : text ≡ join_with_byte (byte "+") texts
  pub numbers : List ℕ
  pub each : SpellEach texts numbers
  pub set : comps ≡ comps_of (set.from_list numbers)

-- a grade alone, or a grade, a colon and compartments
abbrev pub SpellsGrade : List ℕ → ℕ → Comps → Type 0
SpellsGrade text grade comps =
    (SpellsNumber 0 LAST_GRADE text grade × (comps ≡ comps_of set.empty))
    ⊎ ((digits : List ℕ) × (others : List ℕ) × (text ≡ digits ++ byte ":" ∷ others)
    × SpellsNumber 0 LAST_GRADE digits grade × SpellsComps others comps)

-- an element; `lo`, `hi` and `eq` are short for the words
abbrev pub SpellsElem : List ℕ → Elem → Type 0
SpellsElem text Low = (text ≡ codes "low") ⊎ (text ≡ codes "lo")
SpellsElem text High = (text ≡ codes "high") ⊎ (text ≡ codes "hi")
SpellsElem text Equal = (text ≡ codes "equal") ⊎ (text ≡ codes "eq")
SpellsElem text (Grade grade comps) = SpellsGrade text grade comps

-- "(", the low end, "-", the high end, ")"
abbrev pub SpellsRange : List ℕ → Elem × Elem → Type 0
SpellsRange text ends =
    (low : List ℕ) × (high : List ℕ) × (text ≡ byte "(" ∷ low ++ (byte "-" ∷ high ++ byte ")" ∷ [])) × SpellsElem low ends.0 × SpellsElem high ends.1

-- an effective element, a range, or both
abbrev pub SpellsParts : List ℕ → Option Elem → Option (Elem × Elem) → Type 0
SpellsParts text None None = ⊥
SpellsParts text (Some element) None = SpellsElem text element
SpellsParts text None (Some ends) = SpellsRange text ends
SpellsParts text (Some element) (Some ends) =
    (effective : List ℕ) × (range : List ℕ) × (text ≡ effective ++ range) × SpellsElem effective element × SpellsRange range ends

-- the value of biba and of mls
abbrev pub SpellsLabel : List ℕ → RangeLabel → Type 0
SpellsLabel text label = SpellsParts text label.effective label.range

-- the value of lomac: no compartments
abbrev pub SpellsPlain : List ℕ → Elem → Type 0
SpellsPlain text element = SpellsElem text element × (is_plain element ≡ true)

-- the value of partition
abbrev pub SpellsPartition : List ℕ → ℕ → Type 0
SpellsPartition text n = ((text ≡ codes "none") × (n ≡ 0)) ⊎ SpellsNumber 0 LAST_PARTITION text n

-- a lower-case letter, a digit or an underscore
abbrev pub IsNameByte : ℕ → Type 0
IsNameByte c = IsInRange (byte "a") (byte "z") c ⊎ IsInRange (byte "0") (byte "9") c ⊎ (c ≡ byte "_")

-- one or more of these bytes
abbrev pub IsPolicyName : List ℕ → Type 0
IsPolicyName name = (name ≢ []) × AllByRecursion IsNameByte name

-- the name of any other policy
abbrev pub IsOtherName : List ℕ → Type 0
IsOtherName name = (name ≢ codes "biba") × (name ≢ codes "mls") × (name ≢ codes "lomac") × (name ≢ codes "partition")

-- The element of this name and value asks for its policy's part, whole, and leaves the others as they are: with it, before
-- becomes after. The value of any other policy may be anything.
abbrev pub Asks : List ℕ → List ℕ → Request → Request → Type 0
Asks name value before after =
    ((name ≡ codes "biba") × (label : RangeLabel) × SpellsLabel value label × (after ≡ record before { biba = Some label }))
    ⊎ ((name ≡ codes "mls") × (label : RangeLabel) × SpellsLabel value label × (after ≡ record before { mls = Some label }))
    ⊎ ((name ≡ codes "lomac") × (element : Elem) × SpellsPlain value element × (after ≡ record before { lomac = Some element }))
    ⊎ ((name ≡ codes "partition") × (n : ℕ) × SpellsPartition value n × (after ≡ record before { partition = Some n }))
    ⊎ (IsOtherName name × (after ≡ record before { other = true }))

-- a name, a slash and a value; the value may have further slashes
abbrev pub SpellsElement : List ℕ → Request → Request → Type 0
SpellsElement element before after =
    (name : List ℕ) × (value : List ℕ) × (element ≡ name ++ byte "/" ∷ value) × IsPolicyName name × Asks name value before after

-- the elements ask one after another
abbrev pub SpellElements : List (List ℕ) → Request → Request → Type 0
SpellElements [] before after = before ≡ after
SpellElements (element ∷ elements) before after = (next : Request) × SpellsElement element before next × SpellElements elements next after

abbrev pub HasNoComma : List ℕ → Type 0
HasNoComma element = AllByRecursion (λ c. c ≢ byte ",") element

-- the text asks for this request
pub record SpellsRequest (text : List ℕ) (request : Request) : Type 0 where
  pub elements : List (List ℕ)
  pub some : elements ≢ []
  pub parted : text ≡ join_with_byte (byte ",") elements
  pub whole : AllByRecursion HasNoComma elements
  pub each : SpellElements elements no_request request
