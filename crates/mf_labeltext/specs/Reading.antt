-- Reading a label text of maclabel(7) from left to right: what it asks for, or its first fault. The faults and their order are this model's own.
use Rattle.std.specs.Prelude.{ℕ, ◌+◌, List, [], ◌∷◌, length, Option, Some, None, Result, Ok, Err, Bool, true, false, ◌==◌, ◌||◌, if◌then◌else◌, codes, option_map, option_and_then}
use Rattle.std.specs.List.{slice_split, list_all}
use Rattle.std.specs.Char.{is_ascii_digit, is_ascii_lowercase}
use Rattle.std.specs.Option.{ok_or, option_zip}
use Rattle.std.specs.Result.{result_ok}
use Rattle.std.specs.Str.{byte, bytes_eq}
use Rattle.mf_text.specs.Number.{number_in}
use Rattle.mf_text.specs.Results.{and_then}
use Rattle.mf_elem.specs.Comps.{no_comps, with_compartment}
use Rattle.mf_elem.specs.declared.comps.Comps.{Comps}
use Rattle.mf_elem.specs.declared.comps.TheConstants.{LAST_COMPARTMENT}
use Rattle.mf_elem.specs.declared.elem.TheConstants.{LAST_GRADE}
use Rattle.mf_elem.specs.declared.label.TheConstants.{LAST_PARTITION}
use Rattle.mf_elem.specs.declared.elem.Elem.{Elem}
use Rattle.mf_elem.specs.declared.elem.Elem.TheVariants.{Low, High, Equal, Grade}
use Rattle.mf_elem.specs.declared.label.RangeLabel.{RangeLabel}
use Rattle.mf_elem.specs.declared.label.Request.{Request}
use Rattle.mf_elem.specs.Elem.{is_plain}
use Rattle.mf_elem.specs.Label.{element_alone, no_request}
use Rattle.mf_labeltext.specs.declared.fault.LabelFault.{LabelFault}
use Rattle.mf_labeltext.specs.declared.fault.LabelFault.TheVariants.{NoSlash, BadValue, EmptyElement}

infixl 10 ◌>>=◌
abbrev pub ◌>>=◌ : {A B : Type 0} → Option A → (A → Option B) → Option B
found >>= more = option_and_then more found

-- the text in front of the first such byte, and the text behind it
unfoldable pub cut : ℕ → List ℕ → Option (List ℕ × List ℕ)
cut separator [] = None
cut separator (c ∷ cs) = if c == separator then Some ([], cs) else option_map (λ halves. (c ∷ halves.0, halves.1)) (cut separator cs)

-- the texts between such bytes
unfoldable pub parts : ℕ → List ℕ → List (List ℕ)
parts separator text = slice_split (λ c. c == separator) text

-- the number that the text writes, from the least to the greatest
unfoldable pub number : ℕ → ℕ → List ℕ → Option ℕ
number least greatest text = result_ok (number_in 10 least greatest text)

-- the compartments so far, and those that the texts spell
unfoldable pub comps_from : Comps → List (List ℕ) → Option Comps
comps_from comps [] = Some comps
comps_from comps (text ∷ texts) = number 1 LAST_COMPARTMENT text >>= λ n. comps_from (with_compartment comps n) texts

-- compartments with a plus between each two
unfoldable pub comps_in : List ℕ → Option Comps
comps_in text = comps_from no_comps (parts (byte "+") text)

-- a grade, and the compartments behind its colon where there is one
abbrev pub grade_from_halves : List ℕ → Option (List ℕ × List ℕ) → Option Elem
grade_from_halves text None = number 0 LAST_GRADE text >>= λ grade. Some (Grade grade no_comps)
grade_from_halves text (Some halves) = number 0 LAST_GRADE halves.0 >>= λ grade. comps_in halves.1 >>= λ comps. Some (Grade grade comps)

unfoldable pub grade_in : List ℕ → Option Elem
grade_in text = grade_from_halves text (cut (byte ":") text)

-- the short words are those of the manual
unfoldable pub elem_in : List ℕ → Option Elem
elem_in text =
    if bytes_eq text (codes "low") || bytes_eq text (codes "lo") then Some Low
    else if bytes_eq text (codes "high") || bytes_eq text (codes "hi") then Some High
    else if bytes_eq text (codes "equal") || bytes_eq text (codes "eq") then Some Equal
    else grade_in text

-- a range behind its "(": the low end, a dash, the high end, and `)` as the last byte
unfoldable pub range_in : List ℕ → Option (Elem × Elem)
range_in text = do
  ends ← cut (byte "-") text
  high ← cut (byte ")") ends.1
  if length high.1 == 0 then option_zip (elem_in ends.0) (elem_in high.0) else None

-- the effective element in front of a range, where there is one
abbrev pub effective_in : List ℕ → Option (Option Elem)
effective_in [] = Some None
effective_in (c ∷ cs) = elem_in (c ∷ cs) >>= λ element. Some (Some element)

-- the value of biba and mls
abbrev pub label_from_halves : List ℕ → Option (List ℕ × List ℕ) → Option RangeLabel
label_from_halves text None = elem_in text >>= λ element. Some (element_alone element)
label_from_halves text (Some halves) =
    effective_in halves.0 >>= λ effective. range_in halves.1 >>= λ ends. Some (record { effective = effective; range = Some ends })

unfoldable pub label_in : List ℕ → Option RangeLabel
label_in text = label_from_halves text (cut (byte "(") text)

-- the value of lomac
unfoldable pub plain_in : List ℕ → Option Elem
plain_in text = elem_in text >>= λ element. if is_plain element then Some element else None

-- the value of partition
unfoldable pub partition_in : List ℕ → Option ℕ
partition_in text = if bytes_eq text (codes "none") then Some 0 else number 0 LAST_PARTITION text

-- the request with the element of this name and value added
unfoldable pub with_part : List ℕ → List ℕ → Request → Option Request
with_part name value request =
    if bytes_eq name (codes "biba") then (label_in value >>= λ label. Some (record request { biba = Some label }))
    else if bytes_eq name (codes "mls") then (label_in value >>= λ label. Some (record request { mls = Some label }))
    else if bytes_eq name (codes "lomac") then (plain_in value >>= λ element. Some (record request { lomac = Some element }))
    else if bytes_eq name (codes "partition") then (partition_in value >>= λ n. Some (record request { partition = Some n }))
    else Some (record request { other = true })

-- one or more lower-case letters, digits and underscores
abbrev pub is_policy_name : List ℕ → Bool
is_policy_name [] = false
is_policy_name name = list_all (λ c. is_ascii_lowercase c || (is_ascii_digit c || c == byte "_")) name

-- an element of which the name and the value were parted at the first slash
abbrev pub element_from_halves : ℕ → Request → Option (List ℕ × List ℕ) → Result Request LabelFault
element_from_halves place request None = Err (NoSlash place)
element_from_halves place request (Some halves) =
    if is_policy_name halves.0 then ok_or (with_part halves.0 halves.1 request) (BadValue (place + length halves.0 + 1)) else Err (NoSlash place)

-- the request with the element at a place added
unfoldable pub element_in : ℕ → Request → List ℕ → Result Request LabelFault
element_in place request [] = Err (EmptyElement place)
element_in place request element = element_from_halves place request (cut (byte "/") element)

-- the request with the elements added, of which the first stands at a place
unfoldable pub elements_in : ℕ → Request → List (List ℕ) → Result Request LabelFault
elements_in place request [] = Ok request
elements_in place request (element ∷ elements) = and_then (element_in place request element) (λ next. elements_in (place + length element + 1) next elements)

unfoldable pub request_in : List ℕ → Result Request LabelFault
request_in text = elements_in 0 no_request (parts (byte ",") text)
