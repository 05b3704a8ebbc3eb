-- The canonical text of what a label asks for is a word, and is read back.
use Rattle.std.proofs.Common.{◌≡◌, ℕ, ◌≤◌, Bool, true, false, cond, eqb, List, [], ◌∷◌, ◌++◌, length, map, Option, Some, None, Ok, IfSome, refl, sym, ap, ◌∙◌, arith, append-nil, inl, inr, subst}
use Rattle.std.specs.Prelude.{codes, nat_le, option_map}
use Rattle.std.proofs.lemmas.Bool.{leb-true}
use Rattle.std.specs.Char.{is_ascii_graphic}
use Rattle.std.specs.Fmt.{decimal}
use Rattle.std.specs.List.{AllByRecursion, join_with_byte, list_all}
use Rattle.mf_elem.specs.Comps.{rising}
use Rattle.mf_elem.specs.Bounds.{IsElement, IsAskedLabel, IsRequest}
use Rattle.mf_elem.specs.declared.elem.Elem.{Elem}
use Rattle.mf_elem.specs.declared.elem.Elem.TheVariants.{Low, High, Equal, Grade}
use Rattle.mf_elem.specs.Elem.{is_plain}
use Rattle.mf_elem.specs.Label.{element_alone}
use Rattle.mf_elem.specs.declared.label.LabelValue.{LabelValue}
use Rattle.mf_elem.specs.declared.label.LabelValue.TheVariants.{Unset, Range, Number}
use Rattle.mf_elem.specs.declared.label.RangeLabel.{RangeLabel}
use Rattle.mf_elem.specs.declared.label.Request.{Request}
use Rattle.mf_errno.specs.declared.module.Module.{Module}
use Rattle.mf_errno.specs.declared.module.Module.TheVariants.{Biba, Mls, Lomac, Partition}
use Rattle.mf_errno.specs.Names.{all_modules}
use Rattle.mf_errno.proofs.Modules.{each_passes}
use Rattle.mf_labeltext.proofs.CanonicalSpelling.{effective_text, partition_text}
use Rattle.mf_labeltext.specs.Canonical.{comps_text, elem_text, range_text, label_text, element_text, parts_of, in_order, elements_text, canonical_label}
use Rattle.mf_labeltext.specs.RoundTrip.{request_from, IsPart, AreParts}
use Rattle.mf_labeltext.proofs.PartsSpelling.{canonical_spells}
use Rattle.mf_labeltext.proofs.Requests.{spells_request}
use Rattle.mf_labeltext.proofs.Rising.{IsCompartment, rising_are}
use Rattle.mf_calls.specs.Names.{is_some_text}
use Rattle.mf_spelling.specs.Spelling.{Label, Spells}
use Rattle.mf_spelling.specs.Canonical.{range_part, number_part, parts_asked}
use Rattle.mf_spelled.proofs.WordTexts.{is_word, both, join, all_append}
use Rattle.mf_spelled.proofs.NumberTexts.{decimal_word}

abbrev IsGraphic : List ℕ → Type 0
IsGraphic text = list_all is_ascii_graphic text ≡ true

abbrev Part : Type 0
Part = Module × LabelValue

-- The bytes of a value

number_graphic : (n : ℕ) → n ≤ 2147483647 → IsGraphic (decimal n)
number_graphic n fits = (both (is_some_text (decimal n)) (list_all is_ascii_graphic (decimal n)) (decimal_word n (omega (arith, fits)))).1

numbers_graphic : (ns : List ℕ) → AllByRecursion IsCompartment ns → IsGraphic (join_with_byte 43 (map decimal ns))
numbers_graphic [] all = refl
numbers_graphic (n ∷ []) all = number_graphic n (omega (arith, all.0.1))
numbers_graphic (n ∷ m ∷ ns) all =
    all_append is_ascii_graphic (decimal n) (43 ∷ join_with_byte 43 (map decimal (m ∷ ns))) (number_graphic n (omega (arith, all.0.1))) (numbers_graphic (m ∷ ns) all.1)

comps_graphic : (ns : List ℕ) → AllByRecursion IsCompartment ns → IsGraphic (comps_text ns)
comps_graphic [] all = refl
comps_graphic (n ∷ ns) all = numbers_graphic (n ∷ ns) all

elem_graphic : (element : Elem) → IsElement element → IsGraphic (elem_text element)
elem_graphic Low fits = refl
elem_graphic High fits = refl
elem_graphic Equal fits = refl
elem_graphic (Grade grade comps) fits =
    all_append is_ascii_graphic (decimal grade) (comps_text (rising comps)) (number_graphic grade (omega (arith, fits.0))) (comps_graphic (rising comps) (rising_are comps))

effective_graphic : (effective : Option Elem) → IfSome effective IsElement → IsGraphic (effective_text effective)
effective_graphic None fits = refl
effective_graphic (Some element) fits = elem_graphic element fits

range_graphic : (range : Option (Elem × Elem)) → IfSome range (λ ends. IsElement ends.0 × IsElement ends.1) → IsGraphic (range_text range)
range_graphic None fits = refl
range_graphic (Some ends) fits =
    all_append is_ascii_graphic (elem_text ends.0) (45 ∷ elem_text ends.1 ++ 41 ∷ []) (elem_graphic ends.0 fits.0)
    (all_append is_ascii_graphic (elem_text ends.1) (41 ∷ []) (elem_graphic ends.1 fits.1) refl)

label_graphic : (label : RangeLabel) → IsAskedLabel label → IsGraphic (label_text label)
label_graphic label fits =
    all_append is_ascii_graphic (effective_text label.effective) (range_text label.range) (effective_graphic label.effective fits.effective) (range_graphic label.range fits.range)

partition_graphic : (n : ℕ) → n ≤ 2147483647 → IsGraphic (partition_text n)
partition_graphic n fits = one (eqb n 0)
  where
    one : (b : Bool) → IsGraphic (cond b (codes "none") (decimal n))
    one true = refl
    one false = number_graphic n fits

-- A text is a word

elements_graphic : (parts : List Part) → AllByRecursion (λ part. IsGraphic (element_text part)) parts → IsGraphic (elements_text (map element_text parts))
elements_graphic [] all = refl
elements_graphic (part ∷ []) all = all.0
elements_graphic (part ∷ next ∷ parts) all =
    all_append is_ascii_graphic (element_text part) (44 ∷ join_with_byte 44 (map element_text (next ∷ parts))) all.0 (elements_graphic (next ∷ parts) all.1)

some_behind : (m : Module) (value : LabelValue) (more : List ℕ) → is_some_text (element_text (m, value) ++ more) ≡ true
some_behind Biba value more = refl
some_behind other value more = refl

some_text : (parts : List Part) → is_some_text (elements_text (map element_text parts)) ≡ true
some_text [] = refl
some_text ((m, value) ∷ []) = ap is_some_text (sym (append-nil (element_text (m, value)))) ∙ some_behind m value []
some_text ((m, value) ∷ next ∷ parts) = some_behind m value (44 ∷ join_with_byte 44 (map element_text (next ∷ parts)))

elements_word : (parts : List Part) → AllByRecursion (λ part. IsGraphic (element_text part)) parts → is_word (elements_text (map element_text parts)) ≡ true
elements_word parts all =
    let text = elements_text (map element_text parts) in
    join (is_some_text text) (list_all is_ascii_graphic text) (some_text parts) (elements_graphic parts all)

-- The parts that may be asked for

part_graphic : (m : Module) (value : LabelValue) → IsPart (m, value) → IsGraphic (element_text (m, value))
part_graphic Biba Unset is = absurd is
part_graphic Biba (Range label) is = label_graphic label is
part_graphic Biba (Number n) is = absurd is
part_graphic Mls Unset is = absurd is
part_graphic Mls (Range label) is = label_graphic label is
part_graphic Mls (Number n) is = absurd is
part_graphic Lomac Unset is = absurd is
part_graphic Lomac (Range label) is = label_graphic label is.0
part_graphic Lomac (Number n) is = absurd is
part_graphic Partition Unset is = refl
part_graphic Partition (Range label) is = absurd is
part_graphic Partition (Number n) is = partition_graphic n is
part_graphic other value is = absurd is

each_graphic : (parts : List Part) → AllByRecursion IsPart parts → AllByRecursion (λ part. IsGraphic (element_text part)) parts
each_graphic [] each = tt
each_graphic ((m, value) ∷ parts) each = (part_graphic m value each.0, each_graphic parts each.1)

appended : (xs ys : List Part) → AllByRecursion IsPart xs → AllByRecursion IsPart ys → AllByRecursion IsPart (xs ++ ys)
appended [] ys each more = more
appended (x ∷ xs) ys each more = (each.0, appended xs ys each.1 more)

range_is_part : (m : Module) (range : Option RangeLabel) → IfSome range (λ label. IsPart (m, Range label)) → AllByRecursion IsPart (range_part m range)
range_is_part m None is = tt
range_is_part m (Some label) is = (is, tt)

number_is_part : (partition : Option ℕ) → IfSome partition (λ n. n ≤ 2147483647) → AllByRecursion IsPart (number_part partition)
number_is_part None is = tt
number_is_part (Some n) is = (is, tt)

alone_is_part : (lomac : Option Elem) → IfSome lomac (λ element. IsElement element × (is_plain element ≡ true))
    → IfSome (option_map element_alone lomac) (λ label. IsPart (Lomac, Range label))
alone_is_part None is = tt
alone_is_part (Some element) is = (record { effective = is.0; range = tt; not_empty = refl }, join (is_plain element) true is.1 refl)

are_parts : (r : Request) → IsRequest r → AllByRecursion IsPart (parts_asked r)
are_parts r fits =
    appended (range_part Biba r.biba ++ range_part Mls r.mls ++ range_part Lomac (option_map element_alone r.lomac)) (number_part r.partition)
    (appended (range_part Biba r.biba ++ range_part Mls r.mls) (range_part Lomac (option_map element_alone r.lomac))
    (appended (range_part Biba r.biba) (range_part Mls r.mls) (range_is_part Biba r.biba fits.biba) (range_is_part Mls r.mls fits.mls))
    (range_is_part Lomac (option_map element_alone r.lomac) (alone_is_part r.lomac fits.lomac)))
    (number_is_part r.partition fits.partition)

abbrev asking : Option RangeLabel → Option RangeLabel → Option Elem → Option ℕ → Request
asking biba mls lomac partition = record { biba = biba; mls = mls; lomac = lomac; partition = partition; other = false }

-- the parts stand in order, each policy has one at most, and they ask for just this
record Ask (parts : List Part) (request : Request) : Type 0 where
  ordered : in_order parts ≡ parts
  once : list_all (λ policy. nat_le (length (parts_of policy parts)) 1) all_modules ≡ true
  back : request_from parts ≡ request

parts_ask : (biba mls : Option RangeLabel) (lomac : Option Elem) (partition : Option ℕ) → Ask (parts_asked (asking biba mls lomac partition)) (asking biba mls lomac partition)
unfolding in_order
parts_ask None None None None = record { ordered = refl; once = refl; back = refl }
parts_ask None None None (Some n) = record { ordered = refl; once = refl; back = refl }
parts_ask None None (Some lomac) None = record { ordered = refl; once = refl; back = refl }
parts_ask None None (Some lomac) (Some n) = record { ordered = refl; once = refl; back = refl }
parts_ask None (Some mls) None None = record { ordered = refl; once = refl; back = refl }
parts_ask None (Some mls) None (Some n) = record { ordered = refl; once = refl; back = refl }
parts_ask None (Some mls) (Some lomac) None = record { ordered = refl; once = refl; back = refl }
parts_ask None (Some mls) (Some lomac) (Some n) = record { ordered = refl; once = refl; back = refl }
parts_ask (Some biba) None None None = record { ordered = refl; once = refl; back = refl }
parts_ask (Some biba) None None (Some n) = record { ordered = refl; once = refl; back = refl }
parts_ask (Some biba) None (Some lomac) None = record { ordered = refl; once = refl; back = refl }
parts_ask (Some biba) None (Some lomac) (Some n) = record { ordered = refl; once = refl; back = refl }
parts_ask (Some biba) (Some mls) None None = record { ordered = refl; once = refl; back = refl }
parts_ask (Some biba) (Some mls) None (Some n) = record { ordered = refl; once = refl; back = refl }
parts_ask (Some biba) (Some mls) (Some lomac) None = record { ordered = refl; once = refl; back = refl }
parts_ask (Some biba) (Some mls) (Some lomac) (Some n) = record { ordered = refl; once = refl; back = refl }

text_is : (parts : List Part) → in_order parts ≡ parts → canonical_label parts ≡ elements_text (map element_text parts)
unfolding canonical_label
text_is parts ordered = ap (λ parts. elements_text (map element_text parts)) ordered

-- They are read back

few : (parts : List Part) → list_all (λ policy. nat_le (length (parts_of policy parts)) 1) all_modules ≡ true → (policy : Module) → length (parts_of policy parts) ≤ 1
few parts all policy = leb-true _ _ (each_passes (λ policy. nat_le (length (parts_of policy parts)) 1) all policy)

none_asked : canonical_label [] ≡ codes "-"
unfolding canonical_label in_order
none_asked = refl

back_by : (parts : List Part) (request : Request) → AllByRecursion IsPart parts → Ask parts request → Spells (canonical_label parts) (Label request)
back_by [] request each ask = inl (none_asked, sym ask.back)
back_by (part ∷ parts) request each ask =
    let are : AreParts (part ∷ parts) = record { each = each; once = few (part ∷ parts) ask.once } in
    inr (spells_request (canonical_label (part ∷ parts)) (request_from (part ∷ parts)) (canonical_spells (part ∷ parts) are (λ e. cc)) ∙ ap Ok ask.back)

pub label_word : (request : Request) → IsRequest request → is_word (canonical_label (parts_asked request)) ≡ true
label_word r fits =
    ap is_word (text_is (parts_asked r) (parts_ask r.biba r.mls r.lomac r.partition).ordered) ∙ elements_word (parts_asked r) (each_graphic (parts_asked r) (are_parts r fits))

pub label_back : (request : Request) → IsRequest request → request.other ≡ false → Spells (canonical_label (parts_asked request)) (Label request)
label_back r fits none =
    subst (λ (other : Bool). Spells (canonical_label (parts_asked r)) (Label (record { biba = r.biba; mls = r.mls; lomac = r.lomac; partition = r.partition; other = other }))) (sym none)
    (back_by (parts_asked r) (asking r.biba r.mls r.lomac r.partition) (are_parts r fits) (parts_ask r.biba r.mls r.lomac r.partition))
