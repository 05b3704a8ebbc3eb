-- Numbers, lists of numbers and bytes are read back from their texts, which are words.
use Rattle.std.proofs.Common.{◌≡◌, ◌≢◌, ℕ, ◌<◌, ◌≤◌, ◌^◌, Bool, true, false, not, List, [], ◌∷◌, ◌++◌, length, map, None, Ok, refl, ap, ◌∙◌, arith, lit≤, rules}
use Rattle.std.specs.Prelude.{All, ◌/◌, ◌%◌, if◌then◌else◌}
use Rattle.std.proofs.lemmas.Bool.{lt-ltb, le-ltb, le-leb}
use Rattle.std.proofs.lemmas.Bool.Decides.{nat_tests}
use Rattle.std.proofs.lemmas.Fmt.{decimal_is_IsNumeral, digits_is_IsNumeral}
use Rattle.std.proofs.lemmas.List.Concat.{flat_map-cons}
use Rattle.std.proofs.lemmas.List.Elements.{All-head, All-tail}
use Rattle.std.specs.Char.{is_digit, digit_value, digit_char, is_ascii_graphic}
use Rattle.std.specs.Fmt.{decimal}
use Rattle.std.specs.List.{AllByRecursion, position, position_or_len, list_all, flat_map, join_with_byte}
use Rattle.std.specs.Str.Parse.{AllDigits, IsNumeral, digits_value}
use Rattle.std.specs.Str.{byte}
use Rattle.mf_text.specs.Number.{number_in}
use Rattle.mf_text.proofs.Numerals.{within, unless_other}
use Rattle.mf_text.specs.Escape.{bytes_of, escaped, escaped_byte, is_literal}
use Rattle.mf_text.proofs.Unescaping.{escaped_stands}
use Rattle.mf_labeltext.specs.Reading.{parts}
use Rattle.mf_labeltext.proofs.Cutting.{IsFree, parts_join}
use Rattle.mf_labeltext.proofs.Numbers.{digits_free}
use Rattle.mf_calls.specs.Names.{is_some_text}
use Rattle.mf_calls.specs.declared.limits.TheConstants.{UID_MAX, MODE_LIMIT}
use Rattle.mf_spelling.specs.Canonical.{octal, groups_text}
use Rattle.mf_spelled.proofs.WordTexts.{is_word, both, join, all_append}

all_pass : (base : ℕ) (text : List ℕ) → AllDigits base text → position_or_len (λ byte. not (is_digit byte base)) text ≡ length text
all_pass base [] all = refl
all_pass base (c ∷ cs) all = rw (lt-ltb (digit_value c) base all.0) (rw (all_pass base cs all.1) (omega arith))

no_other : (base : ℕ) (text : List ℕ) → AllDigits base text → position (λ byte. not (is_digit byte base)) text ≡ None
no_other base text all = rw (all_pass base text all) (rw (le-ltb (length text) (length text) (omega arith)) refl)

within_ok : (greatest value : ℕ) → value ≤ greatest → within 0 greatest value ≡ Ok value
within_ok greatest value below = rw (le-leb 0 value (omega arith)) (rw (le-leb value greatest below) refl)

reads_numeral : (base greatest : ℕ) (text : List ℕ) → IsNumeral base text → digits_value base text ≤ greatest → number_in base 0 greatest text ≡ Ok (digits_value base text)
unfolding number_in
reads_numeral base greatest [] numeral below = absurd (omega (arith, numeral.0))
reads_numeral base greatest (c ∷ cs) numeral below =
    ap (λ other. unless_other other (within 0 greatest (digits_value base (c ∷ cs)))) (no_other base (c ∷ cs) numeral.1)
    ∙ within_ok greatest (digits_value base (c ∷ cs)) below

pub reads_value : (base greatest n : ℕ) (text : List ℕ) → IsNumeral base text → digits_value base text ≡ n → n ≤ greatest → number_in base 0 greatest text ≡ Ok n
reads_value base greatest n text numeral value below = reads_numeral base greatest text numeral (omega (arith, value, below)) ∙ ap Ok value

pub number_back : (greatest n : ℕ) → greatest < 2 ^ 64 → n ≤ greatest → number_in 10 0 greatest (decimal n) ≡ Ok n
number_back greatest n small below =
    let numeral = decimal_is_IsNumeral n (omega (arith, small, below)) in
    reads_value 10 greatest n (decimal n) numeral.0 numeral.1 below

pub mode_back : (n : ℕ) → n ≤ MODE_LIMIT → number_in 8 0 MODE_LIMIT (octal n) ≡ Ok n
mode_back n below =
    let numeral = digits_is_IsNumeral 8 false (lit≤ tt) (lit≤ tt) n (omega (arith, below)) in
    reads_value 8 MODE_LIMIT n (octal n) numeral.0 numeral.1 below

-- Digits are printable

digit_graphic : (base c : ℕ) → base ≤ 10 → digit_value c < base → is_ascii_graphic c ≡ true
digit_graphic base c low d = grind (arith, nat_tests)

digits_graphic : (base : ℕ) (text : List ℕ) → base ≤ 10 → AllDigits base text → list_all is_ascii_graphic text ≡ true
digits_graphic base [] low all = refl
digits_graphic base (c ∷ cs) low all = join (is_ascii_graphic c) (list_all is_ascii_graphic cs) (digit_graphic base c low all.0) (digits_graphic base cs low all.1)

pub numeral_word : (base : ℕ) (text : List ℕ) → base ≤ 10 → IsNumeral base text → is_word text ≡ true
numeral_word base [] low numeral = absurd (omega (arith, numeral.0))
numeral_word base (c ∷ cs) low numeral = digits_graphic base (c ∷ cs) low numeral.1

pub decimal_word : (n : ℕ) → n < 2 ^ 64 → is_word (decimal n) ≡ true
decimal_word n small = numeral_word 10 (decimal n) (lit≤ tt) (decimal_is_IsNumeral n small).0

pub octal_word : (n : ℕ) → n ≤ MODE_LIMIT → is_word (octal n) ≡ true
octal_word n below = numeral_word 8 (octal n) (lit≤ tt) (digits_is_IsNumeral 8 false (lit≤ tt) (lit≤ tt) n (omega (arith, below))).0

-- Lists of numbers

groups_joined : (group : ℕ) (groups : List ℕ) → groups_text (group ∷ groups) ≡ join_with_byte (byte ",") (map decimal (group ∷ groups))
groups_joined group [] = search rules
groups_joined group (next ∷ groups) =
    ap (λ more. decimal group ++ more) (flat_map-cons (λ next. byte "," ∷ decimal next) next groups)
    ∙ ap (λ more. decimal group ++ byte "," ∷ more) (groups_joined next groups)

numbers_free : (groups : List ℕ) → All (λ group. group ≤ UID_MAX) groups → AllByRecursion (IsFree (byte ",")) (map decimal groups)
numbers_free [] each = tt
numbers_free (group ∷ groups) each =
    let fits : group ≤ UID_MAX = All-head (λ group. group ≤ UID_MAX) group groups each in
    (digits_free (byte ",") (decimal group) (lit≤ tt) (decimal_is_IsNumeral group (omega (arith, fits))).0.1, numbers_free groups (All-tail (λ group. group ≤ UID_MAX) group groups each))

numbers_back : (groups : List ℕ) → All (λ group. group ≤ UID_MAX) groups → map (number_in 10 0 UID_MAX) (map decimal groups) ≡ map Ok groups
numbers_back [] each = refl
numbers_back (group ∷ groups) each =
    let here = number_back UID_MAX group (lit≤ tt) (All-head (λ group. group ≤ UID_MAX) group groups each) in
    let more = numbers_back groups (All-tail (λ group. group ≤ UID_MAX) group groups each) in cc

pub groups_back : (groups : List ℕ) → groups ≢ [] → All (λ group. group ≤ UID_MAX) groups → map (number_in 10 0 UID_MAX) (parts (byte ",") (groups_text groups)) ≡ map Ok groups
groups_back [] some each = absurd (some refl)
groups_back (group ∷ groups) some each =
    ap (λ text. map (number_in 10 0 UID_MAX) (parts (byte ",") text)) (groups_joined group groups)
    ∙ ap (map (number_in 10 0 UID_MAX)) (parts_join (byte ",") (map decimal (group ∷ groups)) (λ e. cc) (numbers_free (group ∷ groups) each))
    ∙ numbers_back (group ∷ groups) each

more_graphic : (groups : List ℕ) → All (λ group. group ≤ UID_MAX) groups → list_all is_ascii_graphic (flat_map (λ next. byte "," ∷ decimal next) groups) ≡ true
more_graphic [] each = refl
more_graphic (group ∷ groups) each =
    let fits : group ≤ UID_MAX = All-head (λ group. group ≤ UID_MAX) group groups each in
    let here = (both (is_some_text (decimal group)) (list_all is_ascii_graphic (decimal group)) (decimal_word group (omega (arith, fits)))).1 in
    ap (list_all is_ascii_graphic) (flat_map-cons (λ next. byte "," ∷ decimal next) group groups)
    ∙ all_append is_ascii_graphic (decimal group) (flat_map (λ next. byte "," ∷ decimal next) groups) here (more_graphic groups (All-tail (λ group. group ≤ UID_MAX) group groups each))

pub word_more : (a b : List ℕ) → is_word a ≡ true → list_all is_ascii_graphic b ≡ true → is_word (a ++ b) ≡ true
word_more [] b word all = absurd (cc)
word_more (x ∷ a) b word all = all_append is_ascii_graphic (x ∷ a) b word all

pub groups_word : (groups : List ℕ) → groups ≢ [] → All (λ group. group ≤ UID_MAX) groups → is_word (groups_text groups) ≡ true
groups_word [] some each = absurd (some refl)
groups_word (group ∷ groups) some each =
    let fits : group ≤ UID_MAX = All-head (λ group. group ≤ UID_MAX) group groups each in
    word_more (decimal group) (flat_map (λ next. byte "," ∷ decimal next) groups) (decimal_word group (omega (arith, fits)))
    (more_graphic groups (All-tail (λ group. group ≤ UID_MAX) group groups each))

-- Bytes

byte_graphic : (byte : ℕ) → byte < 256 → list_all is_ascii_graphic (escaped_byte byte) ≡ true
byte_graphic byte small = grind (arith, nat_tests)

byte_some : (byte : ℕ) (rest : List ℕ) → is_some_text (escaped_byte byte ++ rest) ≡ true
byte_some byte rest = by_test (is_literal byte) where
  by_test : (literal : Bool) → is_some_text ((if literal then byte ∷ [] else 92 ∷ digit_char (byte / 16) ∷ digit_char (byte % 16) ∷ []) ++ rest) ≡ true
  by_test true = refl
  by_test false = refl

bytes_graphic : (bytes : List ℕ) → All (λ byte. byte < 256) bytes → list_all is_ascii_graphic (flat_map escaped_byte bytes) ≡ true
bytes_graphic [] all = refl
bytes_graphic (byte ∷ bytes) all =
    ap (list_all is_ascii_graphic) (flat_map-cons escaped_byte byte bytes)
    ∙ all_append is_ascii_graphic (escaped_byte byte) (flat_map escaped_byte bytes) (byte_graphic byte (All-head (λ byte. byte < 256) byte bytes all)) (bytes_graphic bytes (All-tail (λ byte. byte < 256) byte bytes all))

pub text_word : (bytes : List ℕ) → bytes ≢ [] → All (λ byte. byte < 256) bytes → is_word (escaped bytes) ≡ true
unfolding escaped
text_word [] some all = absurd (some refl)
text_word (byte ∷ bytes) some all =
    join (is_some_text (flat_map escaped_byte (byte ∷ bytes))) _ (ap is_some_text (flat_map-cons escaped_byte byte bytes) ∙ byte_some byte (flat_map escaped_byte bytes)) (bytes_graphic (byte ∷ bytes) all)

by_recursion : (bytes : List ℕ) → All (λ byte. byte < 256) bytes → AllByRecursion (λ byte. byte < 256) bytes
by_recursion [] all = tt
by_recursion (byte ∷ bytes) all = (All-head (λ byte. byte < 256) byte bytes all, by_recursion bytes (All-tail (λ byte. byte < 256) byte bytes all))

pub text_back : (bytes : List ℕ) → All (λ byte. byte < 256) bytes → bytes_of (escaped bytes) ≡ Ok bytes
text_back bytes all = escaped_stands bytes (by_recursion bytes all)
