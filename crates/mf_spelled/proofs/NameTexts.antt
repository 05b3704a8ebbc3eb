-- Names, paths and the words of calls are words.
use Rattle.std.proofs.Common.{◌≡◌, ℕ, ◌≤◌, true, not, ◌&&◌, ◌==◌, List, [], ◌∷◌, ◌++◌, length, refl, sym, ap, ◌∙◌, arith}
use Rattle.std.specs.Prelude.{All, codes, nat_le}
use Rattle.std.proofs.lemmas.Bool.{leb-true}
use Rattle.std.proofs.lemmas.Bool.Decides.{nat_tests}
use Rattle.std.proofs.lemmas.List.Splits.{length-slice_split}
use Rattle.std.proofs.lemmas.List.Elements.{All-head, All-tail}
use Rattle.std.specs.Char.{is_ascii_graphic}
use Rattle.std.specs.List.{list_all, slice_split, join_with_byte}
use Rattle.std.specs.Str.{byte, bytes_eq}
use Rattle.mf_labeltext.specs.Reading.{parts}
use Rattle.mf_labeltext.proofs.Cutting.{join_parts}
use Rattle.mf_calls.specs.Names.{is_some_text, is_name, is_name_byte, is_component, is_component_byte, is_process_name}
use Rattle.mf_calls.specs.WellFormed.{IsPath, IsPrintable, IsWord}
use Rattle.mf_spelled.proofs.WordTexts.{is_word, both, join, all_append, all_map}
use Rattle.mf_spelled.proofs.NumberTexts.{word_more}

component_graphic : (b : ℕ) → is_component_byte b ≡ true → is_ascii_graphic b ≡ true
component_graphic b h = grind (arith, nat_tests)

name_graphic : (b : ℕ) → is_name_byte b ≡ true → is_ascii_graphic b ≡ true
name_graphic b h = grind (arith, nat_tests)

pub name_word : (w : List ℕ) → is_name w ≡ true → is_word w ≡ true
name_word w h =
    let a = both (is_some_text w && nat_le (length w) 32) (list_all is_name_byte w) h in
    join (is_some_text w) (list_all is_ascii_graphic w) (both (is_some_text w) (nat_le (length w) 32) a.0).0 (all_map is_name_byte is_ascii_graphic w name_graphic a.1)

component_bytes : (w : List ℕ) → is_component w ≡ true → list_all is_ascii_graphic w ≡ true
component_bytes w h =
    let a = both (is_some_text w && nat_le (length w) 32 && list_all is_component_byte w && not (bytes_eq w (codes "."))) (not (bytes_eq w (codes ".."))) h in
    let b = both (is_some_text w && nat_le (length w) 32 && list_all is_component_byte w) (not (bytes_eq w (codes "."))) a.0 in
    let c = both (is_some_text w && nat_le (length w) 32) (list_all is_component_byte w) b.0 in
    all_map is_component_byte is_ascii_graphic w component_graphic c.1

joined_bytes : (names : List (List ℕ)) → All (λ name. is_component name ≡ true) names → list_all is_ascii_graphic (join_with_byte (byte "/") names) ≡ true
joined_bytes [] each = refl
joined_bytes (name ∷ []) each = component_bytes name (All-head (λ name. is_component name ≡ true) name [] each)
joined_bytes (name ∷ next ∷ names) each =
    all_append is_ascii_graphic name (byte "/" ∷ join_with_byte (byte "/") (next ∷ names)) (component_bytes name (All-head (λ name. is_component name ≡ true) name (next ∷ names) each))
    (joined_bytes (next ∷ names) (All-tail (λ name. is_component name ≡ true) name (next ∷ names) each))

pub path_word : (names : List (List ℕ)) → IsPath names → is_word (byte "/" ∷ join_with_byte (byte "/") names) ≡ true
path_word names formed = joined_bytes names formed.each

-- the full name of a process: its task's name, and a dot and the child's behind it
process_bytes : (names : List (List ℕ)) → 1 ≤ length names → (nat_le (length names) 2 && list_all is_name names) ≡ true → is_word (join_with_byte (byte ".") names) ≡ true
process_bytes [] some e = absurd (omega (arith, some))
process_bytes (name ∷ []) some e = name_word name (both (is_name name) true e).0
process_bytes (name ∷ child ∷ []) some e =
    let each = both (is_name name) (is_name child && true) e in
    let behind = both (is_some_text child) (list_all is_ascii_graphic child) (name_word child (both (is_name child) true each.1).0) in
    word_more name (byte "." ∷ child) (name_word name each.0) behind.1
process_bytes (name ∷ child ∷ other ∷ names) some e =
    let all = name ∷ child ∷ other ∷ names in
    let few : length all ≤ 2 = leb-true (length all) 2 (both (nat_le (length all) 2) (list_all is_name all) e).0 in
    absurd (omega (arith, few))

pub process_word : (w : List ℕ) → is_process_name w ≡ true → is_word w ≡ true
unfolding parts
process_word w h = ap is_word (sym (join_parts (byte ".") w)) ∙ process_bytes (slice_split (λ b. b == byte ".") w) (omega (arith, length-slice_split (λ b. b == byte ".") w)) h

all_graphic : (w : List ℕ) → All (λ b. is_ascii_graphic b ≡ true) w → list_all is_ascii_graphic w ≡ true
all_graphic [] each = refl
all_graphic (b ∷ w) each =
    join (is_ascii_graphic b) (list_all is_ascii_graphic w) (All-head (λ b. is_ascii_graphic b ≡ true) b w each) (all_graphic w (All-tail (λ b. is_ascii_graphic b ≡ true) b w each))

pub any_word : (w : List ℕ) → IsWord w → is_word w ≡ true
any_word w word = join (is_some_text w) (list_all is_ascii_graphic w) word.some (all_graphic w word.printable.each)

some_behind : (name value : List ℕ) → is_some_text (name ++ byte "=" ∷ value) ≡ true
some_behind [] value = refl
some_behind (b ∷ name) value = refl

pub setting_word : (name value : List ℕ) → IsPrintable name → IsPrintable value → is_word (name ++ byte "=" ∷ value) ≡ true
setting_word name value named valued =
    join (is_some_text (name ++ byte "=" ∷ value)) (list_all is_ascii_graphic (name ++ byte "=" ∷ value)) (some_behind name value)
    (all_append is_ascii_graphic name (byte "=" ∷ value) (all_graphic name named.each) (all_graphic value valued.each))
