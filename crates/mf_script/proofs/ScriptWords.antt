-- The words of a script's line, and the words that readers leave.
use Rattle.std.proofs.Common.{All, ◌≡◌, ℕ, suc, ◌<◌, ◌≤◌, Bool, true, false, ◌&&◌, ◌||◌, List, [], ◌∷◌, length, refl, arith}
use Rattle.std.specs.Prelude.{nat_le}
use Rattle.std.specs.List.{AllByRecursion, list_all}
use Rattle.std.specs.Char.{is_ascii_graphic}
use Rattle.std.proofs.lemmas.Bool.{leb-true}
use Rattle.std.proofs.lemmas.List.Elements.{All-nil, All-cons}
use Rattle.mf_words.specs.Words.{Words, words_in, is_blank}
use Rattle.mf_words.proofs.Pieces.{InWord, IsWordOf, words_pieces}
use Rattle.mf_names.specs.declared.limits.TheConstants.{SCRIPT_LIMIT}
use Rattle.mf_calls.specs.Names.{is_some_text}
use Rattle.mf_calls.specs.WellFormed.{IsWord}
use Rattle.mf_script.specs.Readers.{Read}
use Rattle.mf_spelling.specs.Spelling.{is_line_byte}
use Rattle.mf_script.specs.Parts.{word_by, fixed, field}
use Rattle.mf_script.proofs.Yields.{Yields, done, refused, chain, skip, checked}

abbrev pub AreWords : Words → Type 0
AreWords ws = AllByRecursion IsWord ws

-- Words of a line

abbrev IsPlain : ℕ → Type 0
IsPlain b = is_line_byte b ≡ true

second_of_two : (a b : Bool) → (a || b) ≡ true → a ≡ false → b ≡ true
second_of_two true b e no_a = cc
second_of_two false b e no_a = e

all_graphic : (w : List ℕ) → AllByRecursion (InWord IsPlain) w → All (λ b. is_ascii_graphic b ≡ true) w
all_graphic [] each = All-nil _
all_graphic (b ∷ w) each = All-cons (λ b. is_ascii_graphic b ≡ true) b w (second_of_two (is_blank b) (is_ascii_graphic b) each.0.0 each.0.1) (all_graphic w each.1)

some_bytes : (w : List ℕ) → 1 ≤ length w → is_some_text w ≡ true
some_bytes [] some = absurd (omega (arith, some))
some_bytes (b ∷ w) some = refl

are_words : (most : ℕ) (ws : Words) → most ≤ SCRIPT_LIMIT → AllByRecursion (IsWordOf IsPlain most) ws → AreWords ws
are_words most [] le are = tt
are_words most (w ∷ ws) le are =
    (record { some = some_bytes w are.0.some; printable = record { each = all_graphic w are.0.each; few = omega (arith, are.0.few, le) } }, are_words most ws le are.1)

pub both : (a b : Bool) → (a && b) ≡ true → (a ≡ true) × (b ≡ true)
both true b e = (refl, e)
both false b e = cc

plain_bytes : (line : List ℕ) → list_all is_line_byte line ≡ true → AllByRecursion IsPlain line
plain_bytes [] e = tt
plain_bytes (b ∷ line) e = let tests = both (is_line_byte b) (list_all is_line_byte line) e in (tests.0, plain_bytes line tests.1)

pub script_words : (line : List ℕ) → list_all is_line_byte line ≡ true → length line ≤ SCRIPT_LIMIT → AreWords (words_in line)
script_words line e few = are_words (length line) (words_in line) few (words_pieces IsPlain line (plain_bytes line e))

-- a printable byte of ASCII is a byte
graphic_fits : (b : ℕ) → is_ascii_graphic b ≡ true → b < 256
graphic_fits b e = let tests = both (nat_le 33 b) (nat_le b 126) e in omega (arith, leb-true b 126 tests.1)

pub word_fits : (w : List ℕ) → All (λ b. is_ascii_graphic b ≡ true) w → AllByRecursion (λ b. b < 256) w
word_fits [] each = tt
word_fits (b ∷ w) each = (graphic_fits b (each 0 b (omega arith)), word_fits w (λ i d within. each (suc i) d (omega (arith, within))))

-- Words behind those that are read

pub by_word : {A : Type 0} {P : A → Type 0} (read : List ℕ → Read A) → ((w : List ℕ) → IsWord w → Yields P (read w))
    → (ws : Words) → AreWords ws → Yields (λ x. P x.0 × AreWords x.1) (word_by read ws)
by_word read each [] are = refused
by_word read each (w ∷ ws) are = chain _ _ (each w are.0) (λ x p. done (p, are.1))

pub any_word : {A : Type 0} (read : List ℕ → Read A) (ws : Words) → AreWords ws → Yields (λ x. AreWords x.1) (word_by read ws)
any_word read [] are = refused
any_word read (w ∷ ws) are = skip _ _ (λ x. done are.1)

fixed_word : (text : List ℕ) (ws : Words) → AreWords ws → Yields AreWords (fixed text ws)
fixed_word text [] are = refused
fixed_word text (w ∷ ws) are = checked _ _ _ (λ e. done are.1)

pub by_field : {A : Type 0} {P : A → Type 0} (text : List ℕ) (read : List ℕ → Read A) → ((w : List ℕ) → IsWord w → Yields P (read w))
    → (ws : Words) → AreWords ws → Yields (λ x. P x.0 × AreWords x.1) (field text read ws)
unfolding field
by_field text read each ws are = chain _ _ (fixed_word text ws are) (λ ws ws_ok. by_word read each ws ws_ok)
