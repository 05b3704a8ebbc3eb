-- The rules of a list with their numbers, slot after slot.
use Rattle.std.proofs.Common.{◌≡◌, ℕ, ◌+◌, ◌<◌, ◌≤◌, Bool, true, false, List, [], ◌∷◌, ◌++◌, length, get_or, take, Option, Some, None, refl, sym, ap, ◌∙◌, arith, append-nil, append_assoc, length-append}
use mir.Val.{bool_byte}
use Rattle.std.proofs.lemmas.List.{take_more, length-take}
use Rattle.std.proofs.lemmas.List.Concat.{flat_map-append}
use Rattle.std.specs.Prelude.{is_some}
use Rattle.std.specs.List.{flat_map}
use Rattle.mf_rule.specs.RuleList.{Slots}
use Rattle.mf_rule.specs.declared.rule.Rule.{Rule}
use Rattle.mf_hist.specs.ReplyText.{numbered_from, numbered_text}

-- the rule of one slot with its number, where there is one
abbrev pub with_number : ℕ → Option Rule → List (ℕ × Rule)
with_number n None = []
with_number n (Some rule) = (n, rule) ∷ []

numbered_cons : (n : ℕ) (slot : Option Rule) (slots : Slots) → numbered_from n (slot ∷ slots) ≡ with_number n slot ++ numbered_from (n + 1) slots
numbered_cons n None slots = refl
numbered_cons n (Some rule) slots = refl

numbered_append : (n m : ℕ) (slots : Slots) (slot : Option Rule) → m ≡ n + length slots → numbered_from n (slots ++ slot ∷ []) ≡ numbered_from n slots ++ with_number m slot
numbered_append n m [] slot is =
    let same : m ≡ n = omega (arith, is) in
    numbered_cons n slot [] ∙ append-nil (with_number n slot) ∙ ap (λ k. with_number k slot) (sym same)
numbered_append n m (None ∷ slots) slot is = numbered_append (n + 1) m slots slot (omega (arith, is))
numbered_append n m (Some rule ∷ slots) slot is = ap (λ rules. (n, rule) ∷ rules) (numbered_append (n + 1) m slots slot (omega (arith, is)))

-- with one slot more
numbered_more : (slots : Slots) (n : ℕ) → n < length slots → numbered_from 0 (take (n + 1) slots) ≡ numbered_from 0 (take n slots) ++ with_number n (get_or slots n None)
numbered_more slots n within =
    ap (numbered_from 0) (take_more slots n None within)
    ∙ numbered_append 0 n (take n slots) (get_or slots n None) (omega (arith, length-take n slots))

-- the text with one slot more
abbrev so_far : Slots → ℕ → List ℕ
so_far slots n = flat_map numbered_text (numbered_from 0 (take n slots))

text_more : (slots items : Slots) (n : ℕ) (slot : Option Rule) → items ≡ slots → n < length items → get_or items n None ≡ slot → so_far slots (n + 1) ≡ so_far slots n ++ flat_map numbered_text (with_number n slot)
text_more slots items n slot same within is =
    let long : length items ≡ length slots = ap (λ xs. length xs) same in
    let at : get_or slots n None ≡ slot = ap (λ xs. get_or xs n None) (sym same) ∙ is in
    ap (flat_map numbered_text) (numbered_more slots n (omega (arith, within, long)))
    ∙ flat_map-append numbered_text (numbered_from 0 (take n slots)) (with_number n (get_or slots n None))
    ∙ ap (λ slot. so_far slots n ++ flat_map numbered_text (with_number n slot)) at

pub rule_pushed : (slots items : Slots) (n : ℕ) (rule : Rule) (front before after : List ℕ) → items ≡ slots → n < length items → get_or items n None ≡ Some rule
    → before ≡ front ++ so_far slots n → after ≡ before ++ numbered_text (n, rule) → after ≡ front ++ so_far slots (n + 1)
rule_pushed slots items n rule front before after same within is text pushed =
    let one : so_far slots (n + 1) ≡ so_far slots n ++ numbered_text (n, rule) = text_more slots items n (Some rule) same within is ∙ ap (λ t. so_far slots n ++ t) (append-nil (numbered_text (n, rule))) in
    pushed ∙ ap (λ t. t ++ numbered_text (n, rule)) text ∙ append_assoc front (so_far slots n) (numbered_text (n, rule)) ∙ ap (λ t. front ++ t) (sym one)

pub none_pushed : (slots items : Slots) (n : ℕ) (front before : List ℕ) → items ≡ slots → n < length items → get_or items n None ≡ None
    → before ≡ front ++ so_far slots n → before ≡ front ++ so_far slots (n + 1)
none_pushed slots items n front before same within is text =
    let one : so_far slots (n + 1) ≡ so_far slots n = text_more slots items n None same within is ∙ append-nil (so_far slots n) in
    text ∙ ap (λ t. front ++ t) (sym one)

length_more : (slots : Slots) (n : ℕ) → n < length slots → length (numbered_from 0 (take (n + 1) slots)) ≡ length (numbered_from 0 (take n slots)) + length (with_number n (get_or slots n None))
length_more slots n within = ap (λ rules. length rules) (numbered_more slots n within) ∙ length-append (numbered_from 0 (take n slots)) (with_number n (get_or slots n None))

one_length : (n : ℕ) (slot : Option Rule) → length (with_number n slot) ≡ bool_byte (is_some slot)
one_length n None = refl
one_length n (Some rule) = refl

-- one more is counted where the slot has a rule
pub counted : (slots items : Slots) (n count one : ℕ) (is : Bool) → items ≡ slots → n < length items → is ≡ is_some (get_or items n None) → one ≡ bool_byte is
    → count ≡ length (numbered_from 0 (take n slots)) → count + one ≡ length (numbered_from 0 (take (n + 1) slots))
counted slots items n count one is same within test byte so_far =
    let long : length items ≡ length slots = ap (λ xs. length xs) same in
    let of : one ≡ length (with_number n (get_or slots n None)) = byte ∙ ap bool_byte test ∙ ap (λ xs. bool_byte (is_some (get_or xs n None))) same ∙ sym (one_length n (get_or slots n None)) in
    omega (arith, so_far, of, length_more slots n (omega (arith, within, long)))

one_most : (is : Bool) → bool_byte is ≤ 1
one_most true = omega arith
one_most false = omega arith

pub few_more : (n count one : ℕ) (is : Bool) → one ≡ bool_byte is → count ≤ n → count + one ≤ n + 1
few_more n count one is byte few = omega (arith, byte, one_most is)
