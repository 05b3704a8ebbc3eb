-- A list of rules is read back from the words of its text, and what is read is one.
use Rattle.std.proofs.Common.{◌≡◌, ℕ, ◌+◌, ◌<◌, ◌≤◌, ◌^◌, zero, suc, Bool, true, false, List, [], ◌∷◌, ◌++◌, length, map, set, replicate, Option, Some, None, Result, Ok, Err, IfSome, ◌&&◌, refl, sym, ap, ◌∙◌, subst, arith, append_assoc, append-nil, length-append, lit<}
use Rattle.std.proofs.lemmas.Bool.{lt-ltb}
use Rattle.std.proofs.lemmas.List.{length-set, length-replicate}
use Rattle.std.proofs.lemmas.List.Elements.{All-from_recursion}
use Rattle.std.proofs.lemmas.List.Splits.{slice_split_none, slice_split_at}
use Rattle.std.proofs.Math.Seq.{set-append_seam}
use Rattle.std.proofs.lemmas.Bool.Decides.{nat_tests}
use Rattle.std.proofs.lemmas.Fmt.{decimal_is_IsNumeral}
use Rattle.std.specs.Prelude.{codes, nat_eq, nat_lt, All}
use Rattle.std.specs.Char.{digit_value}
use Rattle.std.specs.Str.{bytes_eq}
use Rattle.std.specs.Str.Parse.{AllDigits}
use Rattle.std.specs.Fmt.{decimal}
use Rattle.std.specs.List.{AllByRecursion, flat_map, slice_split}
use Rattle.std.specs.Result.{result_ok}
use Rattle.mf_words.specs.Words.{Words}
use Rattle.mf_rule.specs.declared.rule.Rule.{Rule}
use Rattle.mf_rule.specs.declared.rule_list.TheConstants.{MAX_RULES}
use Rattle.mf_rule.specs.Canonical.{rule_text}
use Rattle.mf_rule.specs.Reading.{rule_in}
use Rattle.mf_rule.specs.RuleGrammar.{IsRule}
use Rattle.mf_rule.specs.RuleList.{Slots}
use Rattle.mf_rule.proofs.Formed.{canonical_text_reads, read_is_rule}
use Rattle.mf_hist.specs.Lines.{AreRules}
use Rattle.mf_hist.specs.ReplyText.{numbered_from, numbered_text}
use Rattle.mf_hist.specs.Reading.{greatest_u32, only_if, next_by, number_in_word, parts_added, no_rules, by_semicolons, with_numbered_rule, rules_behind}
use Rattle.mf_hist.proofs.Added.{each_added}
use Rattle.mf_hist.proofs.Words.{is_word, AreWords, behind}
use Rattle.mf_hist.proofs.Numbers.{number_back, decimal_word}
use Rattle.mf_hist.proofs.Readers.{bind_some, some_is, then_is}
use Rattle.mf_hist.proofs.RuleWords.{words_of, words_of_rule, words_behind_text}
use Rattle.mf_hist.proofs.Semicolons.{is_semicolon}

-- a number and the words of a rule
abbrev group : ℕ × Rule → Words
group r = decimal r.0 ∷ words_of r.1

abbrev pub numbered_words : ℕ × Rule → Words
numbered_words r = codes ";" ∷ group r

abbrev pub rules_words : Slots → Words
rules_words slots = decimal (length (numbered_from 0 slots)) ∷ flat_map numbered_words (numbered_from 0 slots)

-- ---- the text is that of the words
behind_append : (a b : Words) → behind (a ++ b) ≡ behind a ++ behind b
behind_append [] b = refl
behind_append (w ∷ a) b = ap (λ t. 32 ∷ (w ++ t)) (behind_append a b) ∙ ap (λ t. 32 ∷ t) (sym (append_assoc w (behind a) (behind b)))

regroup : (a b : List ℕ) → ((32 ∷ 59 ∷ 32 ∷ a) ++ 32 ∷ []) ++ b ≡ 32 ∷ 59 ∷ 32 ∷ (a ++ 32 ∷ b)
regroup a b = simp append_assoc

one_text : (r : ℕ × Rule) → numbered_text r ≡ behind (numbered_words r)
one_text r = regroup (decimal r.0) (rule_text r.1) ∙ ap (λ t. 32 ∷ 59 ∷ 32 ∷ (decimal r.0 ++ t)) (sym (words_behind_text r.1))

pub rules_text_is : (rs : List (ℕ × Rule)) → flat_map numbered_text rs ≡ behind (flat_map numbered_words rs)
rules_text_is [] = refl
rules_text_is (r ∷ rs) =
    ap (λ t. t ++ flat_map numbered_text rs) (one_text r) ∙ ap (λ t. behind (numbered_words r) ++ t) (rules_text_is rs) ∙ sym (behind_append (numbered_words r) (flat_map numbered_words rs))

-- ---- rules with their numbers
pub record IsNumbered (r : ℕ × Rule) : Type 0 where
  pub number : r.0 < MAX_RULES
  pub rule : IsRule r.1

are_numbered : (n : ℕ) (slots : Slots) → n + length slots ≤ MAX_RULES → AllByRecursion (λ slot. IfSome slot IsRule) slots → AllByRecursion IsNumbered (numbered_from n slots)
are_numbered n [] fits all = tt
are_numbered n (None ∷ slots) fits all = are_numbered (n + 1) slots (omega (arith, fits)) all.1
are_numbered n (Some rule ∷ slots) fits all = (record { number = omega (arith, fits); rule = all.0 }, are_numbered (n + 1) slots (omega (arith, fits)) all.1)

pub rules_are_numbered : (slots : Slots) → AreRules slots → AllByRecursion IsNumbered (numbered_from 0 slots)
rules_are_numbered slots are = are_numbered 0 slots (omega (arith, are.all)) are.each

number_word : (n : ℕ) → n < MAX_RULES → is_word (decimal n) ≡ true
number_word n fits = decimal_word n (omega (arith, fits))

words_append : (a b : Words) → AreWords a → AreWords b → AreWords (a ++ b)
words_append [] b first second = second
words_append (w ∷ a) b first second = (first.0, words_append a b first.1 second)

pub numbered_are_words : (rs : List (ℕ × Rule)) → AllByRecursion IsNumbered rs → AreWords (flat_map numbered_words rs)
numbered_are_words [] all = tt
numbered_are_words (r ∷ rs) all =
    words_append (numbered_words r) (flat_map numbered_words rs) (refl, (number_word r.0 all.0.number, (words_of_rule r.1 all.0.rule).words)) (numbered_are_words rs all.1)

count_most : (n : ℕ) (slots : Slots) → length (numbered_from n slots) ≤ length slots
count_most n [] = omega arith
count_most n (None ∷ slots) = let more = count_most (n + 1) slots in omega (arith, more)
count_most n (Some rule ∷ slots) = let more = count_most (n + 1) slots in omega (arith, more)

pub rules_are_words : (slots : Slots) → AreRules slots → AreWords (rules_words slots)
rules_are_words slots are =
    let most = count_most 0 slots in
    (decimal_word (length (numbered_from 0 slots)) (omega (arith, most, are.all)), numbered_are_words (numbered_from 0 slots) (rules_are_numbered slots are))

-- ---- they are read back
decimal_semicolon : (n : ℕ) → n < 2 ^ 64 → is_semicolon (decimal n) ≡ false
decimal_semicolon n small = by_text (decimal n) (decimal_is_IsNumeral n small).0.1 where
  by_text : (text : List ℕ) → AllDigits 10 text → is_semicolon text ≡ false
  by_text [] all = refl
  by_text (b ∷ text) all = by_test (nat_eq b 59) refl where
    by_test : (t : Bool) → nat_eq b 59 ≡ t → (t && bytes_eq text []) ≡ false
    by_test true e = let is : b ≡ 59 = grind (arith, nat_tests) in absurd (omega (arith, all.0, ap digit_value is))
    by_test false e = refl

no_semicolon : (r : ℕ × Rule) → IsNumbered r → All (λ w. is_semicolon w ≡ false) (group r)
no_semicolon r is = All-from_recursion (λ w. is_semicolon w ≡ false) (group r) (decimal_semicolon r.0 (omega (arith, is.number)), (words_of_rule r.1 is.rule).none)

groups : (r : ℕ × Rule) (rs : List (ℕ × Rule)) → IsNumbered r → AllByRecursion IsNumbered rs → by_semicolons (group r ++ flat_map numbered_words rs) ≡ map group (r ∷ rs)
unfolding by_semicolons
groups r [] first all = ap (slice_split is_semicolon) (append-nil (group r)) ∙ slice_split_none is_semicolon (group r) (no_semicolon r first)
groups r (s ∷ rs) first all =
    slice_split_at is_semicolon (group r) (codes ";") (group s ++ flat_map numbered_words rs) (no_semicolon r first) refl ∙ ap (λ more. group r ∷ more) (groups s rs all.0 all.1)

added_in_turn : (rs : List (ℕ × Rule)) → AllByRecursion IsNumbered rs → rules_behind (flat_map numbered_words rs) ≡ parts_added with_numbered_rule no_rules (map group rs)
unfolding rules_behind parts_added
added_in_turn [] all = refl
added_in_turn (r ∷ rs) all = ap (parts_added with_numbered_rule no_rules) (groups r rs all.0 all.1)

one_back : (slots : Slots) (n : ℕ) (rule : Rule) → n < MAX_RULES → IsRule rule → with_numbered_rule slots (group (n, rule)) ≡ Some (set slots n (Some rule))
unfolding with_numbered_rule
one_back slots n rule fits is = rw (number_back greatest_u32 n (lit< tt) (omega (arith, fits))) (rw (lt-ltb n MAX_RULES fits) (rw (canonical_text_reads rule is) refl))

-- the first slots are done; the others are still free
abbrev Fills : Slots → Slots → Type 0
Fills front slots = parts_added with_numbered_rule (front ++ replicate (length slots) None) (map group (numbered_from (length front) slots)) ≡ Some (front ++ slots)

one_done : (front slots : Slots) (slot : Option Rule) → Fills (front ++ slot ∷ []) slots
    → parts_added with_numbered_rule (front ++ slot ∷ replicate (length slots) None) (map group (numbered_from (length front + 1) slots)) ≡ Some (front ++ slot ∷ slots)
one_done front slots slot rest =
    ap (λ begin. parts_added with_numbered_rule begin (map group (numbered_from (length front + 1) slots))) (sym (append_assoc front (slot ∷ []) (replicate (length slots) None)))
    ∙ ap (λ n. parts_added with_numbered_rule ((front ++ slot ∷ []) ++ replicate (length slots) None) (map group (numbered_from n slots))) (sym (length-append front (slot ∷ [])))
    ∙ rest ∙ ap (λ all. Some all) (append_assoc front (slot ∷ []) slots)

fills : (front slots : Slots) → length front + length slots ≤ MAX_RULES → AllByRecursion (λ slot. IfSome slot IsRule) slots → Fills front slots
unfolding parts_added
fills front [] fits all = refl
fills front (None ∷ slots) fits all = one_done front slots None (fills (front ++ None ∷ []) slots (omega (arith, fits, length-append front (None ∷ []))) all.1)
fills front (Some rule ∷ slots) fits all =
    let free = front ++ None ∷ replicate (length slots) None in
    let put : with_numbered_rule free (group (length front, rule)) ≡ Some (front ++ Some rule ∷ replicate (length slots) None) =
    one_back free (length front) rule (omega (arith, fits)) all.0 ∙ ap (λ slots. Some slots) (set-append_seam front None (replicate (length slots) None) (Some rule)) in
    then_is (with_numbered_rule free (group (length front, rule))) (front ++ Some rule ∷ replicate (length slots) None) (λ more. parts_added with_numbered_rule more (map group (numbered_from (length front + 1) slots))) put
    ∙ one_done front slots (Some rule) (fills (front ++ Some rule ∷ []) slots (omega (arith, fits, length-append front (Some rule ∷ []))) all.1)

pub rules_back : (slots : Slots) → AreRules slots → rules_behind (flat_map numbered_words (numbered_from 0 slots)) ≡ Some slots
unfolding no_rules
rules_back slots are =
    added_in_turn (numbered_from 0 slots) (rules_are_numbered slots are)
    ∙ ap (λ n. parts_added with_numbered_rule (replicate n None) (map group (numbered_from 0 slots))) (sym are.all)
    ∙ fills [] slots (omega (arith, are.all)) are.each

-- ---- what is read is a list of rules
each_set : {A : Type 0} (P : A → Type 0) (xs : List A) (i : ℕ) (y : A) → P y → AllByRecursion P xs → AllByRecursion P (set xs i y)
each_set P [] i y p all = tt
each_set P (x ∷ xs) zero y p all = (p, all.1)
each_set P (x ∷ xs) (suc i) y p all = (all.0, each_set P xs i y p all.1)

each_replicate : {A : Type 0} (P : A → Type 0) (n : ℕ) (y : A) → P y → AllByRecursion P (replicate n y)
each_replicate P zero y p = tt
each_replicate P (suc n) y p = (p, each_replicate P n y p)

ok_is : {A E : Type 0} (read : Result A E) (x : A) → result_ok read ≡ Some x → read ≡ Ok x
ok_is (Ok y) x is = cc
ok_is (Err e) x is = absurd cc

add_fits : (before after : Slots) (ws : Words) → AreRules before → with_numbered_rule before ws ≡ Some after → AreRules after
unfolding with_numbered_rule
add_fits before after ws are is =
    let n = bind_some (next_by (number_in_word greatest_u32) ws) _ after is in
    let test = bind_some (only_if (nat_lt n.0.0 MAX_RULES)) _ after n.2 in
    let rule = bind_some (result_ok (rule_in n.0.1)) _ after test.2 in
    let formed : IsRule rule.0 = read_is_rule n.0.1 rule.0 (ok_is (rule_in n.0.1) rule.0 rule.1) in
    subst AreRules (some_is (set before n.0.0 (Some rule.0)) after rule.2)
    (record { all = length-set before n.0.0 (Some rule.0) ∙ are.all; each = each_set (λ slot. IfSome slot IsRule) before n.0.0 (Some rule.0) formed are.each })

no_rules_fit : AreRules no_rules
unfolding no_rules
no_rules_fit = record { all = length-replicate {A = Option Rule} MAX_RULES None; each = each_replicate (λ slot. IfSome slot IsRule) MAX_RULES None tt }

pub rules_fit : (ws : Words) (slots : Slots) → rules_behind ws ≡ Some slots → AreRules slots
unfolding rules_behind
rules_fit [] slots is = subst AreRules (some_is no_rules slots is) no_rules_fit
rules_fit (w ∷ ws) slots is = each_added AreRules with_numbered_rule (λ acc more w. add_fits acc more w) (by_semicolons ws) no_rules slots no_rules_fit is
