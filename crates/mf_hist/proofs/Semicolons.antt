-- The words between semicolons, and the rules that they add.
use Rattle.std.proofs.Common.{◌≡◌, ℕ, ◌+◌, ◌<◌, Bool, true, false, cond, List, [], ◌∷◌, ◌++◌, length, Option, Some, None, map, Bor, refl, sym, ap, ◌∙◌, arith, append-nil, length-append}
use Rattle.std.proofs.lemmas.List.Splits.{slice_split_none, slice_split_at}
use Rattle.std.specs.Prelude.{codes, All, MatchOption, is_some, replicate}
use Rattle.std.specs.Str.{bytes_eq}
use Rattle.mf_words.specs.Words.{Words}
use Rattle.mf_rule.specs.RuleList.{Slots}
use Rattle.mf_rule.specs.declared.rule_list.TheConstants.{MAX_RULES}
use Rattle.mf_hist.specs.declared.unread.Unread.{Unread}
use Rattle.mf_hist.specs.declared.unread.Unread.TheVariants.{NoLine, Memory}
use Rattle.mf_labeltext.specs.Reading.{◌>>=◌}
use Rattle.mf_hist.specs.Reading.{IsUnread, parts_added, by_semicolons, with_numbered_rule, no_rules, rules_behind, IsFront, Becomes}

abbrev pub is_semicolon : List ℕ → Bool
is_semicolon w = bytes_eq w (codes ";")

pub front_then : (ws front : Words) (w : List ℕ) (rest : Words) → All (λ w. is_semicolon w ≡ false) front → is_semicolon w ≡ true → ws ≡ front ++ w ∷ rest → IsFront true front ws rest
unfolding by_semicolons
front_then ws front w rest none is same =
    (ap by_semicolons same ∙ slice_split_at is_semicolon front w rest none is, omega (arith, ap (λ (xs : Words). length xs) same, length-append front (w ∷ rest)))

pub front_all : (ws front rest : Words) → All (λ w. is_semicolon w ≡ false) front → rest ≡ [] → ws ≡ front ++ rest → IsFront false front ws rest
unfolding by_semicolons
front_all ws front rest none end same = ap by_semicolons (same ∙ ap (λ rest. front ++ rest) end ∙ append-nil front) ∙ slice_split_none is_semicolon front none

-- the texts of borrowed words
abbrev pub texts : List (Bor (List ℕ)) → Words
texts words = map (λ word. word.now) words

pub adds : (more : Bool) (before after : Slots) (ws : Words) (front held : List (Bor (List ℕ))) (rest : Words) → IsFront more (texts front) ws rest → with_numbered_rule before (texts held) ≡ Some after → held ≡ front
    → Becomes more after rest (parts_added with_numbered_rule before (by_semicolons ws))
unfolding parts_added
adds true before after ws front held rest parted added same =
    let one : with_numbered_rule before (texts front) ≡ Some after = ap (λ xs. with_numbered_rule before (texts xs)) (sym same) ∙ added in
    sym (ap (parts_added with_numbered_rule before) parted.0 ∙ ap (λ found. found >>= (λ more. parts_added with_numbered_rule more (by_semicolons rest))) one)
adds false before after ws front held rest parted added same =
    let one : with_numbered_rule before (texts front) ≡ Some after = ap (λ xs. with_numbered_rule before (texts xs)) (sym same) ∙ added in
    ap (parts_added with_numbered_rule before) parted ∙ ap (λ found. found >>= (λ more. parts_added with_numbered_rule more [])) one

-- the first of the parts, and the others
front_parts : (more : Bool) (ws front rest : Words) → IsFront more front ws rest → (others : List Words) × (by_semicolons ws ≡ front ∷ others)
front_parts true ws front rest parted = (by_semicolons rest, parted.0)
front_parts false ws front rest parted = ([], parted)

pub adds_none : (unread : Unread) (more : Bool) (before : Slots) (ws : Words) (front held : List (Bor (List ℕ))) (rest : Words) → IsFront more (texts front) ws rest → IsUnread unread (with_numbered_rule before (texts held)) → held ≡ front
    → IsUnread unread (parts_added with_numbered_rule before (by_semicolons ws))
unfolding parts_added
adds_none Memory more before ws front held rest parted fails same = tt
adds_none NoLine more before ws front held rest parted fails same =
    let parts = front_parts more ws (texts front) rest parted in
    let none : with_numbered_rule before (texts front) ≡ None = ap (λ xs. with_numbered_rule before (texts xs)) (sym same) ∙ fails in
    ap (parts_added with_numbered_rule before) parts.1 ∙ ap (λ found. found >>= (λ more. parts_added with_numbered_rule more parts.0)) none

pub less_words : (more : Bool) (front ws rest : Words) → IsFront more front ws rest → more ≡ true → length rest < length ws
less_words true front ws rest parted is = parted.1
less_words false front ws rest parted is = absurd cc

-- behind the first semicolon
pub begins : (word : Option (Bor (List ℕ))) (more : Bool) (rules : Slots) (ws rest : Words) → MatchOption word ((ws ≡ []) × (rest ≡ [])) (λ word. ws ≡ word.now ∷ rest) → more ≡ is_some word → rules ≡ replicate MAX_RULES None
    → Becomes more rules rest (rules_behind ws)
unfolding rules_behind no_rules
begins None true rules ws rest found is empty = absurd cc
begins None false rules ws rest found is empty = ap rules_behind found.0 ∙ ap (λ slots. Some slots) (sym empty)
begins (Some word) true rules ws rest found is empty = ap (λ slots. parts_added with_numbered_rule slots (by_semicolons rest)) empty ∙ sym (ap rules_behind found)
begins (Some word) false rules ws rest found is empty = absurd cc

pub fewer : (before after : Bool) (ws rest : Words) → before ≡ true → (after ≡ true → length rest < length ws) → cond after (length rest + 1) 0 < cond before (length ws + 1) 0
fewer true true ws rest is less = let lt = less refl in omega (arith, lt)
fewer true false ws rest is less = omega arith
fewer false after ws rest is less = absurd cc
