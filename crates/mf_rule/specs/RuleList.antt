-- Rule lists: for each number from 0 on that is below MAX_RULES a rule, or none; and their verdict.
--
-- That the first match decides, or else every match, is mac_bsdextended(4)'s. That a list has at most 250 rules, where that page says 256, and
-- that what no rule matches is allowed, is this model's own choice.
use Rattle.std.specs.Prelude.{ℕ, Bool, true, false, not, ◌||◌, ◌==◌, List, Option, Some, None, find, slice_set}
use Rattle.std.specs.Int.RustNames.{bit_and}
use Rattle.std.specs.List.{list_all}
use Rattle.std.specs.Option.{option_map_or}
use Rattle.mf_cred.specs.declared.cred.Cred.{Cred}
use Rattle.mf_cred.specs.declared.cred.FileView.{FileView}
use Rattle.mf_rule.specs.Match.{matches}
use Rattle.mf_rule.specs.declared.rule.Rule.{Rule}

-- the rule of each number, from 0 on
abbrev pub Slots : Type 0
Slots = List (Option Rule)

-- a rule has the number, and matches
abbrev pub is_match : Cred → FileView → Option Rule → Bool
is_match cred file slot = option_map_or (λ rule. matches rule cred file) slot false

-- the rule gives all of the letters that are wanted, where there is one
abbrev pub slot_gives : ℕ → Option Rule → Bool
slot_gives wanted slot = option_map_or (λ rule. bit_and rule.mode wanted == wanted) slot true

-- With first match the matching rule of the least number decides; without, every matching rule has to give the letters.
abbrev pub verdict : Bool → Slots → Cred → FileView → ℕ → Bool
verdict true slots cred file wanted = option_map_or (slot_gives wanted) (find (is_match cred file) slots) true
verdict false slots cred file wanted = list_all (λ slot. not (is_match cred file slot) || slot_gives wanted slot) slots

-- the list with the rule under the number, if there is one
abbrev pub slots_with : Rule → Option ℕ → Slots → Slots
slots_with rule None slots = slots
slots_with rule (Some number) slots = slice_set slots number (Some rule)
