-- Which rules of a list may match a subject and a file of a kind, by their tests of uids and of the type alone: this model's own.
use Rattle.std.specs.Prelude.{ℕ, Bool, false, not, ◌&&◌, ◌||◌, if◌then◌else◌, List, Option, Some, None, filter, slice_index_or}
use Rattle.std.specs.List.{range_with_len}
use Rattle.std.specs.Option.{option_map_or}
use Rattle.mf_cred.specs.declared.cred.Cred.{Cred}
use Rattle.mf_rule.specs.Match.{if_asked, turned, has_uid, has_type}
use Rattle.mf_rule.specs.RuleList.{Slots}
use Rattle.mf_rule.specs.declared.rule.Side.{Side}
use Rattle.mf_rule.specs.declared.rule.ObjectSide.{ObjectSide}
use Rattle.mf_rule.specs.declared.rule.Rule.{Rule}
use Rattle.mf_rule.specs.declared.rule_list.TheConstants.{MAX_RULES}

-- by its test of uids the part may match the subject; `not` and `!` rule nobody out
abbrev pub subject_may : Side → Cred → Bool
subject_may side cred = side.not || if_asked side.uid (λ test. test.not || has_uid test cred)

-- by its test of the type the part may match a directory, or another file; `not` rules neither out
abbrev pub object_may : ObjectSide → Bool → Bool
object_may object dir = object.side.not || if_asked object.types (λ test. turned test.not (has_type test.types dir))

-- a rule has the number, and may match
abbrev pub may_match : Cred → Bool → Option Rule → Bool
may_match cred dir slot = option_map_or (λ rule. subject_may rule.subject cred && object_may rule.object dir) slot false

-- the numbers of the rules that may match, rising
unfoldable pub candidates : Slots → Cred → Bool → List ℕ
candidates slots cred dir = filter (λ n. may_match cred dir (slice_index_or slots n None)) (range_with_len 0 MAX_RULES)

-- what a slot decides, by whether its rule matches and whether it gives the letters: with first match either way, and without only where it
-- doesn't give them
abbrev pub decided : Bool → Bool → Bool → Option Bool
decided first is_match gives = if is_match && (first || not gives) then Some gives else None
