-- Indexes of rules by uids of subjects: the uids are cut into stretches, each with a set of numbers of rules.
use Rattle.std.specs.Prelude.{◌≡◌, ◌==◌, ◌+◌, ◌<◌, ◌≤◌, ℕ, zero, suc, Bool, true, false, nat_le, if◌then◌else◌, List, [], ◌∷◌, Option, Some, None, length, slice_index_or}
use Rattle.std.specs.List.{list_any}
use Rattle.std.specs.List.Sorted.{IsNonDecreasingBy}
use Rattle.std.specs.Option.{option_map_or}
use Rattle.mf_cred.specs.declared.cred.Cred.{Cred}
use Rattle.mf_rule.specs.Candidates.{may_match}
use Rattle.mf_rule.specs.Match.{has}
use Rattle.mf_rule.specs.RuleBits.{has_bit, no_bits, with_bit}
use Rattle.mf_rule.specs.RuleList.{Slots}
use Rattle.mf_rule.specs.declared.rule.IdTest.{IdTest}
use Rattle.mf_rule.specs.declared.rule.TheConstants.{LAST_ID}
use Rattle.mf_rule.specs.declared.rule_bits.Bits.{Bits}
use Rattle.mf_rule.specs.declared.uid_index.Stretch.{Stretch}

abbrev pub Stretches : Type 0
Stretches = List Stretch

-- no stretch begins below the one before it
abbrev pub AreByUid : Stretches → Type 0
AreByUid stretches = IsNonDecreasingBy (λ stretch. stretch.from) stretches

-- the rules of the last stretch that begins at the uid or below; those given where there is none
abbrev pub rules_from : Bits → Stretches → ℕ → Bits
rules_from before [] uid = before
rules_from before (stretch ∷ stretches) uid = if nat_le stretch.from uid then rules_from stretch.rules stretches uid else before

-- the rules that may match a subject of the uid
abbrev pub rules_at : Stretches → ℕ → Bits
rules_at stretches uid = rules_from no_bits stretches uid

-- the rules of the last stretch before this place
abbrev pub rules_before : Stretches → ℕ → Bits
rules_before stretches zero = no_bits
rules_before stretches (suc place) = (slice_index_or stretches place (record { from = 0; rules = no_bits })).rules

-- so many stretches begin at the uid or below
pub record IsEnd (uid end : ℕ) (stretches : Stretches) : Type 0 where
  pub within : end ≤ length stretches
  pub below : (k : ℕ) (d : Stretch) → k < end → (slice_index_or stretches k d).from ≤ uid
  pub above : (k : ℕ) (d : Stretch) → end ≤ k → k < length stretches → uid < (slice_index_or stretches k d).from

-- a stretch begins at the uid
abbrev pub is_cut : ℕ → Stretches → Bool
is_cut uid stretches = list_any (λ stretch. stretch.from == uid) stretches

-- the uid lies in the range, both ends included, where there is a range; the `!` of a test isn't looked at
abbrev pub is_within : Option IdTest → ℕ → Bool
is_within range uid = option_map_or (λ range. has range uid) range false

-- there are cuts at the first uid of the range, and behind its last one
pub record AreCuts (range : IdTest) (stretches : Stretches) : Type 0 where
  pub first : is_cut range.least stretches ≡ true
  pub last : range.greatest < LAST_ID → is_cut (range.greatest + 1) stretches ≡ true

abbrev pub IsCutAround : Option IdTest → Stretches → Type 0
IsCutAround None stretches = Unit
IsCutAround (Some range) stretches = AreCuts range stretches

-- the stretch with the number, where it begins in the range, or without
abbrev pub stretch_with : ℕ → Option IdTest → Stretch → Stretch
stretch_with number range stretch =
    record { from = stretch.from; rules = with_bit number (is_within range stretch.from) stretch.rules }

-- a subject whose effective, real and saved uid is this one
abbrev pub lone : ℕ → Cred
lone uid = record { uid = uid; ruid = uid; svuid = uid; groups = [] }

-- at each uid the stretches have just the numbers of the rules that may match a subject with no other uid, and a directory or another file
abbrev pub IsIndexOf : Slots → Bool → Stretches → Type 0
IsIndexOf slots dir stretches =
    (uid number : ℕ) → uid ≤ LAST_ID → number < 256 → has_bit number (rules_at stretches uid) ≡ may_match (lone uid) dir (slice_index_or slots number None)

-- the set has just the numbers of the rules that may match
abbrev pub AreCandidates : Slots → Cred → Bool → Bits → Type 0
AreCandidates slots cred dir bits = (number : ℕ) → number < 256 → has_bit number bits ≡ may_match cred dir (slice_index_or slots number None)
