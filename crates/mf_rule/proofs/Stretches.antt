-- What cuts, marks and joins do to the rules of a uid.
use Rattle.std.proofs.Common.{◌≡◌, ℕ, zero, suc, ◌+◌, ◌<◌, ◌≤◌, true, false, cond, ◌&&◌, ◌||◌, eqb, leb, [], ◌∷◌, Option, Some, None, length, map, get_or, ◌⊎◌, ◌≢◌, refl, sym, ap, ◌∙◌, arith, inl, inr, if◌then◌else◌}
use Rattle.std.proofs.lemmas.Bool.{cases_lt, cases_eq, le-leb, lt-leb}
use Rattle.std.proofs.lemmas.List.Sorted.{IsPermutation-insert, list_any-IsPermutation}
use Rattle.std.proofs.lemmas.List.{get_or-map, length-map}
use Rattle.std.proofs.lemmas.List.Edits.{length-remove, get_or-remove_below, get_or-remove_above}
use Rattle.std.specs.List.{insert, remove}
use Rattle.mf_rule.specs.Match.{has}
use Rattle.mf_rule.specs.RuleBits.{has_bit, no_bits, with_bit}
use Rattle.mf_rule.specs.UidIndex.{Stretches, AreByUid, rules_from, rules_at, rules_before, IsEnd, is_cut, is_within, AreCuts, IsCutAround, stretch_with}
use Rattle.mf_rule.specs.declared.rule.IdTest.{IdTest}
use Rattle.mf_rule.specs.declared.rule.TheConstants.{LAST_ID}
use Rattle.mf_rule.specs.declared.rule_bits.Bits.{Bits}
use Rattle.mf_rule.specs.declared.uid_index.Stretch.{Stretch}
use Rattle.mf_rule.proofs.Bits.{bit_same, bit_other, bit_of_none}

cases_le : (a b : ℕ) → (a ≤ b) ⊎ (b < a)
cases_le a b = elim (cases_lt b a) [
  | inl below ↦ inr below
  | inr from ↦ inl from
]

-- the tail of a list of which some begin at the uid or below
end_behind : (uid end : ℕ) (stretch : Stretch) (stretches : Stretches) → IsEnd uid (suc end) (stretch ∷ stretches) → IsEnd uid end stretches
end_behind uid end stretch stretches is =
    record {
      within = omega (arith, is.within);
      below = λ k d h. is.below (suc k) d (omega arith);
      above = λ k d from h. is.above (suc k) d (omega arith) (omega arith);
    }

-- none of them begins at the uid or below
none_begins : (before : Bits) (uid : ℕ) (stretches : Stretches) → IsEnd uid 0 stretches → rules_from before stretches uid ≡ before
none_begins before uid [] is = refl
none_begins before uid (stretch ∷ stretches) is =
    let beyond = is.above 0 stretch (omega arith) (omega arith) in
    let l : leb stretch.from uid ≡ false = lt-leb stretch.from uid beyond in
    rw l refl

begins : (uid end : ℕ) (stretch : Stretch) (stretches : Stretches) → IsEnd uid (suc end) (stretch ∷ stretches) → leb stretch.from uid ≡ true
begins uid end stretch stretches is = le-leb stretch.from uid (is.below 0 stretch (omega arith))

pub rules_of_last : (before : Bits) (uid end : ℕ) (stretches : Stretches) (d : Stretch) → IsEnd uid (suc end) stretches
    → rules_from before stretches uid ≡ (get_or stretches end d).rules
rules_of_last before uid end [] d is = absurd (let w = is.within in omega (arith, w))
rules_of_last before uid zero (stretch ∷ stretches) d is =
    rw (begins uid 0 stretch stretches is) (none_begins stretch.rules uid stretches (end_behind uid 0 stretch stretches is))
rules_of_last before uid (suc end) (stretch ∷ stretches) d is =
    rw (begins uid (suc end) stretch stretches is) (rules_of_last stretch.rules uid end stretches d (end_behind uid (suc end) stretch stretches is))

pub rules_at_end : (uid end : ℕ) (stretches : Stretches) → IsEnd uid end stretches → rules_before stretches end ≡ rules_at stretches uid
rules_at_end uid zero stretches is = sym (none_begins no_bits uid stretches is)
rules_at_end uid (suc end) stretches is = sym (rules_of_last no_bits uid end stretches (record { from = 0; rules = no_bits }) is)

-- a cut changes nothing
abbrev pub cut_at : ℕ → Bits → Stretch
cut_at uid rules = record { from = uid; rules = rules }

-- the new stretch comes first
first_cut : (before : Bits) (uid other : ℕ) (stretches : Stretches) → IsEnd uid 0 stretches
    → rules_from before (cut_at uid before ∷ stretches) other ≡ rules_from before stretches other
first_cut before uid other [] is =
    elim (leb uid other) as (λ b. cond b before before ≡ before) [
      | true ↦ refl
      | false ↦ refl
    ]
first_cut before uid other (stretch ∷ stretches) is =
    elim (cases_le uid other) [
      | inl from ↦ let l : leb uid other ≡ true = le-leb uid other from in rw l refl
      | inr below ↦
          let beyond = is.above 0 stretch (omega arith) (omega arith) in
          let l : leb uid other ≡ false = lt-leb uid other below in
          let m : leb stretch.from other ≡ false = lt-leb stretch.from other (omega (arith, beyond, below)) in
          rw (l, m) refl
    ]

pub cut_changes_nothing : (before : Bits) (uid end other : ℕ) (stretches : Stretches) → IsEnd uid end stretches
    → rules_from before (insert stretches end (cut_at uid (rules_from before stretches uid))) other ≡ rules_from before stretches other
cut_changes_nothing before uid zero other stretches is =
    rw (none_begins before uid stretches is) (first_cut before uid other stretches is)
cut_changes_nothing before uid (suc end) other [] is = absurd (let w = is.within in omega (arith, w))
cut_changes_nothing before uid (suc end) other (stretch ∷ stretches) is =
    rw (begins uid end stretch stretches is)
    (ap (λ rules. cond (leb stretch.from other) rules before) (cut_changes_nothing stretch.rules uid end other stretches (end_behind uid end stretch stretches is)))

-- which cuts there are
pub is_cut_at : (uid k : ℕ) (stretches : Stretches) (d : Stretch) → k < length stretches → (get_or stretches k d).from ≡ uid → is_cut uid stretches ≡ true
is_cut_at uid k [] d h is = absurd (omega (arith, h))
is_cut_at uid zero (stretch ∷ stretches) d h is = let e : eqb stretch.from uid ≡ true = grind (arith, is) in rw e refl
is_cut_at uid (suc k) (stretch ∷ stretches) d h is =
    elim (eqb stretch.from uid) as (λ b. (b || is_cut uid stretches) ≡ true) [
      | true ↦ refl
      | false ↦ is_cut_at uid k stretches d (omega (arith, h)) is
    ]

pub is_cut_there : (uid end : ℕ) (rules : Bits) (stretches : Stretches) → is_cut uid (insert stretches end (cut_at uid rules)) ≡ true
is_cut_there uid end rules stretches =
    let e : eqb uid uid ≡ true = grind arith in
    sym (list_any-IsPermutation (λ stretch. eqb stretch.from uid) _ _ (IsPermutation-insert stretches end (cut_at uid rules)))
    ∙ ap (λ b. b || is_cut uid stretches) e

pub is_cut_still : (other uid end : ℕ) (rules : Bits) (stretches : Stretches) → is_cut other stretches ≡ true → is_cut other (insert stretches end (cut_at uid rules)) ≡ true
is_cut_still other uid end rules stretches was =
    sym (list_any-IsPermutation (λ stretch. eqb stretch.from other) _ _ (IsPermutation-insert stretches end (cut_at uid rules)))
    ∙ (elim (eqb uid other) as (λ b. (b || is_cut other stretches) ≡ true) [
      | true ↦ refl
      | false ↦ was
    ])

-- all of them begin at the uid or above
abbrev pub AllFrom : ℕ → Stretches → Type 0
AllFrom uid stretches = (k : ℕ) (d : Stretch) → k < length stretches → uid ≤ (get_or stretches k d).from

rising_behind : (stretch : Stretch) (stretches : Stretches) → AreByUid (stretch ∷ stretches) → AreByUid stretches
rising_behind stretch stretches rising = λ i j d up h. rising (suc i) (suc j) d (omega (arith, up)) (omega (arith, h))

all_from_first : (stretch : Stretch) (stretches : Stretches) → AreByUid (stretch ∷ stretches) → AllFrom stretch.from stretches
all_from_first stretch stretches rising = λ k d h. rising 0 (suc k) d (omega arith) (omega (arith, h))

-- all cuts are there, too
cut_from : (uid cut : ℕ) (stretches : Stretches) → AllFrom uid stretches → is_cut cut stretches ≡ true → uid ≤ cut
cut_from uid cut [] all is = cc
cut_from uid cut (stretch ∷ stretches) all is =
    elim (cases_eq stretch.from cut) [
      | inl same ↦ let first = all 0 stretch (omega arith) in omega (arith, first, same)
      | inr other ↦
          let e : eqb stretch.from cut ≡ false = grind (arith, other) in
          cut_from uid cut stretches (λ k d h. all (suc k) d (omega (arith, h))) (sym (ap (λ b. b || is_cut cut stretches) e) ∙ is)
    ]

-- the first stretch begins there, or another one
cut_first : (cut : ℕ) (stretch : Stretch) (stretches : Stretches) → is_cut cut (stretch ∷ stretches) ≡ true → (cut ≤ stretch.from) ⊎ (is_cut cut stretches ≡ true)
cut_first cut stretch stretches is =
    elim (cases_eq stretch.from cut) [
      | inl same ↦ inl (omega (arith, same))
      | inr other ↦ let e : eqb stretch.from cut ≡ false = grind (arith, other) in inr (sym (ap (λ b. b || is_cut cut stretches) e) ∙ is)
    ]

-- marks of other numbers
pub others_stay : (number : ℕ) (range : Option IdTest) (n : ℕ) → number < 256 → n < 256 → n ≢ number → (before after : Bits) (stretches : Stretches) (uid : ℕ)
    → has_bit n after ≡ has_bit n before → has_bit n (rules_from after (map (stretch_with number range) stretches) uid) ≡ has_bit n (rules_from before stretches uid)
others_stay number range n h hn other before after [] uid same = same
others_stay number range n h hn other before after (stretch ∷ stretches) uid same =
    let rules = with_bit number (is_within range stretch.from) stretch.rules in
    elim (leb stretch.from uid) as (λ b. has_bit n (cond b (rules_from rules (map (stretch_with number range) stretches) uid) after) ≡ has_bit n (cond b (rules_from stretch.rules stretches uid) before)) [
      | true ↦ others_stay number range n h hn other stretch.rules rules stretches uid (bit_other number (is_within range stretch.from) stretch.rules n h hn other)
      | false ↦ same
    ]

-- marks of the number, in no range
pub nowhere : (number : ℕ) → number < 256 → (before : Bits) (stretches : Stretches) (uid : ℕ) → has_bit number before ≡ false
    → has_bit number (rules_from before (map (stretch_with number None) stretches) uid) ≡ false
nowhere number h before [] uid out = out
nowhere number h before (stretch ∷ stretches) uid out =
    let rules = with_bit number false stretch.rules in
    elim (leb stretch.from uid) as (λ b. has_bit number (cond b (rules_from rules (map (stretch_with number None) stretches) uid) before) ≡ false) [
      | true ↦ nowhere number h rules stretches uid (bit_same number false stretch.rules h)
      | false ↦ out
    ]

-- a range says the same of two uids that no end of it parts
first_same : (least a b : ℕ) → a ≤ b → (least ≤ a) ⊎ (b < least) → leb least a ≡ leb least b
first_same least a b up (inl from) = le-leb least a from ∙ sym (le-leb least b (omega (arith, from, up)))
first_same least a b up (inr below) = lt-leb least a (omega (arith, below, up)) ∙ sym (lt-leb least b below)

last_same : (greatest a b : ℕ) → a ≤ b → (b ≤ greatest) ⊎ (greatest < a) → leb a greatest ≡ leb b greatest
last_same greatest a b up (inl to) = le-leb a greatest (omega (arith, to, up)) ∙ sym (le-leb b greatest to)
last_same greatest a b up (inr above) = lt-leb a greatest above ∙ sym (lt-leb b greatest (omega (arith, above, up)))

not_parted : (range : IdTest) (a b : ℕ) → a ≤ b → (range.least ≤ a) ⊎ (b < range.least) → (b ≤ range.greatest) ⊎ (range.greatest < a) → has range a ≡ has range b
not_parted range a b up first last =
    ap (λ x. x && leb a range.greatest) (first_same range.least a b up first) ∙ ap (λ x. leb range.least b && x) (last_same range.greatest a b up last)

-- Behind the uid `from` the ends of the range are cuts.
record AreCutBehind (from : ℕ) (range : IdTest) (stretches : Stretches) : Type 0 where
  first : (range.least ≤ from) ⊎ (is_cut range.least stretches ≡ true)
  last : (range.greatest < from) ⊎ ((LAST_ID ≤ range.greatest) ⊎ (is_cut (range.greatest + 1) stretches ≡ true))

cut_behind : (from : ℕ) (range : IdTest) (stretch : Stretch) (stretches : Stretches) → from ≤ stretch.from → AreCutBehind from range (stretch ∷ stretches) → AreCutBehind stretch.from range stretches
cut_behind from range stretch stretches up cuts =
    record {
      first = elim cuts.first [
        | inl l ↦ inl (omega (arith, l, up))
        | inr cut ↦ cut_first range.least stretch stretches cut
      ];
      last = elim cuts.last [
        | inl l ↦ inl (omega (arith, l, up))
        | inr further ↦ elim further [
          | inl all ↦ inr (inl all)
          | inr cut ↦ elim (cut_first (range.greatest + 1) stretch stretches cut) [
            | inl l ↦ inl (omega (arith, l))
            | inr cut ↦ inr (inr cut)
          ]
        ]
      ];
    }

-- where no stretch begins up to the uid, the range says the same of it
same_to : (from uid : ℕ) (range : IdTest) (stretches : Stretches) → from ≤ uid → uid ≤ LAST_ID → AreCutBehind from range stretches → AllFrom (uid + 1) stretches → has range from ≡ has range uid
same_to from uid range stretches up last cuts beyond =
    not_parted range from uid up
    (elim cuts.first [
      | inl l ↦ inl l
      | inr cut ↦ let l = cut_from (uid + 1) range.least stretches beyond cut in inr (omega (arith, l))
    ])
    (elim cuts.last [
      | inl l ↦ inr l
      | inr further ↦ elim further [
        | inl all ↦ inl (omega (arith, all, last))
        | inr cut ↦ let l = cut_from (uid + 1) (range.greatest + 1) stretches beyond cut in inl (omega (arith, l))
      ]
    ])

beyond_first : (uid : ℕ) (stretch : Stretch) (stretches : Stretches) → AreByUid (stretch ∷ stretches) → uid < stretch.from → AllFrom (uid + 1) (stretch ∷ stretches)
beyond_first uid stretch stretches rising beyond = λ k d h. let up = rising 0 k d (omega arith) h in omega (arith, up, beyond)

-- marks of the number in a range whose ends are cuts, in the stretches behind one that begins at `from`
in_range_from : (number : ℕ) (range : IdTest) (uid : ℕ) → number < 256 → uid ≤ LAST_ID → (from : ℕ) (before : Bits) (stretches : Stretches) → from ≤ uid → AreByUid stretches → AllFrom from stretches
    → AreCutBehind from range stretches → has_bit number before ≡ has range from
    → has_bit number (rules_from before (map (stretch_with number (Some range)) stretches) uid) ≡ has range uid
in_range_from number range uid h last from before [] up rising all cuts is = is ∙ same_to from uid range [] up last cuts (λ k d h. absurd (omega (arith, h)))
in_range_from number range uid h last from before (stretch ∷ stretches) up rising all cuts is =
    let rules = with_bit number (has range stretch.from) stretch.rules in
    elim (cases_le stretch.from uid) [
      | inl begins ↦
          let l : leb stretch.from uid ≡ true = le-leb stretch.from uid begins in
          ap (λ b. has_bit number (cond b (rules_from rules (map (stretch_with number (Some range)) stretches) uid) before)) l
          ∙ in_range_from number range uid h last stretch.from rules stretches begins (rising_behind stretch stretches rising) (all_from_first stretch stretches rising)
          (cut_behind from range stretch stretches (all 0 stretch (omega arith)) cuts) (bit_same number (has range stretch.from) stretch.rules h)
      | inr beyond ↦
          let l : leb stretch.from uid ≡ false = lt-leb stretch.from uid beyond in
          ap (λ b. has_bit number (cond b (rules_from rules (map (stretch_with number (Some range)) stretches) uid) before)) l
          ∙ is ∙ same_to from uid range (stretch ∷ stretches) up last cuts (beyond_first uid stretch stretches rising beyond)
    ]

cuts_from_first : (range : IdTest) (stretch : Stretch) (stretches : Stretches) → AreCuts range (stretch ∷ stretches) → AreCutBehind stretch.from range stretches
cuts_from_first range stretch stretches cuts =
    record {
      first = cut_first range.least stretch stretches cuts.first;
      last = elim (cases_lt range.greatest LAST_ID) [
        | inl below ↦ elim (cut_first (range.greatest + 1) stretch stretches (cuts.last below)) [
          | inl l ↦ inl (omega (arith, l))
          | inr cut ↦ inr (inr cut)
        ]
        | inr all ↦ inr (inl all)
      ];
    }

below_range : (range : IdTest) (uid : ℕ) → uid < range.least → has range uid ≡ false
below_range range uid h = ap (λ b. b && leb uid range.greatest) (lt-leb range.least uid h)

pub in_range : (number : ℕ) (range : IdTest) (uid : ℕ) → number < 256 → uid ≤ LAST_ID → (stretches : Stretches) → AreByUid stretches → AreCuts range stretches
    → has_bit number (rules_at (map (stretch_with number (Some range)) stretches) uid) ≡ has range uid
in_range number range uid h last [] rising cuts = let c = cuts.first in cc
in_range number range uid h last (stretch ∷ stretches) rising cuts =
    let rules = with_bit number (has range stretch.from) stretch.rules in
    elim (cases_le stretch.from uid) [
      | inl begins ↦
          let l : leb stretch.from uid ≡ true = le-leb stretch.from uid begins in
          ap (λ b. has_bit number (cond b (rules_from rules (map (stretch_with number (Some range)) stretches) uid) no_bits)) l
          ∙ in_range_from number range uid h last stretch.from rules stretches begins (rising_behind stretch stretches rising) (all_from_first stretch stretches rising)
          (cuts_from_first range stretch stretches cuts) (bit_same number (has range stretch.from) stretch.rules h)
      | inr beyond ↦
          let l : leb stretch.from uid ≡ false = lt-leb stretch.from uid beyond in
          let least = cut_from (uid + 1) range.least (stretch ∷ stretches) (beyond_first uid stretch stretches rising beyond) cuts.first in
          ap (λ b. has_bit number (cond b (rules_from rules (map (stretch_with number (Some range)) stretches) uid) no_bits)) l
          ∙ bit_of_none number ∙ sym (below_range range uid (omega (arith, least)))
    ]

pub in_any_range : (number : ℕ) (range : Option IdTest) (uid : ℕ) → number < 256 → uid ≤ LAST_ID → (stretches : Stretches) → AreByUid stretches → IsCutAround range stretches
    → has_bit number (rules_at (map (stretch_with number range) stretches) uid) ≡ is_within range uid
in_any_range number None uid h last stretches rising cuts = nowhere number h no_bits stretches uid (bit_of_none number)
in_any_range number (Some range) uid h last stretches rising cuts = in_range number range uid h last stretches rising cuts

pub marks : (number : ℕ) (range : Option IdTest) (uid n : ℕ) → number < 256 → n < 256 → uid ≤ LAST_ID → (stretches : Stretches) → AreByUid stretches → IsCutAround range stretches
    → has_bit n (rules_at (map (stretch_with number range) stretches) uid) ≡ (if eqb n number then is_within range uid else has_bit n (rules_at stretches uid))
marks number range uid n h hn last stretches rising cuts =
    elim (cases_eq n number) [
      | inl same ↦
          let e : eqb n number ≡ true = grind (arith, same) in
          ap (λ m. has_bit m (rules_at (map (stretch_with number range) stretches) uid)) same
          ∙ in_any_range number range uid h last stretches rising cuts
          ∙ sym (ap (λ b. if b then is_within range uid else has_bit n (rules_at stretches uid)) e)
      | inr other ↦
          let e : eqb n number ≡ false = grind (arith, other) in
          others_stay number range n h hn other no_bits no_bits stretches uid refl
          ∙ sym (ap (λ b. if b then is_within range uid else has_bit n (rules_at stretches uid)) e)
    ]

pub marks_rise : (number : ℕ) (range : Option IdTest) (stretches : Stretches) → AreByUid stretches → AreByUid (map (stretch_with number range) stretches)
marks_rise number range stretches rising = λ i j d up h.
    let below : j < length stretches = omega (arith, h, length-map stretches (stretch_with number range)) in
    let from = rising i j d up below in
    rw (get_or-map (stretch_with number range) stretches i d d (omega (arith, up, below)), get_or-map (stretch_with number range) stretches j d d below) from

-- a stretch with the rules of the one before is left out
abbrev before_place : Bits → Stretches → ℕ → Bits
before_place before stretches zero = before
before_place before [] (suc place) = before
before_place before (stretch ∷ stretches) (suc place) = before_place stretch.rules stretches place

before_behind : (before : Bits) (place : ℕ) (stretches : Stretches) (d : Stretch) → place < length stretches → before_place before stretches (suc place) ≡ (get_or stretches place d).rules
before_behind before place [] d h = absurd (omega (arith, h))
before_behind before zero (stretch ∷ stretches) d h = refl
before_behind before (suc place) (stretch ∷ stretches) d h = before_behind stretch.rules place stretches d (omega (arith, h))

before_is : (place : ℕ) (stretches : Stretches) → place ≤ length stretches → before_place no_bits stretches place ≡ rules_before stretches place
before_is zero stretches h = refl
before_is (suc place) stretches h = before_behind no_bits place stretches (record { from = 0; rules = no_bits }) (omega (arith, h))

join_from : (before : Bits) (place other : ℕ) (stretches : Stretches) (d : Stretch) → AreByUid stretches → place < length stretches → (get_or stretches place d).rules ≡ before_place before stretches place
    → rules_from before (remove stretches place) other ≡ rules_from before stretches other
join_from before place other [] d rising h same = absurd (omega (arith, h))
join_from before zero other (stretch ∷ stretches) d rising h same =
    elim (cases_le stretch.from other) [
      | inl begins ↦ let l : leb stretch.from other ≡ true = le-leb stretch.from other begins in rw (l, same) refl
      | inr beyond ↦
          let l : leb stretch.from other ≡ false = lt-leb stretch.from other beyond in
          rw l (none_begins before other stretches (record {
            within = omega arith;
            below = λ k d h. absurd (omega (arith, h));
            above = λ k d from h. let up = all_from_first stretch stretches rising k d h in omega (arith, up, beyond);
          }))
    ]
join_from before (suc place) other (stretch ∷ stretches) d rising h same =
    ap (λ rules. cond (leb stretch.from other) rules before)
    (join_from stretch.rules place other stretches d (rising_behind stretch stretches rising) (omega (arith, h)) same)

pub join_changes_nothing : (place other : ℕ) (stretches : Stretches) (d : Stretch) → AreByUid stretches → place < length stretches → (get_or stretches place d).rules ≡ rules_before stretches place
    → rules_at (remove stretches place) other ≡ rules_at stretches other
join_changes_nothing place other stretches d rising h same =
    join_from no_bits place other stretches d rising h (same ∙ sym (before_is place stretches (omega (arith, h))))

pub joined_rise : (place : ℕ) (stretches : Stretches) → AreByUid stretches → place < length stretches → AreByUid (remove stretches place)
joined_rise place stretches rising h = λ i j d up below.
    let count = length-remove stretches place h in
    elim (cases_lt i place) [
      | inl i_below ↦ elim (cases_lt j place) [
        | inl j_below ↦ rw (get_or-remove_below stretches place d i i_below h, get_or-remove_below stretches place d j j_below h) (rising i j d up (omega (arith, below, count)))
        | inr j_from ↦ rw (get_or-remove_below stretches place d i i_below h, get_or-remove_above stretches place d j j_from h) (rising i (j + 1) d (omega (arith, up)) (omega (arith, below, count)))
      ]
      | inr i_from ↦ rw (get_or-remove_above stretches place d i i_from h, get_or-remove_above stretches place d j (omega (arith, i_from, up)) h) (rising (i + 1) (j + 1) d (omega (arith, up)) (omega (arith, below, count)))
    ]
