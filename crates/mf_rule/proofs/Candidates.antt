-- Which rules may match, by an index, and that a verdict may look at them alone.
use Rattle.std.proofs.Common.{◌≡◌, ℕ, zero, suc, ◌<◌, ◌≤◌, Bool, true, false, not, ◌&&◌, ◌||◌, eqb, [], ◌∷◌, Option, Some, None, find, length, get_or, set, refl, sym, ap, subst, ◌∙◌, arith, inl, inr, if◌then◌else◌}
use Rattle.std.proofs.lemmas.Bool.{cases_eq, cases_lt}
use Rattle.std.proofs.lemmas.List.{get_or-set_same, get_or-set_other, get_or_past}
use Rattle.std.specs.List.{list_all, list_any}
use Rattle.std.specs.Option.{option_map_or}
use Rattle.mf_cred.specs.declared.cred.Cred.{Cred}
use Rattle.mf_cred.specs.declared.cred.FileView.{FileView}
use Rattle.mf_rule.specs.Candidates.{subject_may, object_may, may_match, candidates, decided}
use Rattle.mf_rule.specs.Match.{has, has_uid, if_asked, turned, has_type, subject_matches, object_tests}
use Rattle.mf_rule.specs.RuleBits.{has_bit, with_bit, numbers}
use Rattle.mf_rule.specs.RuleList.{Slots, is_match, slot_gives, verdict}
use Rattle.mf_rule.specs.UidIndex.{Stretches, rules_at, is_within, lone, IsIndexOf, AreCandidates}
use Rattle.mf_rule.specs.declared.rule.IdTest.{IdTest}
use Rattle.mf_rule.specs.declared.rule.ObjectSide.{ObjectSide}
use Rattle.mf_rule.specs.declared.rule.Rule.{Rule}
use Rattle.mf_rule.specs.declared.rule.Side.{Side}
use Rattle.mf_rule.specs.declared.rule.TheConstants.{LAST_ID}
use Rattle.mf_rule.specs.declared.rule_bits.Bits.{Bits}
use Rattle.mf_rule.proofs.Bits.{bit_same, bit_other, bit_of_none, same_numbers}

-- ---- the index of a list
pub empty_index : (slots : Slots) (dir : Bool) → ((n : ℕ) → get_or slots n None ≡ None) → IsIndexOf slots dir []
empty_index slots dir free = λ uid n last h. bit_of_none n ∙ sym (ap (may_match (lone uid) dir) (free n))

pub index_with : (slots : Slots) (dir : Bool) (number : ℕ) (slot : Option Rule) (range : Option IdTest) (before after : Stretches) → number < length slots → IsIndexOf slots dir before
    → ((uid : ℕ) → uid ≤ LAST_ID → may_match (lone uid) dir slot ≡ is_within range uid)
    → ((uid n : ℕ) → uid ≤ LAST_ID → n < 256 → has_bit n (rules_at after uid) ≡ (if eqb n number then is_within range uid else has_bit n (rules_at before uid)))
    → IsIndexOf (set slots number slot) dir after
index_with slots dir number slot range before after within was reach marked = λ uid n last h.
    elim (cases_eq n number) [
      | inl same ↦
          let e : eqb n number ≡ true = grind (arith, same) in
          marked uid n last h
          ∙ ap (λ b. if b then is_within range uid else has_bit n (rules_at before uid)) e
          ∙ sym (ap (λ k. may_match (lone uid) dir (get_or (set slots number slot) k None)) same ∙ ap (may_match (lone uid) dir) (get_or-set_same slots number slot None within) ∙ reach uid last)
      | inr other ↦
          let e : eqb n number ≡ false = grind (arith, other) in
          marked uid n last h
          ∙ ap (λ b. if b then is_within range uid else has_bit n (rules_at before uid)) e
          ∙ was uid n last h
          ∙ sym (ap (may_match (lone uid) dir) (get_or-set_other slots number n slot None other))
    ]

-- ---- a subject with three uids
-- by the test of uids: `not` or `!`, or one of the three
three_uids : (n t a b c o : Bool) → ((n || (t || (a || b || c))) && o) ≡ (((n || (t || (a || a || a))) && o) || ((n || (t || (b || b || b))) && o) || ((n || (t || (c || c || c))) && o))
three_uids true t a b c true = refl
three_uids true t a b c false = refl
three_uids false true a b c true = refl
three_uids false true a b c false = refl
three_uids false false true b c true = refl
three_uids false false false true c true = refl
three_uids false false false false true true = refl
three_uids false false false false false true = refl
three_uids false false true true true false = refl
three_uids false false true true false false = refl
three_uids false false true false true false = refl
three_uids false false true false false false = refl
three_uids false false false true true false = refl
three_uids false false false true false false = refl
three_uids false false false false true false = refl
three_uids false false false false false false = refl

always : (n o : Bool) → ((n || true) && o) ≡ (((n || true) && o) || ((n || true) && o) || ((n || true) && o))
always true true = refl
always true false = refl
always false true = refl
always false false = refl

by_test : (n : Bool) (test : Option IdTest) (o : Bool) (cred : Cred)
    → ((n || if_asked test (λ t. t.not || has_uid t cred)) && o)
    ≡ (((n || if_asked test (λ t. t.not || has_uid t (lone cred.uid))) && o) || ((n || if_asked test (λ t. t.not || has_uid t (lone cred.ruid))) && o) || ((n || if_asked test (λ t. t.not || has_uid t (lone cred.svuid))) && o))
by_test n None o cred = always n o
by_test n (Some t) o cred = three_uids n t.not (has t cred.uid) (has t cred.ruid) (has t cred.svuid) o

pub by_uids : (cred : Cred) (dir : Bool) (slot : Option Rule)
    → may_match cred dir slot ≡ (may_match (lone cred.uid) dir slot || may_match (lone cred.ruid) dir slot || may_match (lone cred.svuid) dir slot)
by_uids cred dir None = refl
by_uids cred dir (Some rule) = by_test rule.subject.not rule.subject.uid (object_may rule.object dir) cred

pub candidates_by_index : (slots : Slots) (cred : Cred) (dir : Bool) (stretches : Stretches) (bits : Bits) → IsIndexOf slots dir stretches
    → cred.uid ≤ LAST_ID → cred.ruid ≤ LAST_ID → cred.svuid ≤ LAST_ID
    → ((n : ℕ) → has_bit n bits ≡ (has_bit n (rules_at stretches cred.uid) || has_bit n (rules_at stretches cred.ruid) || has_bit n (rules_at stretches cred.svuid)))
    → AreCandidates slots cred dir bits
candidates_by_index slots cred dir stretches bits index u r s union = λ n h.
    union n
    ∙ ap (λ b. b || has_bit n (rules_at stretches cred.ruid) || has_bit n (rules_at stretches cred.svuid)) (index cred.uid n u h)
    ∙ ap (λ b. may_match (lone cred.uid) dir (get_or slots n None) || b || has_bit n (rules_at stretches cred.svuid)) (index cred.ruid n r h)
    ∙ ap (λ b. may_match (lone cred.uid) dir (get_or slots n None) || may_match (lone cred.ruid) dir (get_or slots n None) || b) (index cred.svuid n s h)
    ∙ sym (by_uids cred dir (get_or slots n None))

pub candidate_numbers : (slots : Slots) (cred : Cred) (dir : Bool) (bits : Bits) → AreCandidates slots cred dir bits → numbers bits ≡ candidates slots cred dir
unfolding numbers candidates
candidate_numbers slots cred dir bits are = same_numbers (λ n. has_bit n bits) (λ n. may_match cred dir (get_or slots n None)) 0 250 (λ n h. are n (omega (arith, h)))

-- ---- a rule that matches may match
front_true : (a b : Bool) → (a && b) ≡ true → a ≡ true
front_true true b h = refl
front_true false b h = h

rest_true : (a b : Bool) → (a && b) ≡ true → b ≡ true
rest_true true b h = h
rest_true false b h = cc

test_may : (test : Option IdTest) (cred : Cred) → if_asked test (λ t. turned t.not (has_uid t cred)) ≡ true → if_asked test (λ t. t.not || has_uid t cred) ≡ true
test_may None cred h = refl
test_may (Some t) cred h =
    elim t.not as (λ n. turned n (has_uid t cred) ≡ true → (n || has_uid t cred) ≡ true) [
      | true ↦ λ h. refl
      | false ↦ λ h. h
    ] h

-- the tests of a subject, before `not` turns them
abbrev subject_tests : Side → Cred → Bool
subject_tests side cred =
    if_asked side.uid (λ test. turned test.not (has_uid test cred)) && if_asked side.gid (λ test. turned test.not (list_any (has test) cred.groups))

subject_may_match : (side : Side) (cred : Cred) → subject_matches side cred ≡ true → subject_may side cred ≡ true
subject_may_match side cred h =
    elim side.not as (λ n. turned n (subject_tests side cred) ≡ true → (n || if_asked side.uid (λ t. t.not || has_uid t cred)) ≡ true) [
      | true ↦ λ h. refl
      | false ↦ λ h. test_may side.uid cred (front_true _ _ h)
    ] h

object_may_match : (object : ObjectSide) (cred : Cred) (file : FileView) → turned object.side.not (object_tests object cred file) ≡ true → object_may object file.dir ≡ true
object_may_match object cred file h =
    elim object.side.not as (λ n. turned n (object_tests object cred file) ≡ true → (n || if_asked object.types (λ test. turned test.not (has_type test.types file.dir))) ≡ true) [
      | true ↦ λ h. refl
      | false ↦ λ h. rest_true _ _ h
    ] h

slot_may_match : (slot : Option Rule) (cred : Cred) (file : FileView) → is_match cred file slot ≡ true → may_match cred file.dir slot ≡ true
slot_may_match None cred file h = h
slot_may_match (Some rule) cred file h =
    let subject = subject_may_match rule.subject cred (front_true _ _ h) in
    let object = object_may_match rule.object cred file (rest_true _ _ h) in
    ap (λ b. b && object_may rule.object file.dir) subject ∙ object

pub no_candidate : (slot : Option Rule) (cred : Cred) (file : FileView) → may_match cred file.dir slot ≡ false → is_match cred file slot ≡ false
no_candidate slot cred file out =
    elim (is_match cred file slot) as (λ b. is_match cred file slot ≡ b → b ≡ false) [
      | true ↦ λ h. let may = sym (slot_may_match slot cred file h) ∙ out in cc
      | false ↦ λ h. refl
    ] refl

-- ---- a verdict by the slots of some numbers
first_found : (test : Option Rule → Bool) (slots : Slots) (n : ℕ) → n < length slots → test (get_or slots n None) ≡ true → ((m : ℕ) → m < n → test (get_or slots m None) ≡ false)
    → find test slots ≡ Some (get_or slots n None)
first_found test [] n h there least = absurd (omega (arith, h))
first_found test (slot ∷ slots) zero h there least = rw there refl
first_found test (slot ∷ slots) (suc n) h there least =
    let first = least 0 (omega arith) in
    rw first (first_found test slots n (omega (arith, h)) there (λ m k. least (suc m) (omega (arith, k))))

none_found : (test : Option Rule → Bool) (slots : Slots) → ((m : ℕ) → m < length slots → test (get_or slots m None) ≡ false) → find test slots ≡ None
none_found test [] none = refl
none_found test (slot ∷ slots) none =
    let first = none 0 (omega arith) in
    rw first (none_found test slots (λ m k. none (suc m) (omega (arith, k))))

all_pass : (test : Option Rule → Bool) (slots : Slots) → ((m : ℕ) → m < length slots → test (get_or slots m None) ≡ true) → list_all test slots ≡ true
all_pass test [] all = refl
all_pass test (slot ∷ slots) all =
    let first = all 0 (omega arith) in
    rw first (all_pass test slots (λ m k. all (suc m) (omega (arith, k))))

one_fails : (test : Option Rule → Bool) (slots : Slots) (n : ℕ) → n < length slots → test (get_or slots n None) ≡ false → list_all test slots ≡ false
one_fails test [] n h fails = absurd (omega (arith, h))
one_fails test (slot ∷ slots) zero h fails = rw fails refl
one_fails test (slot ∷ slots) (suc n) h fails =
    rw (one_fails test slots n (omega (arith, h)) fails) (elim (test slot) as (λ b. (b && false) ≡ false) [
      | true ↦ refl
      | false ↦ refl
    ])

-- ---- a walk over the candidates
pub within_slots : (slots : Slots) (cred : Cred) (dir : Bool) (bits : Bits) → AreCandidates slots cred dir bits → (n : ℕ) → n < 256 → has_bit n bits ≡ true → n < length slots
within_slots slots cred dir bits are n h there =
    elim (cases_lt n (length slots)) [
      | inl below ↦ below
      | inr past ↦ let may = sym there ∙ are n h ∙ ap (may_match cred dir) (get_or_past slots n None past) in cc
    ]

unmatched : (slots : Slots) (cred : Cred) (file : FileView) (bits : Bits) → AreCandidates slots cred file.dir bits → (n : ℕ) → n < 256 → has_bit n bits ≡ false → is_match cred file (get_or slots n None) ≡ false
unmatched slots cred file bits are n h out = no_candidate (get_or slots n None) cred file (sym (are n h) ∙ out)

pub left_within : (P : ℕ → Type 0) (number : ℕ) (bits : Bits) → number < 256 → ((n : ℕ) → n < 256 → has_bit n bits ≡ true → P n)
    → (n : ℕ) → n < 256 → has_bit n (with_bit number false bits) ≡ true → P n
left_within P number bits h all n hn there =
    elim (cases_eq n number) [
      | inl same ↦ let out = sym there ∙ ap (λ m. has_bit m (with_bit number false bits)) same ∙ bit_same number false bits h in cc
      | inr other ↦ all n hn (sym (bit_other number false bits n h hn other) ∙ there)
    ]

pub done_more : (P : ℕ → Type 0) (number : ℕ) (bits : Bits) → number < 256 → P number → ((n : ℕ) → n < 256 → has_bit n bits ≡ false → P n)
    → (n : ℕ) → n < 256 → has_bit n (with_bit number false bits) ≡ false → P n
done_more P number bits h here all n hn out =
    elim (cases_eq n number) [
      | inl same ↦ subst P (sym same) here
      | inr other ↦ all n hn (sym (bit_other number false bits n h hn other) ∙ out)
    ]

pub some_within : (slots : Slots) (n : ℕ) (rule : Rule) → Some rule ≡ get_or slots n None → n < length slots
some_within slots n rule is =
    elim (cases_lt n (length slots)) [
      | inl below ↦ below
      | inr past ↦ let none = is ∙ get_or_past slots n None past in cc
    ]

-- ---- a verdict by what the rules decide
missed : (first is gives : Bool) → is ≡ false → decided first is gives ≡ None
missed first true gives miss = absurd cc
missed first false gives miss = refl

first_hit : (is gives x : Bool) → decided true is gives ≡ Some x → (is ≡ true) × (x ≡ gives)
first_hit true gives x some = (refl, let same : gives ≡ x = cc in sym same)
first_hit false gives x some = absurd cc

first_miss : (is gives : Bool) → decided true is gives ≡ None → is ≡ false
first_miss true gives none = absurd cc
first_miss false gives none = refl

any_hit : (is gives x : Bool) → decided false is gives ≡ Some x → ((not is || gives) ≡ false) × (x ≡ false)
any_hit true true x some = absurd cc
any_hit true false x some = (refl, let same : false ≡ x = cc in sym same)
any_hit false gives x some = absurd cc

any_miss : (is gives : Bool) → decided false is gives ≡ None → (not is || gives) ≡ true
any_miss true true none = refl
any_miss true false none = absurd cc
any_miss false gives none = refl

abbrev pub decision : Bool → Cred → FileView → ℕ → Option Rule → Option Bool
decision first cred file wanted slot = decided first (is_match cred file slot) (slot_gives wanted slot)

pub undecided : (first : Bool) (slots : Slots) (cred : Cred) (file : FileView) (wanted : ℕ) (bits : Bits) → AreCandidates slots cred file.dir bits
    → (n : ℕ) → n < 256 → has_bit n bits ≡ false → decision first cred file wanted (get_or slots n None) ≡ None
undecided first slots cred file wanted bits are n h out =
    missed first (is_match cred file (get_or slots n None)) (slot_gives wanted (get_or slots n None)) (unmatched slots cred file bits are n h out)

pub first_decides : (first : Bool) (slots : Slots) (cred : Cred) (file : FileView) (wanted n : ℕ) (x : Bool) → n < length slots
    → decision first cred file wanted (get_or slots n None) ≡ Some x → ((m : ℕ) → m < n → decision first cred file wanted (get_or slots m None) ≡ None)
    → x ≡ verdict first slots cred file wanted
first_decides true slots cred file wanted n x below here before =
    let hit = first_hit (is_match cred file (get_or slots n None)) (slot_gives wanted (get_or slots n None)) x here in
    let found = first_found (is_match cred file) slots n below hit.0 (λ m k. first_miss (is_match cred file (get_or slots m None)) (slot_gives wanted (get_or slots m None)) (before m k)) in
    hit.1 ∙ sym (ap (λ f. option_map_or (slot_gives wanted) f true) found)
first_decides false slots cred file wanted n x below here before =
    let hit = any_hit (is_match cred file (get_or slots n None)) (slot_gives wanted (get_or slots n None)) x here in
    hit.1 ∙ sym (one_fails (λ slot. not (is_match cred file slot) || slot_gives wanted slot) slots n below hit.0)

pub none_decides : (first : Bool) (slots : Slots) (cred : Cred) (file : FileView) (wanted : ℕ)
    → ((m : ℕ) → m < length slots → decision first cred file wanted (get_or slots m None) ≡ None) → true ≡ verdict first slots cred file wanted
none_decides true slots cred file wanted none =
    sym (ap (λ f. option_map_or (slot_gives wanted) f true) (none_found (is_match cred file) slots (λ m k. first_miss (is_match cred file (get_or slots m None)) (slot_gives wanted (get_or slots m None)) (none m k))))
none_decides false slots cred file wanted none =
    sym (all_pass (λ slot. not (is_match cred file slot) || slot_gives wanted slot) slots (λ m k. any_miss (is_match cred file (get_or slots m None)) (slot_gives wanted (get_or slots m None)) (none m k)))
