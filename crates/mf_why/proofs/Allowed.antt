-- Which rules allow.
use Rattle.std.proofs.Common.{◌≡◌, ◌≢◌, ℕ, zero, suc, ◌+◌, ◌<◌, Bool, true, false, cond, not, ◌||◌, ◌&&◌, ◌==◌, List, [], ◌∷◌, ◌++◌, Option, Some, None, find, length, take, slice_get, is_some, unwrap_or, refl, sym, ap, subst, ◌∙◌, arith}
use Rattle.std.specs.Prelude.{nat_lt, option_and_then, slice_index_or}
use Rattle.std.specs.Int.RustNames.{bit_and}
use Rattle.std.specs.List.{list_any, position, position_or_len}
use Rattle.std.proofs.lemmas.Bool.{eqb-true, ltb-true}
use Rattle.mf_cred.specs.declared.cred.Cred.{Cred}
use Rattle.mf_cred.specs.declared.cred.FileView.{FileView}
use Rattle.mf_rule.specs.declared.ports.PortRule.{PortRule}
use Rattle.mf_rule.specs.declared.rule.Rule.{Rule}
use Rattle.mf_rule.specs.RuleList.{Slots, is_match, slot_gives}
use Rattle.mf_policy.specs.Answer.{attributes_of}
use Rattle.mf_policy.specs.Ports.{may_bind}
use Rattle.mf_answers.specs.declared.permits.Permit.TheVariants as permits
use Rattle.mf_answers.specs.Laws.{with_letters}
use Rattle.mf_answers.specs.Permits.{names_both, needs_no_rule, place_permit, slot_permit}
use Rattle.mf_answers.proofs.Places.{some_place}
use Rattle.mf_why.specs.Laws.{AreAllowedBy, FileRulesAllow, IsBoundBy, PortRulesAllow}

-- The first of a list that passes a test

module _ {X : Type 0} (test : X → Bool) where
  -- the element of that place passes, and none before it
  abbrev IsFirst : List X → ℕ → Type 0
  IsFirst xs n = (x : X) × (slice_get xs n ≡ Some x) × (test x ≡ true) × (list_any test (take n xs) ≡ false)

  first : (xs : List X) → position_or_len test xs < length xs → IsFirst xs (position_or_len test xs)
  first [] within = absurd (omega (arith, within))
  first (x ∷ xs) within = one (test x) refl within (first xs)
    where
      one : (b : Bool) → test x ≡ b → cond (not b) (1 + position_or_len test xs) 0 < length (x ∷ xs)
          → (position_or_len test xs < length xs → IsFirst xs (position_or_len test xs)) → IsFirst (x ∷ xs) (cond (not b) (1 + position_or_len test xs) 0)
      one true is within later = (x, refl, is, refl)
      one false is within later =
          let rest = later (omega (arith, within)) in
          let next : suc (position_or_len test xs) ≡ 1 + position_or_len test xs = omega arith in
          subst (IsFirst (x ∷ xs)) next (rest.0, rest.1, rest.2, rw is rest.3)

  at : (xs : List X) (n : ℕ) → position test xs ≡ Some n → IsFirst xs n
  at xs n is = one (nat_lt (position_or_len test xs) (length xs)) refl is
    where
      one : (b : Bool) → nat_lt (position_or_len test xs) (length xs) ≡ b → cond b (Some (position_or_len test xs)) None ≡ Some n → IsFirst xs n
      one true inside is = subst (IsFirst xs) (ap (λ (o : Option ℕ). unwrap_or o 0) is) (first xs (ltb-true _ _ inside))
      one false outside is = cc

  some : (xs : List X) (n : ℕ) → position test xs ≡ Some n → list_any test xs ≡ true
  some xs n is = sym (some_place test xs) ∙ ap is_some is

  pub none : (xs : List X) → position test xs ≡ None → list_any test xs ≡ false
  none xs is = sym (some_place test xs) ∙ ap is_some is

  found : (xs ys : List X) (x : X) → list_any test xs ≡ false → test x ≡ true → find test (xs ++ x ∷ ys) ≡ Some x
  found [] ys x before passes = rw passes refl
  found (other ∷ xs) ys x before passes = one (test other) before (λ rest. found xs ys x rest passes)
    where
      one : (b : Bool) → (b || list_any test xs) ≡ false → (list_any test xs ≡ false → find test (xs ++ x ∷ ys) ≡ Some x)
          → cond b (Some other) (find test (xs ++ x ∷ ys)) ≡ Some x
      one true before later = cc
      one false before later = later before

  unfound : (xs : List X) → list_any test xs ≡ false → find test xs ≡ None
  unfound [] fail = refl
  unfound (x ∷ xs) fail = one (test x) fail (unfound xs)
    where
      one : (b : Bool) → (b || list_any test xs) ≡ false → (list_any test xs ≡ false → find test xs ≡ None) → cond b (Some x) (find test xs) ≡ None
      one true fail later = cc
      one false fail later = later fail

module _ {X : Type 0} where
  split : (xs ys : List X) (n : ℕ) (x : X) → slice_get xs n ≡ Some x → take (suc n) xs ++ ys ≡ take n xs ++ x ∷ ys
  split [] ys n x is = cc
  split (other ∷ xs) ys zero x is = cc
  split (other ∷ xs) ys (suc n) x is = ap (λ zs. other ∷ zs) (split xs ys n x is)

  whole : (xs : List X) (n : ℕ) (x : X) → slice_get xs n ≡ Some x → (ys : List X) × (xs ≡ take n xs ++ x ∷ ys)
  whole [] n x is = cc
  whole (other ∷ xs) zero x is = (xs, cc)
  whole (other ∷ xs) (suc n) x is = let rest = whole xs n x is in (rest.0, ap (λ zs. other ∷ zs) rest.1)

  indexed : (xs : List X) (n : ℕ) (x y : X) → slice_get xs n ≡ Some x → slice_index_or xs n y ≡ x
  indexed [] n x y is = cc
  indexed (other ∷ xs) zero x y is = cc
  indexed (other ∷ xs) (suc n) x y is = indexed xs n x y is

-- Rules about files

module _ (slots : Slots) (cred : Cred) (file : FileView) (asked : ℕ) where
  abbrev test : Option Rule → Bool
  test slot = is_match cred file slot

  by_place : (n : ℕ) (slot : Option Rule) → list_any test slots ≡ true → slice_get slots n ≡ Some slot → test slot ≡ true → list_any test (take n slots) ≡ false
      → AreAllowedBy slots cred file asked (slot_permit slot n asked)
  by_place n None any is passes before = cc
  by_place n (Some rule) any is passes before = one (slot_gives asked (Some rule)) refl
    where
      lacks : (letters : ℕ) → bit_and letters asked ≢ asked → (b : Bool) → (bit_and letters asked == asked) ≡ b → b ≡ false
      lacks letters differ true same = absurd (differ (eqb-true _ _ same))
      lacks letters differ false same = refl

      here : find test slots ≡ Some (Some rule)
      here = let rest = whole slots n (Some rule) is in ap (find test) rest.1 ∙ found test (take n slots) rest.0 (Some rule) before passes

      one : (b : Bool) → slot_gives asked (Some rule) ≡ b → AreAllowedBy slots cred file asked (cond b (Some (permits.Rule n asked rule.mode)) None)
      one true gives = (
        refl,
        λ behind. rw (split slots behind n (Some rule) is) (rw (found test (take n slots) behind (Some rule) before passes) gives),
        (
          rule,
          indexed slots n (Some rule) None is,
          refl,
          λ letters differ.
              rw (found test (take n slots) [] (Some (with_letters rule letters)) before passes) (lacks letters differ (bit_and letters asked == asked) refl),
        ),
      )
      one false gives = rw any (rw here gives)

  by_first : (o : Option ℕ) → position test slots ≡ o → AreAllowedBy slots cred file asked (option_and_then (λ n. slot_permit (slice_index_or slots n None) n asked) o)
  by_first None is = rw (none test slots is) (rw (unfound test slots (none test slots is)) refl)
  by_first (Some n) is =
      let here = at test slots n is in
      rw (indexed slots n here.0 None here.1) (by_place n here.0 (some test slots n is) here.1 here.2 here.3)

pub file_rules_allow : FileRulesAllow
file_rules_allow slots item asked letters =
    let cred = item.subject.cred in
    let file = attributes_of item.object in
    rw letters (by_first slots cred file asked (position (is_match cred file) slots) refl)

-- Rules about ports

assoc : (a b c d : Bool) → (a || b || c || d) ≡ ((a || b || c) || d)
assoc true b c d = refl
assoc false true c d = refl
assoc false false c d = refl

module _ (rules : List PortRule) (port_high : ℕ) (suser autoport : Bool) (cred : Cred) (port : Bool × ℕ) where
  abbrev needless : Bool
  needless = needs_no_rule port_high suser autoport cred port

  abbrev names : PortRule → Bool
  names rule = names_both cred port rule

  abbrev may : List PortRule → Bool
  may some = may_bind some port_high suser autoport cred port

  by_need : (some : List PortRule) → may some ≡ (needless || list_any names some)
  by_need some = assoc (nat_lt port_high port.1) (autoport && port.1 == 0) (suser && cred.uid == 0) (list_any names some)

  by_port : (b : Bool) (o : Option ℕ) → needless ≡ b → position names rules ≡ o → IsBoundBy may rules (cond b None (option_and_then (place_permit rules) o))
  by_port true o free is = by_need rules ∙ ap (λ b. b || list_any names rules) free ∙ sym (by_need [] ∙ ap (λ b. b || false) free)
  by_port false None bound is = by_need rules ∙ ap (λ b. needless || b) (none names rules is) ∙ sym (by_need [])
  by_port false (Some n) bound is =
      let here = at names rules n is in
      rw here.1 (
        n,
        omega arith,
        here.1,
        by_need (here.0 ∷ []) ∙ ap (λ b. b || (names here.0 || false)) bound ∙ ap (λ b. b || false) here.2,
        by_need (take n rules) ∙ ap (λ b. b || list_any names (take n rules)) bound ∙ here.3,
      )

pub port_rules_allow : PortRulesAllow
port_rules_allow rules port_high suser autoport item port binds asked =
    let cred = item.subject.cred in
    rw binds (rw asked (by_port rules port_high suser autoport cred port (needs_no_rule port_high suser autoport cred port) (position (names_both cred port) rules) refl refl))
