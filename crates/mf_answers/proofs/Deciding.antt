-- Which rule decides a verdict.
use Rattle.std.proofs.Common.{◌≡◌, ℕ, zero, suc, ◌<◌, ◌≤◌, Bool, true, false, not, ◌&&◌, ◌||◌, cond, [], ◌∷◌, ◌++◌, Option, Some, None, find, length, take, get_or, refl, sym, ap, subst, ◌∙◌, arith}
use Rattle.std.specs.Prelude.{nat_lt, option_and_then}
use Rattle.std.specs.List.{list_all, position_or_len}
use Rattle.std.specs.Int.RustNames.{bit_and}
use Rattle.std.proofs.lemmas.Bool.{eq-eqb, ltb-true, ltb-false}
use Rattle.std.proofs.lemmas.List.Sums.{fails_before_first, passes_at_first}
use Rattle.mf_errno.specs.declared.errno.Errno.TheVariants.{Eacces}
use Rattle.mf_cred.specs.declared.cred.Cred.{Cred}
use Rattle.mf_cred.specs.declared.cred.FileView.{FileView}
use Rattle.mf_rule.specs.RuleList.{Slots, is_match, slot_gives, verdict}
use Rattle.mf_rule.specs.declared.rule.Rule.{Rule}
use Rattle.mf_policy.specs.Answer.{errno_unless}
use Rattle.mf_answers.specs.declared.reasons.Reason.{Reason}
use Rattle.mf_answers.specs.declared.reasons.Reason.TheVariants as why
use Rattle.mf_answers.specs.Laws.{RuleDecides, with_letters}
use Rattle.mf_answers.specs.Reasons.{errno_by, errno_of, reason_unless, slot_reason, verdict_reason}

pub unless : (holds : Bool) (r : Reason) → errno_unless holds (errno_of r) ≡ errno_by (reason_unless holds r)
unless true r = refl
unless false r = refl

-- Lists by the first place where a test passes

module _ (test : Option Rule → Bool) where
  first_kept : (slots behind : Slots) (n : ℕ) → n < length slots → test (get_or slots n None) ≡ true → ((m : ℕ) → m < n → test (get_or slots m None) ≡ false)
      → find test (take (suc n) slots ++ behind) ≡ Some (get_or slots n None)
  first_kept [] behind n h there least = absurd (omega (arith, h))
  first_kept (slot ∷ slots) behind zero h there least = rw there refl
  first_kept (slot ∷ slots) behind (suc n) h there least =
      let first = least 0 (omega arith) in
      rw first (first_kept slots behind n (omega (arith, h)) there (λ m k. least (suc m) (omega (arith, k))))

  first_put : (slots : Slots) (n : ℕ) (slot : Option Rule) → n < length slots → test slot ≡ true → ((m : ℕ) → m < n → test (get_or slots m None) ≡ false)
      → find test (take n slots ++ slot ∷ []) ≡ Some slot
  first_put [] n slot h there least = absurd (omega (arith, h))
  first_put (other ∷ slots) zero slot h there least = rw there refl
  first_put (other ∷ slots) (suc n) slot h there least =
      let first = least 0 (omega arith) in
      rw first (first_put slots n slot (omega (arith, h)) there (λ m k. least (suc m) (omega (arith, k))))

  first_found : (slots : Slots) (n : ℕ) → n < length slots → test (get_or slots n None) ≡ true → ((m : ℕ) → m < n → test (get_or slots m None) ≡ false)
      → find test slots ≡ Some (get_or slots n None)
  first_found [] n h there least = absurd (omega (arith, h))
  first_found (slot ∷ slots) zero h there least = rw there refl
  first_found (slot ∷ slots) (suc n) h there least =
      let first = least 0 (omega arith) in
      rw first (first_found slots n (omega (arith, h)) there (λ m k. least (suc m) (omega (arith, k))))

  none_found : (slots : Slots) → ((m : ℕ) → m < length slots → test (get_or slots m None) ≡ false) → find test slots ≡ None
  none_found [] none = refl
  none_found (slot ∷ slots) none =
      let first = none 0 (omega arith) in
      rw first (none_found slots (λ m k. none (suc m) (omega (arith, k))))

  -- the same where all have to pass
  one_fails : (slots behind : Slots) (n : ℕ) → n < length slots → test (get_or slots n None) ≡ false → list_all test (take (suc n) slots ++ behind) ≡ false
  one_fails [] behind n h fails = absurd (omega (arith, h))
  one_fails (slot ∷ slots) behind zero h fails = rw fails refl
  one_fails (slot ∷ slots) behind (suc n) h fails = rw (one_fails slots behind n (omega (arith, h)) fails) (never (test slot))
    where
      never : (b : Bool) → (b && false) ≡ false
      never true = refl
      never false = refl

  fails : (slots : Slots) (n : ℕ) → n < length slots → test (get_or slots n None) ≡ false → list_all test slots ≡ false
  fails [] n h false_there = absurd (omega (arith, h))
  fails (slot ∷ slots) zero h false_there = rw false_there refl
  fails (slot ∷ slots) (suc n) h false_there = rw (fails slots n (omega (arith, h)) false_there) (never (test slot))
    where
      never : (b : Bool) → (b && false) ≡ false
      never true = refl
      never false = refl

  all_pass : (slots : Slots) → ((m : ℕ) → m < length slots → test (get_or slots m None) ≡ true) → list_all test slots ≡ true
  all_pass [] each = refl
  all_pass (slot ∷ slots) each =
      let first = each 0 (omega arith) in
      rw first (all_pass slots (λ m k. each (suc m) (omega (arith, k))))

  all_put : (slots : Slots) (n : ℕ) (slot : Option Rule) → n < length slots → test slot ≡ true → ((m : ℕ) → m < n → test (get_or slots m None) ≡ true)
      → list_all test (take n slots ++ slot ∷ []) ≡ true
  all_put [] n slot h there each = absurd (omega (arith, h))
  all_put (other ∷ slots) zero slot h there each = rw there refl
  all_put (other ∷ slots) (suc n) slot h there each =
      let first = each 0 (omega arith) in
      rw first (all_put slots n slot (omega (arith, h)) there (λ m k. each (suc m) (omega (arith, k))))

-- The slot that decides

module _ (cred : Cred) (file : FileView) (wanted : ℕ) where
  abbrev lacks : Option Rule → Bool
  lacks slot = is_match cred file slot && not (slot_gives wanted slot)

  abbrev passes : Option Rule → Bool
  passes slot = not (is_match cred file slot) || slot_gives wanted slot

  as_passes : (slot : Option Rule) (b : Bool) → lacks slot ≡ b → passes slot ≡ not b
  as_passes slot b h = one (is_match cred file slot) (slot_gives wanted slot) b h
    where
      one : (m g b : Bool) → (m && not g) ≡ b → (not m || g) ≡ not b
      one true true b h = rw (sym h) refl
      one true false b h = rw (sym h) refl
      one false g b h = rw (sym h) refl

  gives_not : (slot : Option Rule) → lacks slot ≡ true → slot_gives wanted slot ≡ false
  gives_not slot h = one (is_match cred file slot) (slot_gives wanted slot) h
    where
      one : (m g : Bool) → (m && not g) ≡ true → g ≡ false
      one true true h = cc
      one true false h = refl
      one false g h = cc

  pub by_slot : (slot : Option Rule) (n : ℕ) → errno_unless (slot_gives wanted slot) Eacces ≡ errno_by (slot_reason slot n wanted)
  by_slot None n = refl
  by_slot (Some rule) n = unless (slot_gives wanted (Some rule)) (why.Rule n wanted rule.mode)

  by_first : (slots : Slots) (n : ℕ) (b : Bool) → position_or_len (is_match cred file) slots ≡ n → nat_lt n (length slots) ≡ b
      → errno_unless (verdict true slots cred file wanted) Eacces ≡ errno_by (option_and_then (λ k. slot_reason (get_or slots k None) k wanted) (cond b (Some n) None))
  by_first slots n true at inside =
      let within : n < length slots = ltb-true n (length slots) inside in
      let there : is_match cred file (get_or slots n None) ≡ true = ap (λ k. is_match cred file (get_or slots k None)) (sym at) ∙ passes_at_first (is_match cred file) slots None (grind (arith, at, within)) in
      rw (first_found (is_match cred file) slots n within there (λ m k. fails_before_first (is_match cred file) slots m None (grind (arith, at, k))))
      (by_slot (get_or slots n None) n)
  by_first slots n false at outside =
      let beyond : length slots ≤ n = ltb-false n (length slots) outside in
      rw (none_found (is_match cred file) slots (λ m k. fails_before_first (is_match cred file) slots m None (grind (arith, at, k, beyond)))) refl

  by_all : (slots : Slots) (n : ℕ) (b : Bool) → position_or_len lacks slots ≡ n → nat_lt n (length slots) ≡ b
      → errno_unless (list_all passes slots) Eacces ≡ errno_by (option_and_then (λ k. slot_reason (get_or slots k None) k wanted) (cond b (Some n) None))
  by_all slots n true at inside =
      let within : n < length slots = ltb-true n (length slots) inside in
      let there : lacks (get_or slots n None) ≡ true = ap (λ k. lacks (get_or slots k None)) (sym at) ∙ passes_at_first lacks slots None (grind (arith, at, within)) in
      ap (λ b. errno_unless b Eacces) (fails passes slots n within (as_passes (get_or slots n None) true there) ∙ sym (gives_not (get_or slots n None) there))
      ∙ by_slot (get_or slots n None) n
  by_all slots n false at outside =
      let beyond : length slots ≤ n = ltb-false n (length slots) outside in
      ap (λ b. errno_unless b Eacces) (all_pass passes slots (λ m k. as_passes (get_or slots m None) false (fails_before_first lacks slots m None (grind (arith, at, k, beyond)))))

  pub by_verdict : (first : Bool) (slots : Slots) → errno_unless (verdict first slots cred file wanted) Eacces ≡ errno_by (verdict_reason first slots cred file wanted)
  by_verdict true slots = by_first slots (position_or_len (is_match cred file) slots) (nat_lt (position_or_len (is_match cred file) slots) (length slots)) refl refl
  by_verdict false slots = by_all slots (position_or_len lacks slots) (nat_lt (position_or_len lacks slots) (length slots)) refl refl

-- What a told rule decides

abbrev told_number : Option Reason → ℕ
told_number (Some (why.Rule number wanted gives)) = number
told_number other = 0

abbrev told_wanted : Option Reason → ℕ
told_wanted (Some (why.Rule number wanted gives)) = wanted
told_wanted other = 0

abbrev told_given : Option Reason → ℕ
told_given (Some (why.Rule number wanted gives)) = gives
told_given other = 0

module _ (cred : Cred) (file : FileView) (asked : ℕ) where
  -- the number and the letters of the slot, which doesn't give what is asked
  abbrev IsToldOf : Option Rule → ℕ → ℕ → ℕ → ℕ → Type 0
  IsToldOf slot n number wanted given =
      (n ≡ number) × (slot_gives asked slot ≡ false) × (wanted ≡ asked) × ((rule : Rule) × (slot ≡ Some rule) × (rule.mode ≡ given))

  told : (slot : Option Rule) (n number wanted given : ℕ) → slot_reason slot n asked ≡ Some (why.Rule number wanted given) → IsToldOf slot n number wanted given
  told None n number wanted given h = cc
  told (Some rule) n number wanted given h = one (slot_gives asked (Some rule)) refl h
    where
      one : (b : Bool) → slot_gives asked (Some rule) ≡ b → reason_unless b (why.Rule n asked rule.mode) ≡ Some (why.Rule number wanted given) → IsToldOf (Some rule) n number wanted given
      one true g h = cc
      one false g h = (ap told_number h, g, sym (ap told_wanted h), (rule, refl, ap told_given h))

  -- with first match, and without, each with what the place of the rule is known to be
  of_first : (slots behind : Slots) (n : ℕ) → n < length slots → is_match cred file (get_or slots n None) ≡ true → slot_gives asked (get_or slots n None) ≡ false
      → ((m : ℕ) → m < n → is_match cred file (get_or slots m None) ≡ false)
      → (verdict true (take (suc n) slots ++ behind) cred file asked ≡ false)
      × ((rule : Rule) (letters : ℕ) → get_or slots n None ≡ Some rule → bit_and letters asked ≡ asked → verdict true (take n slots ++ Some (with_letters rule letters) ∷ []) cred file asked ≡ true)
  of_first slots behind n within there gives least = (
    rw (first_kept (is_match cred file) slots behind n within there least) gives,
    λ rule letters is enough.
        let match : is_match cred file (Some rule) ≡ true = ap (is_match cred file) (sym is) ∙ there in
        rw (first_put (is_match cred file) slots n (Some (with_letters rule letters)) within match least) (eq-eqb _ _ enough),
  )

  or_true : (b g : Bool) → g ≡ true → (b || g) ≡ true
  or_true true g h = refl
  or_true false g h = h

  of_all : (slots behind : Slots) (n : ℕ) → n < length slots → lacks cred file asked (get_or slots n None) ≡ true
      → ((m : ℕ) → m < n → lacks cred file asked (get_or slots m None) ≡ false)
      → (verdict false (take (suc n) slots ++ behind) cred file asked ≡ false)
      × ((rule : Rule) (letters : ℕ) → get_or slots n None ≡ Some rule → bit_and letters asked ≡ asked → verdict false (take n slots ++ Some (with_letters rule letters) ∷ []) cred file asked ≡ true)
  of_all slots behind n within there least = (
    one_fails (passes cred file asked) slots behind n within (as_passes cred file asked (get_or slots n None) true there),
    λ rule letters is enough.
        all_put (passes cred file asked) slots n (Some (with_letters rule letters)) within (or_true _ _ (eq-eqb _ _ enough))
        (λ m k. as_passes cred file asked (get_or slots m None) false (least m k)),
  )

  -- what the rule of this slot decides, by what is told of it
  abbrev Decides : Bool → Slots → Slots → ℕ → ℕ → ℕ → Type 0
  Decides first slots behind wanted given n =
      (wanted ≡ asked)
      × (verdict first (take (suc n) slots ++ behind) cred file asked ≡ false)
      × ((rule : Rule) × (get_or slots n None ≡ Some rule) × (rule.mode ≡ given)
      × ((letters : ℕ) → bit_and letters asked ≡ asked → verdict first (take n slots ++ Some (with_letters rule letters) ∷ []) cred file asked ≡ true))

  at_first : (slots behind : Slots) (n number wanted given : ℕ) (b : Bool) → position_or_len (is_match cred file) slots ≡ n → nat_lt n (length slots) ≡ b
      → option_and_then (λ k. slot_reason (get_or slots k None) k asked) (cond b (Some n) None) ≡ Some (why.Rule number wanted given) → Decides true slots behind wanted given number
  at_first slots behind n number wanted given false at outside h = cc
  at_first slots behind n number wanted given true at inside h =
      let within : n < length slots = ltb-true n (length slots) inside in
      let is : IsToldOf (get_or slots n None) n number wanted given = told (get_or slots n None) n number wanted given h in
      let decided =
      of_first slots behind n within
      (ap (λ k. is_match cred file (get_or slots k None)) (sym at) ∙ passes_at_first (is_match cred file) slots None (grind (arith, at, within))) is.1
      (λ m k. fails_before_first (is_match cred file) slots m None (grind (arith, at, k))) in
      let rule = is.3 in
      subst (Decides true slots behind wanted given) is.0
      (is.2, decided.0, (rule.0, rule.1, rule.2, λ letters enough. decided.1 rule.0 letters rule.1 enough))

  at_all : (slots behind : Slots) (n number wanted given : ℕ) (b : Bool) → position_or_len (lacks cred file asked) slots ≡ n → nat_lt n (length slots) ≡ b
      → option_and_then (λ k. slot_reason (get_or slots k None) k asked) (cond b (Some n) None) ≡ Some (why.Rule number wanted given) → Decides false slots behind wanted given number
  at_all slots behind n number wanted given false at outside h = cc
  at_all slots behind n number wanted given true at inside h =
      let within : n < length slots = ltb-true n (length slots) inside in
      let is : IsToldOf (get_or slots n None) n number wanted given = told (get_or slots n None) n number wanted given h in
      let decided =
      of_all slots behind n within
      (ap (λ k. lacks cred file asked (get_or slots k None)) (sym at) ∙ passes_at_first (lacks cred file asked) slots None (grind (arith, at, within)))
      (λ m k. fails_before_first (lacks cred file asked) slots m None (grind (arith, at, k))) in
      let rule = is.3 in
      subst (Decides false slots behind wanted given) is.0
      (is.2, decided.0, (rule.0, rule.1, rule.2, λ letters enough. decided.1 rule.0 letters rule.1 enough))

pub decides : RuleDecides
decides true slots behind cred file asked wanted number gives h = at_first cred file asked slots behind _ number wanted gives _ refl refl h
decides false slots behind cred file asked wanted number gives h = at_all cred file asked slots behind _ number wanted gives _ refl refl h
