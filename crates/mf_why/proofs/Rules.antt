-- That each rule is told that denies by itself.
use Rattle.std.proofs.Common.{◌≡◌, ℕ, zero, suc, ◌+◌, ◌<◌, Bool, true, false, cond, not, ◌||◌, ◌&&◌, ◌==◌, List, [], ◌∷◌, ◌++◌, Option, Some, None, get_or, length, refl, sym, ap, ◌∙◌, arith}
use Rattle.std.specs.Prelude.{if◌then◌else◌, option_and_then}
use Rattle.std.specs.List.{filter, flat_map, list_any, position, range_with_len}
use Rattle.std.specs.Option.{option_map_or}
use Rattle.std.proofs.lemmas.Bool.{eq-eqb, eqb-true}
use Rattle.std.proofs.lemmas.Grind.{flat_map-append}
use Rattle.std.proofs.lemmas.List.{append-nil}
use Rattle.std.proofs.lemmas.List.Quantifiers.{position-Some}
use Rattle.mf_errno.specs.declared.errno.Errno.TheVariants.{Success, Eacces}
use Rattle.mf_errno.specs.Same.{is_same}
use Rattle.mf_cred.specs.declared.cred.Cred.{Cred}
use Rattle.mf_cred.specs.declared.cred.FileView.{FileView}
use Rattle.mf_item.specs.Item.{Item}
use Rattle.mf_rule.specs.declared.rule.Rule.{Rule}
use Rattle.mf_rule.specs.Match.{matches}
use Rattle.mf_rule.specs.RuleList.{Slots, is_match, slot_gives, verdict}
use Rattle.mf_policy.specs.declared.spec.Spec.TheVariants as means
use Rattle.mf_policy.specs.Answer.{attributes_of, errno_unless}
use Rattle.mf_policy.specs.Operations.{row_of}
use Rattle.mf_answers.specs.declared.reasons.Reason.{Reason}
use Rattle.mf_answers.specs.declared.reasons.Reason.TheVariants as why
use Rattle.mf_answers.specs.Reasons.{reason_unless, rules_reason, slot_reason}
use Rattle.mf_why.specs.Deniers.{mark_of, other_reason, other_reasons}
use Rattle.mf_why.specs.Laws.{EachRuleIsTold, denies_alone, number_told, numbers_told}
use Rattle.mf_why.proofs.Allowed.{none}

-- Of one rule, by what it is asked

module _ (cred : Cred) (file : FileView) (n : ℕ) where
  abbrev alone : Option Rule → Option ℕ → Bool
  alone slot letters = not (is_same Success (option_map_or (λ letters. errno_unless (verdict false (slot ∷ []) cred file letters) Eacces) letters Success))

  abbrev rule_told : Option Rule → Option ℕ → List ℕ
  rule_told slot letters = flat_map number_told (option_map_or (λ reason. reason ∷ []) (if is_match cred file slot then option_and_then (slot_reason slot n) letters else None) [])

  told_alone : (slot : Option Rule) (letters : Option ℕ) → rule_told slot letters ≡ cond (alone slot letters) (n ∷ []) []
  told_alone None None = refl
  told_alone None (Some letters) = refl
  told_alone (Some rule) None = one (matches rule cred file)
    where
      one : (m : Bool) → flat_map number_told (option_map_or (λ reason. reason ∷ []) (cond m None None) []) ≡ []
      one true = refl
      one false = refl
  told_alone (Some rule) (Some letters) = one (matches rule cred file) (slot_gives letters (Some rule))
    where
      one : (m g : Bool) → flat_map number_told (option_map_or (λ reason. reason ∷ []) (cond m (reason_unless g (why.Rule n letters rule.mode)) None) [])
          ≡ cond (not (is_same Success (errno_unless ((not m || g) && true) Eacces))) (n ∷ []) []
      one true true = refl
      one true false = refl
      one false g = refl

  abbrev lacks : ℕ → Option Rule → Bool
  lacks letters slot = is_match cred file slot && not (slot_gives letters slot)

  alone_lacks : (slot : Option Rule) (letters : ℕ) → alone slot (Some letters) ≡ lacks letters slot
  alone_lacks slot letters = one (is_match cred file slot) (slot_gives letters slot)
    where
      one : (m g : Bool) → not (is_same Success (errno_unless ((not m || g) && true) Eacces)) ≡ (m && not g)
      one true true = refl
      one true false = refl
      one false g = refl

-- Of all rules

module _ (slots : Slots) (item : Item) where
  abbrev denying : ℕ → Bool
  denying n = denies_alone slots item n

  -- of the other rules, where that one is told
  abbrev others : ℕ → ℕ → ℕ → List ℕ
  others told start many = flat_map number_told (flat_map (other_reason slots item told) (range_with_len start many))

  put : (b : Bool) (n : ℕ) (ns : List ℕ) → cond b (n ∷ []) [] ++ ns ≡ cond b (n ∷ ns) ns
  put true n ns = refl
  put false n ns = refl

  other : (told n : ℕ) (b : Bool) → (n == told) ≡ b → flat_map number_told (other_reason slots item told n) ≡ cond b [] (cond (denying n) (n ∷ []) [])
  other told n true is = rw is refl
  other told n false is = rw is (told_alone item.subject.cred (attributes_of item.object) n (get_or slots n None) (row_of item.op).letters)

  differ : (a b : ℕ) (e : Bool) → b < a → (a == b) ≡ e → e ≡ false
  differ a b true less is = let same : a ≡ b = eqb-true a b is in absurd (omega (arith, less, same))
  differ a b false less is = refl

  behind : (told start many : ℕ) → told < start → others told start many ≡ filter denying (range_with_len start many)
  behind told start zero less = refl
  behind told start (suc many) less =
      flat_map-append number_told (other_reason slots item told start) (flat_map (other_reason slots item told) (range_with_len (start + 1) many))
      ∙ ap (λ ns. ns ++ others told (start + 1) many) (other told start false (differ start told (start == told) less refl))
      ∙ ap (λ ns. cond (denying start) (start ∷ []) [] ++ ns) (behind told (start + 1) many (omega (arith, less)))
      ∙ put (denying start) start (filter denying (range_with_len (start + 1) many))

  from : (told start many before : ℕ) → start + before ≡ told → before < many → denying told ≡ true → ((m : ℕ) → m < told → denying m ≡ false)
      → told ∷ others told start many ≡ filter denying (range_with_len start many)
  from told start zero before at within denies least = absurd (omega (arith, within))
  from told start (suc many) zero at within denies least =
      let same : start ≡ told = omega (arith, at) in
      let here : denying start ≡ true = ap denying same ∙ denies in
      ap (λ ns. told ∷ ns)
      (flat_map-append number_told (other_reason slots item told start) (flat_map (other_reason slots item told) (range_with_len (start + 1) many))
      ∙ ap (λ ns. ns ++ others told (start + 1) many) (other told start true (eq-eqb start told same))
      ∙ behind told (start + 1) many (omega (arith, same)))
      ∙ ap (λ n. n ∷ filter denying (range_with_len (start + 1) many)) (sym same)
      ∙ sym (ap (λ b. cond b (start ∷ filter denying (range_with_len (start + 1) many)) (filter denying (range_with_len (start + 1) many))) here)
  from told start (suc many) (suc before) at within denies least =
      let passes : denying start ≡ false = least start (omega (arith, at)) in
      ap (λ ns. told ∷ ns)
      (flat_map-append number_told (other_reason slots item told start) (flat_map (other_reason slots item told) (range_with_len (start + 1) many))
      ∙ ap (λ ns. ns ++ others told (start + 1) many) (before_told (start == told) refl passes))
      ∙ from told (start + 1) many before (omega (arith, at)) (omega (arith, within)) denies least
      ∙ sym (ap (λ b. cond b (start ∷ filter denying (range_with_len (start + 1) many)) (filter denying (range_with_len (start + 1) many))) passes)
    where
      before_told : (b : Bool) → (start == told) ≡ b → denying start ≡ false → flat_map number_told (other_reason slots item told start) ≡ []
      before_told true is passes = other told start true is
      before_told false is passes = other told start false is ∙ ap (λ b. cond b (start ∷ []) []) passes

  nothing : (start many : ℕ) → ((m : ℕ) → denying m ≡ false) → filter denying (range_with_len start many) ≡ []
  nothing start zero passes = refl
  nothing start (suc many) passes =
      ap (λ b. cond b (start ∷ filter denying (range_with_len (start + 1) many)) (filter denying (range_with_len (start + 1) many))) (passes start)
      ∙ nothing (start + 1) many passes

  abbrev cred : Cred
  cred = item.subject.cred

  abbrev file : FileView
  file = attributes_of item.object

  abbrev lack : ℕ → Option Rule → Bool
  lack letters slot = lacks cred file 0 letters slot

  as_lacks : (asked n : ℕ) → (row_of item.op).letters ≡ Some asked → denying n ≡ lack asked (get_or slots n None)
  as_lacks asked n is = ap (λ letters. alone cred file n (get_or slots n None) letters) is ∙ alone_lacks cred file n (get_or slots n None) asked

  -- what is told, by the reason
  abbrev told_by : Option Reason → List ℕ
  told_by o = option_map_or (λ why. flat_map number_told (why ∷ other_reasons (means.Bsdextended slots false) item why)) o []

  by_rule : (asked n : ℕ) (slot : Option Rule) → lack asked slot ≡ true → told_by (slot_reason slot n asked) ≡ n ∷ others n 0 (length slots)
  by_rule asked n None lacking = cc
  by_rule asked n (Some rule) lacking = one (matches rule cred file) (slot_gives asked (Some rule)) lacking
    where
      one : (m g : Bool) → (m && not g) ≡ true → told_by (reason_unless g (why.Rule n asked rule.mode)) ≡ n ∷ others n 0 (length slots)
      one true true lacking = cc
      one true false lacking = refl
      one false g lacking = cc

  each_passes : (asked : ℕ) (some : Slots) → list_any (lack asked) some ≡ false → (m : ℕ) → lack asked (get_or some m None) ≡ false
  each_passes asked [] all m = refl
  each_passes asked (slot ∷ some) all zero = one (lack asked slot) all
    where
      one : (b : Bool) → (b || list_any (lack asked) some) ≡ false → b ≡ false
      one true all = cc
      one false all = refl
  each_passes asked (slot ∷ some) all (suc m) = each_passes asked some (one (lack asked slot) all) m
    where
      one : (b : Bool) → (b || list_any (lack asked) some) ≡ false → list_any (lack asked) some ≡ false
      one true all = cc
      one false all = all

  by_place : (asked : ℕ) (o : Option ℕ) → (row_of item.op).letters ≡ Some asked → position (lack asked) slots ≡ o
      → told_by (option_and_then (λ n. slot_reason (get_or slots n None) n asked) o) ≡ filter denying (range_with_len 0 (length slots))
  by_place asked None is at = sym (nothing 0 (length slots) (λ m. as_lacks asked m is ∙ each_passes asked slots (none (lack asked) slots at) m))
  by_place asked (Some n) is at =
      let here = position-Some (lack asked) slots n None at in
      by_rule asked n (get_or slots n None) here.1
      ∙ from n 0 (length slots) n (omega arith) here.0 (as_lacks asked n is ∙ here.1) (λ m less. as_lacks asked m is ∙ here.2 m less)

  abbrev told_asked : Option ℕ → List ℕ
  told_asked letters = told_by (option_and_then (λ asked. option_and_then (λ n. slot_reason (get_or slots n None) n asked) (position (lack asked) slots)) letters)

  by_letters : (letters : Option ℕ) → (row_of item.op).letters ≡ letters → told_by (rules_reason slots false item) ≡ filter denying (range_with_len 0 (length slots))
  by_letters None is = ap told_asked is ∙ sym (nothing 0 (length slots) (λ m. ap (λ letters. alone cred file m (get_or slots m None) letters) is))
  by_letters (Some asked) is = ap told_asked is ∙ by_place asked (position (lack asked) slots) is refl

pub each_rule_is_told : EachRuleIsTold
each_rule_is_told slots registration by item = one (rules_reason slots false item) ∙ by_letters slots item (row_of item.op).letters refl
  where
    one : (o : Option Reason)
        → flat_map numbers_told (option_map_or (λ why. (record { «module» = registration.module; mark = mark_of by registration.module; reason = why; others = other_reasons (means.Bsdextended slots false) item why }) ∷ []) o [])
        ≡ told_by slots item o
    one None = refl
    one (Some why) = append-nil (flat_map number_told (why ∷ other_reasons (means.Bsdextended slots false) item why))
