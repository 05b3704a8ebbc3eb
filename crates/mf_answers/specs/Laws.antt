-- What is true of the reasons of policies.
use Rattle.std.specs.Prelude.{◌≡◌, ℕ, suc, Bool, true, false, [], ◌∷◌, ◌++◌, Some, None, is_none, take, slice_index_or}
use Rattle.std.specs.Int.RustNames.{bit_and}
use Rattle.mf_errno.specs.declared.errno.Errno.TheVariants.{Success}
use Rattle.mf_errno.specs.Same.{is_same}
use Rattle.mf_cred.specs.declared.cred.Cred.{Cred}
use Rattle.mf_cred.specs.declared.cred.FileView.{FileView}
use Rattle.mf_item.specs.Item.{Item}
use Rattle.mf_rule.specs.RuleList.{Slots, verdict}
use Rattle.mf_rule.specs.declared.rule.Rule.{Rule}
use Rattle.mf_policy.specs.declared.spec.Spec.{Spec}
use Rattle.mf_policy.specs.Answer.{answer}
use Rattle.mf_answers.specs.declared.reasons.Reason.TheVariants as why
use Rattle.mf_answers.specs.Reasons.{errno_by, reason, verdict_reason}

-- the answer of a policy is the error of its reason, and success where there is none
abbrev pub ErrnoIsOfReason : Type 0
ErrnoIsOfReason = (spec : Spec) (slot : ℕ) (item : Item) → answer spec slot item ≡ errno_by (reason spec slot item)

-- there is no reason exactly where the answer is success
abbrev pub ReasonsDeny : Type 0
ReasonsDeny = (spec : Spec) (slot : ℕ) (item : Item) → is_none (reason spec slot item) ≡ is_same Success (answer spec slot item)

-- the rule with other letters
abbrev pub with_letters : Rule → ℕ → Rule
with_letters rule letters = record rule { mode = letters }

-- The rule that is told stands in the slot of its number with the letters that are told, and decides what is asked: whatever stands behind it,
-- the rules up to it deny; and they allow where it has letters that hold what is asked.
abbrev pub RuleDecides : Type 0
RuleDecides =
    (first : Bool) (slots behind : Slots) (cred : Cred) (file : FileView) (asked wanted number given : ℕ)
    → verdict_reason first slots cred file asked ≡ Some (why.Rule number wanted given)
    → (wanted ≡ asked)
    × (verdict first (take (suc number) slots ++ behind) cred file asked ≡ false)
    × ((rule : Rule) × (slice_index_or slots number None ≡ Some rule) × (rule.mode ≡ given)
    × ((letters : ℕ) → bit_and letters asked ≡ asked
    → verdict first (take number slots ++ Some (with_letters rule letters) ∷ []) cred file asked ≡ true))
