-- Who denies a check, and why: this model's own (docs/MANUAL.md, WHY).
use Rattle.std.specs.Option.{option_map_or}
use Rattle.std.specs.Prelude.{ℕ, false, if◌then◌else◌, ◌==◌, List, [], ◌∷◌, length, Option}
use Rattle.std.specs.List.{flat_map, range_with_len}
use Rattle.mf_errno.specs.declared.module.Module.{Module}
use Rattle.mf_errno.specs.Same.{same_module}
use Rattle.mf_item.specs.Item.{Item}
use Rattle.mf_rule.specs.RuleList.{Slots}
use Rattle.mf_policy.specs.declared.spec.Spec.{Spec}
use Rattle.mf_policy.specs.declared.spec.Spec.TheVariants as means
use Rattle.mf_policy.specs.Registration.{Entry}
use Rattle.mf_list.specs.Asked.{slot_of}
use Rattle.mf_answers.specs.declared.reasons.Reason.{Reason}
use Rattle.mf_answers.specs.declared.reasons.Reason.TheVariants as why
use Rattle.mf_answers.specs.Reasons.{reason, rule_reason}
use Rattle.mf_why.specs.declared.deniers.Mark.{Mark}
use Rattle.mf_why.specs.declared.deniers.Mark.TheVariants.{Decides, Also}

-- a listed policy that denies a check; of mac_bsdextended also the other rules that deny by themselves
pub record Denier : Type 0 where
  pub «module» : Module
  pub mark : Mark
  pub reason : Reason
  pub others : List Reason

-- whether it is the policy that the reply names
abbrev pub mark_of : Option Module → Module → Mark
mark_of by m = if option_map_or (λ decider. same_module decider m) by false then Decides else Also

-- why the rule of a number denies, unless it is the told one
abbrev pub other_reason : Slots → Item → ℕ → ℕ → List Reason
other_reason rules item told number = if number == told then [] else option_map_or (λ reason. reason ∷ []) (rule_reason rules number item) []

-- by rising number; with first match the told rule alone decides
abbrev pub other_reasons : Spec → Item → Reason → List Reason
other_reasons (means.Bsdextended rules false) item (why.Rule told wanted given) = flat_map (other_reason rules item told) (range_with_len 0 (length rules))
other_reasons spec item reason = []

-- a listed policy, where it denies the check, by the policy that the reply names
abbrev pub denier : Option Module → Item → Entry → List Denier
denier by item entry =
    option_map_or
    (λ why. (record { «module» = entry.0.module; mark = mark_of by entry.0.module; reason = why; others = other_reasons entry.1 item why }) ∷ [])
    (reason entry.1 (slot_of entry.0) item) []

-- all that deny it, in walk order
abbrev pub deniers : List Entry → Option Module → Item → List Denier
deniers listed by item = flat_map (denier by item) listed
