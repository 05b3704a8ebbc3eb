-- The rules of a listed policy stay such as words can stand for.
use Rattle.std.proofs.Common.{◌≡◌, ℕ, Bool, true, false, cond, List, [], ◌∷◌, Option, Some, None, refl, ◌∙◌}
use Rattle.std.specs.Option.{is_none}
use Rattle.std.specs.Prelude.{find, if◌then◌else◌, option_and_then, option_map, position, replicate, slice_index_or, slice_set, IfSome}
use Rattle.std.proofs.lemmas.List.{length-replicate, length-set}
use Rattle.std.proofs.lemmas.List.Elements.{All-from_recursion, All-replicate, All-set, recursion_from_All}
use Rattle.mf_errno.specs.declared.module.Module.{Module}
use Rattle.mf_errno.specs.declared.module.Module.TheVariants.{Bsdextended}
use Rattle.mf_policy.specs.declared.settings.Change.{Change}
use Rattle.mf_policy.specs.declared.settings.Change.TheVariants.{Revocation, RuleAdd, RuleSet, RuleRemove, See, Port}
use Rattle.mf_policy.specs.declared.settings.Changed.{Changed}
use Rattle.mf_policy.specs.declared.spec.Spec.{Spec}
use Rattle.mf_policy.specs.declared.spec.Spec.TheVariants as means
use Rattle.mf_policy.specs.Modules.{fresh_of}
use Rattle.mf_policy.specs.Registration.{Entry, is_of}
use Rattle.mf_policy.specs.Settings.{change_in, change_of, change_made, no_setting, with_new_rule, with_spec, without_rule}
use Rattle.mf_policy.specs.Sysctls.{asked_of, sysctl_named, sysctl_row}
use Rattle.mf_policy.specs.declared.sysctl.Sysctl.{Sysctl}
use Rattle.mf_policy.specs.declared.sysctl.Sysctl.TheVariants as sysctl
use Rattle.mf_policy.proofs.ByEntry.{change_at}
use Rattle.mf_rule.specs.RuleGrammar.{IsRule}
use Rattle.mf_rule.specs.RuleList.{Slots}
use Rattle.mf_rule.specs.declared.rule.Rule.{Rule}
use Rattle.mf_rule.specs.declared.rule_list.TheConstants.{MAX_RULES}
use Rattle.mf_hist.specs.Lines.{AreRules}
use Rattle.mf_reading.proofs.Bounded.{AreBoundedSpecs, IsBoundedSpec}
use Rattle.mf_reading.proofs.Lists.{all_found, either_way}

abbrev no_rule : Option Rule
no_rule = None

-- a policy in its initial state
pub fresh_bounded : (m : Module) → IsBoundedSpec (fresh_of m)
fresh_bounded Bsdextended = record {
  all = length-replicate MAX_RULES no_rule;
  each = recursion_from_All (λ (slot : Option Rule). IfSome slot IsRule) (replicate MAX_RULES no_rule) (All-replicate (λ (slot : Option Rule). IfSome slot IsRule) MAX_RULES no_rule tt);
}
fresh_bounded other = tt

-- a change with a rule that words can stand for, where it has one
abbrev pub IsFormedChange : Change → Type 0
IsFormedChange (RuleAdd rule) = IsRule rule
IsFormedChange (RuleSet n rule) = IsRule rule
IsFormedChange other = Unit {0}

-- A change that a setting's value asks for has no rule

then_formed : {A : Type 0} (asks : A → Option Change) (found : Option A) → ((x : A) → IfSome (asks x) IsFormedChange) → IfSome (option_and_then asks found) IsFormedChange
then_formed asks None each = tt
then_formed asks (Some x) each = each x

read_formed : {A : Type 0} (change : A → Change) (read : Option A) → ((x : A) → IsFormedChange (change x)) → IfSome (option_map change read) IsFormedChange
read_formed change None each = tt
read_formed change (Some x) each = each x

row_formed : (s : Sysctl) (value : List ℕ) (spec : Spec) → IfSome ((sysctl_row s).asks value spec) IsFormedChange
row_formed sysctl.RevocationEnabled value spec = search (then_formed, read_formed)
row_formed other value spec = search (then_formed, read_formed)

named_formed : (listed : List Entry) (value : List ℕ) (s : Sysctl) → IfSome (if (sysctl_row s).tunable then None else asked_of s listed value) IsFormedChange
named_formed listed value sysctl.RevocationEnabled = tt
named_formed listed value other = then_formed _ _ (row_formed other value)

-- the change that a value asks of the setting of a name, which is no tunable
abbrev pub asked_named : List Entry → List ℕ → List ℕ → Option Change
asked_named listed name value = option_and_then (λ s. if (sysctl_row s).tunable then None else asked_of s listed value) (sysctl_named name)

pub asked_formed : (listed : List Entry) (name value : List ℕ) → IfSome (asked_named listed name value) IsFormedChange
asked_formed listed name value = search (then_formed, named_formed)

slot_set : (rules : Slots) (n : ℕ) (slot : Option Rule) → IfSome slot IsRule → AreRules rules → AreRules (slice_set rules n slot)
slot_set rules n slot formed fits = record {
  all = length-set rules n slot ∙ fits.all;
  each = recursion_from_All (λ (s : Option Rule). IfSome s IsRule) (slice_set rules n slot)
      (All-set (λ (s : Option Rule). IfSome s IsRule) rules n slot formed (All-from_recursion (λ (s : Option Rule). IfSome s IsRule) rules fits.each));
}

rule_added : (rules : Slots) (first : Bool) (rule : Rule) (place : Option ℕ) → IsRule rule → AreRules rules → IsBoundedSpec (with_new_rule rules first rule place).1
rule_added rules first rule None formed fits = fits
rule_added rules first rule (Some n) formed fits = slot_set rules n (Some rule) formed fits

rule_removed : (rules : Slots) (first : Bool) (n : ℕ) → AreRules rules → IsBoundedSpec (without_rule rules first n).1
rule_removed rules first n fits =
    either_way (λ (c : Changed × Spec). IsBoundedSpec c.1) (is_none (slice_index_or rules n None)) (no_setting, means.Bsdextended rules first)
    (change_made, means.Bsdextended (slice_set rules n None) first) fits (slot_set rules n None tt fits)

change_bounded : (spec : Spec) (change : Change) → IsFormedChange change → IsBoundedSpec spec → IsBoundedSpec (change_of spec change).1
change_bounded (means.Bsdextended rules first) (RuleAdd rule) formed fits = rule_added rules first rule (position is_none rules) formed fits
change_bounded (means.Bsdextended rules first) (RuleSet n rule) formed fits = slot_set rules n (Some rule) formed fits
change_bounded (means.Bsdextended rules first) (RuleRemove n) formed fits = rule_removed rules first n fits
change_bounded (means.Bsdextended rules first) other formed fits = fits
change_bounded (means.Biba revocation) (Revocation enabled) formed fits = tt
change_bounded (means.Seeotheruids _ _ _ _) (See (means.Seeotheruids _ _ _ _)) formed fits = tt
change_bounded (means.Portacl _ _ _ _) (Port (means.Portacl _ _ _ _)) formed fits = tt
change_bounded other change formed fits = tt

spec_set : (m : Module) (spec : Spec) (specs : List Entry) → IsBoundedSpec spec → AreBoundedSpecs specs → AreBoundedSpecs (with_spec m spec specs)
spec_set m spec [] here all = tt
spec_set m spec (x ∷ specs) here all = one (is_of m x) (spec_set m spec specs here all.1)
  where
    one : (b : Bool) → AreBoundedSpecs (with_spec m spec specs) → AreBoundedSpecs (cond b ((x.0, spec) ∷ specs) (x ∷ with_spec m spec specs))
    one true rest = (here, all.1)
    one false rest = (all.0, rest)

-- a change of a setting of a listed policy
pub specs_changed : (m : Module) (change : Change) (specs : List Entry) → IsFormedChange change → AreBoundedSpecs specs → AreBoundedSpecs (change_in m change specs).1
specs_changed m change specs formed all = one (find (is_of m) specs) refl
  where
    one : (found : Option Entry) → find (is_of m) specs ≡ found → AreBoundedSpecs (change_at m change specs found).1
    one None is = all
    one (Some entry) is =
        spec_set m (change_of entry.1 change).1 specs
        (change_bounded entry.1 change formed (all_found (λ (x : Entry). IsBoundedSpec x.1) (is_of m) specs entry all is).0) all
