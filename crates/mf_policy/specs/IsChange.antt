-- Which changes of settings can be asked for.
use Rattle.std.specs.Prelude.{◌<◌}
use Rattle.mf_rule.specs.declared.rule_list.TheConstants.{MAX_RULES}
use Rattle.mf_policy.specs.declared.settings.Change.{Change}
use Rattle.mf_policy.specs.declared.settings.Change.TheVariants.{RuleSet}

-- a rule that is set has one of the numbers
abbrev pub IsChange : Change → Type 0
IsChange (RuleSet n rule) = n < MAX_RULES
IsChange other = Unit {0}
