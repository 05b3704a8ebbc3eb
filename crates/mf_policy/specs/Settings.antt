-- What a change of a setting does. mac_biba's policy has a setting, revocation, a tunable of mac_biba(4), and so has mac_bsdextended's: its rules,
-- which ugidfw(8) changes, and first match, a sysctl of mac_bsdextended(4). Those of mac_seeotheruids(4) and mac_portacl(4) are sysctls,
-- and a change has all of them; the other policies have none. That a new rule gets the lowest free number, and
-- the errnos, are this model's own choice.
use Rattle.std.specs.Option.{is_none, option_map_or}
use Rattle.std.specs.Prelude.{ℕ, Bool, if◌then◌else◌, List, [], ◌∷◌, Option, Some, None, find, option_and_then, position, slice_index_or, slice_set}
use Rattle.mf_errno.specs.declared.errno.Errno.TheVariants.{Success, Enoent, Enobufs}
use Rattle.mf_errno.specs.declared.module.Module.{Module}
use Rattle.mf_errno.specs.declared.module.Module.TheVariants as modules
use Rattle.mf_rule.specs.RuleList.{Slots}
use Rattle.mf_rule.specs.declared.rule.Rule.{Rule}
use Rattle.mf_policy.specs.declared.settings.Change.{Change}
use Rattle.mf_policy.specs.declared.settings.Change.TheVariants.{Revocation, FirstMatch, RuleAdd, RuleSet, RuleRemove, See, Port}
use Rattle.mf_policy.specs.declared.settings.Changed.{Changed}
use Rattle.mf_policy.specs.declared.spec.Spec.{Spec}
use Rattle.mf_policy.specs.declared.spec.Spec.TheVariants as means
use Rattle.mf_policy.specs.Registration.{Entry, is_of}

-- the change was made
abbrev pub change_made : Changed
change_made = record { errno = Success; number = None }

-- the policy has no such setting, or no rule of that number
abbrev pub no_setting : Changed
no_setting = record { errno = Enoent; number = None }

-- one rule more, where a number is free
abbrev pub with_new_rule : Slots → Bool → Rule → Option ℕ → Changed × Spec
with_new_rule rules first rule None = (record { errno = Enobufs; number = None }, means.Bsdextended rules first)
with_new_rule rules first rule (Some n) =
    (record { errno = Success; number = Some n }, means.Bsdextended (slice_set rules n (Some rule)) first)

-- without the rule of a number, where it has one
abbrev pub without_rule : Slots → Bool → ℕ → Changed × Spec
without_rule rules first n =
    if is_none (slice_index_or rules n None) then (no_setting, means.Bsdextended rules first)
    else (change_made, means.Bsdextended (slice_set rules n None) first)

-- the answer to a change, and the spec after it
abbrev pub change_of : Spec → Change → Changed × Spec
change_of (means.Biba revocation) (Revocation enabled) = (change_made, means.Biba enabled)
change_of (means.Bsdextended rules first) (FirstMatch enabled) = (change_made, means.Bsdextended rules enabled)
change_of (means.Bsdextended rules first) (RuleAdd rule) = with_new_rule rules first rule (position is_none rules)
change_of (means.Bsdextended rules first) (RuleSet n rule) = (change_made, means.Bsdextended (slice_set rules n (Some rule)) first)
change_of (means.Bsdextended rules first) (RuleRemove n) = without_rule rules first n
change_of (means.Seeotheruids _ _ _ _) (See (means.Seeotheruids primarygroup specific gid suser)) = (change_made, means.Seeotheruids primarygroup specific gid suser)
change_of (means.Portacl _ _ _ _) (Port (means.Portacl rules port_high suser autoport)) = (change_made, means.Portacl rules port_high suser autoport)
change_of spec change = (no_setting, spec)

-- Of the listed policies

-- the list where the module's policy has that spec
abbrev pub with_spec : Module → Spec → List Entry → List Entry
with_spec m spec [] = []
with_spec m spec (x ∷ xs) = if is_of m x then (x.0, spec) ∷ xs else x ∷ with_spec m spec xs

-- the answer to a change of the module's policy, and the list after it; a module that isn't listed has no setting
abbrev pub change_in : Module → Change → List Entry → Changed × List Entry
change_in m change entries =
    option_map_or (λ entry. ((change_of entry.1 change).0, with_spec m (change_of entry.1 change).1 entries)) (find (is_of m) entries)
    (no_setting, entries)

abbrev pub file_rules : Spec → Option Slots
file_rules (means.Bsdextended rules first) = Some rules
file_rules other = None

-- the rules about files of the listed policies, where mac_bsdextended's is among them
abbrev pub listed_rules : List Entry → Option Slots
listed_rules entries = option_and_then (λ entry. file_rules entry.1) (find (is_of modules.Bsdextended) entries)
