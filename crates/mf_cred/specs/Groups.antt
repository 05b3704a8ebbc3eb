-- The groups of a credential.
use Rattle.std.specs.Prelude.{ℕ, Bool, ◌==◌}
use Rattle.std.specs.List.{list_any}
use Rattle.mf_cred.specs.declared.cred.Cred.{Cred}

-- one of the groups is this one
abbrev pub in_group : Cred → ℕ → Bool
in_group cred group = list_any (λ other. other == group) cred.groups
