-- A policy as it is handed in.
use Rattle.std.specs.Prelude.{◌≡◌}
use Rattle.mf_policy.specs.declared.spec.Spec.{Spec}
use Rattle.mf_policy.specs.Modules.{fresh_of, module_of}

-- a spec in its initial state
abbrev pub IsFresh : Spec → Type 0
IsFresh spec = spec ≡ fresh_of (module_of spec)
