-- A policy as it is loaded is of the same module.
use Rattle.std.proofs.Common.{◌≡◌, refl}
use Rattle.mf_policy.specs.declared.spec.Spec.{Spec}
use Rattle.mf_policy.specs.declared.spec.Spec.TheVariants.{Biba, Bsdextended, Portacl, Seeotheruids}
use Rattle.mf_policy.specs.Modules.{fresh_of, module_of}

pub fresh_module : (s : Spec) → module_of (fresh_of (module_of s)) ≡ module_of s
fresh_module (Biba revocation) = refl
fresh_module (Bsdextended rules first) = refl
fresh_module (Seeotheruids primarygroup specific gid suser) = refl
fresh_module (Portacl rules port_high suser autoport) = refl
fresh_module other = refl
