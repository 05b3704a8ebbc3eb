use Rattle.std.proofs.Common.{◌≡◌, List, ℕ, false, Result, Ok, Err, ap, ◌∙◌}
use Rattle.mf_errno.specs.Names.{module_named, module_text}
use Rattle.mf_errno.specs.declared.module.Module.{Module}
use Rattle.mf_errno.proofs.Modules.{own_name}
use Rattle.mf_list.specs.declared.faults.RegisterFault.{RegisterFault}
use Rattle.mf_list.specs.Registration.{register_verdict_by_name, registration_of}
use Rattle.mf_policy.specs.declared.registration.Registration.{Registration}
use Rattle.mf_policy.specs.Registration.{Entry}
use Rattle.mf_core.specs.Policies.{CanBoot}
use Rattle.mf_core.proofs.Boots.{boot_verdict}
use Rattle.mf_core.proofs.booting.register_boot.Goals as goal

ok_same : (r : Result Registration RegisterFault) (a b : Registration) → Ok a ≡ r → r ≡ Ok b → a ≡ b
ok_same r a b is_a is_b = cc

err_ok : (f : RegisterFault) (r : Registration) → Err f ≡ Ok r → ⊥
err_ok f r same = cc

-- the answer to a registration by the module's own name
named_verdict : (m : Module) (name : List ℕ) (listed : List Entry) (catalogue : List Module) (given : ℕ) → name ≡ module_text m → CanBoot m listed catalogue given
    → register_verdict_by_name (module_named name) false listed catalogue given ≡ Ok (registration_of m false given)
named_verdict m name listed catalogue given named can =
    ap (λ found. register_verdict_by_name found false listed catalogue given) (ap module_named named ∙ own_name m) ∙ boot_verdict m listed catalogue given can

pub unreachable-requires : goal.unreachable-requires
unreachable-requires g c =
    err_ok _ _ (c.in-Err.ensures.verdict ∙ named_verdict _ _ _ _ _ c.name.ensures c.requires.can)

pub returns-clause-registration : goal.returns-clause-registration
returns-clause-registration g c =
    ok_same _ _ _ c.in-Ok.ensures.verdict (named_verdict _ _ _ _ _ c.name.ensures c.requires.can)
