-- The policies that came with a core, by the script.
use Rattle.std.proofs.Common.{◌≡◌, List, ◌++◌, ap, ◌∙◌, subst}
use Rattle.mf_errno.specs.declared.module.Module.{Module}
use Rattle.mf_calls.specs.declared.script.Script.{Script}
use Rattle.mf_policy.specs.Registration.{Entry}
use Rattle.mf_core.specs.Policies.{AreOf, AreHeld, static_of}

pub are_beside : (s t : Script) (specs fixed list : List Entry) (catalogue : List Module) → AreOf specs fixed list catalogue → fixed ≡ static_of s → s ≡ t
    → AreHeld (static_of t ++ list) catalogue
are_beside s t specs fixed list catalogue are is same =
    subst (λ (xs : List Entry). AreHeld (xs ++ list) catalogue) (is ∙ ap static_of same) are.held
