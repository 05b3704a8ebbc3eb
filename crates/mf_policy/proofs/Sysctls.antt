-- The setting of a name.
use Rattle.std.proofs.Common.{◌≡◌, ◌≢◌, ℕ, false, List, [], ◌∷◌, Some, None, refl}
use Rattle.std.specs.Prelude.{find}
use Rattle.std.specs.Str.{bytes_eq}
use Rattle.mf_errno.proofs.Modules.{differs}
use Rattle.mf_policy.specs.Sysctls.{all_sysctls, sysctl_row, sysctl_named}
use Rattle.mf_policy.specs.declared.sysctl.Sysctl.{Sysctl}
use Rattle.mf_policy.specs.declared.sysctl.Sysctl.TheVariants as sysctl

-- each setting is found by its own name
pub own_name : (s : Sysctl) → sysctl_named (sysctl_row s).name ≡ Some s
unfolding sysctl_named
own_name sysctl.RevocationEnabled = refl
own_name other = refl

found_nowhere : (text : List ℕ) → ((s : Sysctl) → text ≢ (sysctl_row s).name) → (ss : List Sysctl) → find (λ s. bytes_eq (sysctl_row s).name text) ss ≡ None
found_nowhere text other [] = refl
found_nowhere text other (s ∷ ss) =
    let here : bytes_eq (sysctl_row s).name text ≡ false = differs (sysctl_row s).name text (other s) in
    let later = found_nowhere text other ss in
    rw here later

-- no setting is found by a text that is no setting's name
pub no_name : (text : List ℕ) → ((s : Sysctl) → text ≢ (sysctl_row s).name) → sysctl_named text ≡ None
unfolding sysctl_named
no_name text other = found_nowhere text other all_sysctls
