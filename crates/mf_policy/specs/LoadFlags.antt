-- The load-time flags of a module, as bits with the kernel's values (sys/security/mac/mac_policy.h).
use Rattle.std.specs.Prelude.{ℕ, ◌+◌, Bool, if◌then◌else◌, ◌==◌}
use Rattle.std.specs.Int.RustNames.{bit_and}
use Rattle.mf_errno.specs.declared.module.Module.{Module}
use Rattle.mf_policy.specs.declared.load_flags.LoadFlags.{LoadFlags}
use Rattle.mf_policy.specs.Modules.{facts_of}

abbrev pub is_notlate : LoadFlags → Bool
is_notlate flags = bit_and flags.0 1 == 1

abbrev pub is_unloadok : LoadFlags → Bool
is_unloadok flags = bit_and flags.0 2 == 2

abbrev pub bits_of : Bool → Bool → ℕ
bits_of not_late unload_ok = (if not_late then 1 else 0) + (if unload_ok then 2 else 0)

-- the flags that the module is registered with
abbrev pub flags_of : Module → LoadFlags
flags_of m = record { 0 = bits_of (facts_of m).not_late (facts_of m).unload_ok }
