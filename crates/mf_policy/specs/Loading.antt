-- Which modules can be loaded and unloaded, while these policies are listed: the tests and errnos of `mac_policy_register` and
-- `mac_policy_unregister` (sys/security/mac/mac_framework.c).
use Rattle.std.specs.Prelude.{ℕ, Bool, not, ◌&&◌, nat_le, if◌then◌else◌, List, Option, Some, None}
use Rattle.mf_elem.specs.declared.label.TheConstants.{SLOTS}
use Rattle.mf_errno.specs.declared.errno.Errno.{Errno}
use Rattle.mf_errno.specs.declared.errno.Errno.TheVariants.{Enoent, Enomem, Ebusy, Eexist}
use Rattle.mf_errno.specs.declared.module.Module.{Module}
use Rattle.mf_policy.specs.declared.loading.LoadFault.{LoadFault}
use Rattle.mf_policy.specs.declared.loading.LoadFault.TheVariants.{NotLate, Exists, NoSlot}
use Rattle.mf_policy.specs.declared.loading.UnloadFault.{UnloadFault}
use Rattle.mf_policy.specs.declared.loading.UnloadFault.TheVariants.{NotLoaded, Pinned}
use Rattle.mf_policy.specs.Modules.{facts_of, wants_slot}
use Rattle.mf_policy.specs.Registration.{Entry, is_listed}

-- Why a module can't be loaded where so many slot numbers were given, by the first test that fits: boot has ended and it can't be
-- loaded late; it is listed; it wants a label slot and all were given.
abbrev pub load_fault : Bool → List Entry → ℕ → Module → Option LoadFault
load_fault booted listed given m =
    if booted && (facts_of m).not_late then Some NotLate
    else if is_listed m listed then Some Exists
    else if wants_slot m && nat_le SLOTS given then Some NoSlot
    else None

abbrev pub unload_fault : List Entry → Module → Option UnloadFault
unload_fault listed m =
    if not (is_listed m listed) then Some NotLoaded
    else if (facts_of m).unload_ok then None
    else Some Pinned

abbrev pub load_errno : LoadFault → Errno
load_errno NotLate = Ebusy
load_errno Exists = Eexist
load_errno NoSlot = Enomem

abbrev pub unload_errno : UnloadFault → Errno
unload_errno NotLoaded = Enoent
unload_errno Pinned = Ebusy
