-- The errno with which a load or an unload is refused, as by sys/security/mac/mac_framework.c.
use Rattle.mf_errno.specs.declared.errno.Errno.{Errno}
use Rattle.mf_errno.specs.declared.errno.Errno.TheVariants.{Enoent}
use Rattle.mf_policy.specs.declared.loading.LoadFault.TheVariants as loading
use Rattle.mf_policy.specs.declared.loading.UnloadFault.TheVariants as unloading
use Rattle.mf_policy.specs.Loading.{load_errno, unload_errno}
use Rattle.mf_list.specs.declared.faults.RegisterFault.{RegisterFault}
use Rattle.mf_list.specs.declared.faults.RegisterFault.TheVariants.{Unknown, NotLate, Exists, NoSlot}
use Rattle.mf_list.specs.declared.faults.UnregisterFault.{UnregisterFault}
use Rattle.mf_list.specs.declared.faults.UnregisterFault.TheVariants.{NotLoaded, Pinned}

abbrev pub register_errno : RegisterFault → Errno
register_errno Unknown = Enoent
register_errno NotLate = load_errno loading.NotLate
register_errno Exists = load_errno loading.Exists
register_errno NoSlot = load_errno loading.NoSlot

abbrev pub unregister_errno : UnregisterFault → Errno
unregister_errno NotLoaded = unload_errno unloading.NotLoaded
unregister_errno Pinned = unload_errno unloading.Pinned
