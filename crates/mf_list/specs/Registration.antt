-- Registration: which calls are refused, and what becomes of lists, catalogue and slot numbers, as in sys/security/mac/mac_framework.c.
use Rattle.std.specs.Prelude.{◌≡◌, ℕ, ◌+◌, Bool, true, false, if◌then◌else◌, not, ◌||◌, List, [], ◌∷◌, ◌++◌, Option, Some, None, find, is_some, Result, Ok, Err}
use Rattle.mf_errno.specs.Same.{same_module}
use Rattle.mf_errno.specs.declared.module.Module.{Module}
use Rattle.mf_policy.specs.declared.loading.LoadFault.{LoadFault}
use Rattle.mf_policy.specs.declared.loading.LoadFault.TheVariants as loading
use Rattle.mf_policy.specs.declared.loading.UnloadFault.{UnloadFault}
use Rattle.mf_policy.specs.declared.loading.UnloadFault.TheVariants as unloading
use Rattle.mf_policy.specs.declared.registration.Registration.{Registration}
use Rattle.mf_policy.specs.Loading.{load_fault, unload_fault}
use Rattle.mf_policy.specs.Registration.{Entry, is_listed, is_of}
pub use Rattle.mf_policy.specs.Registration.{entries_without, given_after, registration_of, slot_for, with_newest, with_registered, without_first}
pub use Rattle.mf_policy.specs.Settings.{change_in, with_spec}
use Rattle.mf_list.specs.declared.faults.RegisterFault.{RegisterFault}
use Rattle.mf_list.specs.declared.faults.RegisterFault.TheVariants.{Unknown, NotLate, Exists, NoSlot}
use Rattle.mf_list.specs.declared.faults.UnregisterFault.{UnregisterFault}
use Rattle.mf_list.specs.declared.faults.UnregisterFault.TheVariants.{NotLoaded, Pinned}
use Rattle.mf_list.specs.Lists.{in_catalogue}

-- a refusal of what is known
abbrev pub register_fault : LoadFault → RegisterFault
register_fault loading.NotLate = NotLate
register_fault loading.Exists = Exists
register_fault loading.NoSlot = NoSlot

-- the registration, unless there is a fault
abbrev pub registered_unless : Option LoadFault → Registration → Result Registration RegisterFault
registered_unless None r = Ok r
registered_unless (Some fault) r = Err (register_fault fault)

-- the answer to a registration: neither the lists nor the catalogue have the module, or it can't be loaded
abbrev pub register_verdict : Module → Bool → List Entry → List Module → ℕ → Result Registration RegisterFault
register_verdict m booted listed catalogue given =
    if not (is_listed m listed || in_catalogue m catalogue) then Err Unknown
    else registered_unless (load_fault booted listed given m) (registration_of m booted given)

-- the same for a name, which may be no module's
abbrev pub register_verdict_by_name : Option Module → Bool → List Entry → List Module → ℕ → Result Registration RegisterFault
register_verdict_by_name None booted listed catalogue given = Err Unknown
register_verdict_by_name (Some m) booted listed catalogue given = register_verdict m booted listed catalogue given

abbrev pub unregister_fault : UnloadFault → UnregisterFault
unregister_fault unloading.NotLoaded = NotLoaded
unregister_fault unloading.Pinned = Pinned

-- the registration that ends, unless there is a fault
abbrev pub ended_unless : Option UnloadFault → Option Entry → Result Registration UnregisterFault
ended_unless (Some fault) entry = Err (unregister_fault fault)
ended_unless None None = Err NotLoaded
ended_unless None (Some entry) = Ok entry.0

-- the answer to an unregistration
abbrev pub unregister_verdict : Module → List Entry → Result Registration UnregisterFault
unregister_verdict m listed = ended_unless (unload_fault listed m) (find (is_of m) listed)

abbrev pub unregister_verdict_by_name : Option Module → List Entry → Result Registration UnregisterFault
unregister_verdict_by_name None listed = Err NotLoaded
unregister_verdict_by_name (Some m) listed = unregister_verdict m listed

-- whether the lists or the catalogue have the module of that name
abbrev pub is_known : Option Module → List Entry → List Module → Bool
is_known None listed catalogue = false
is_known (Some m) listed catalogue = is_listed m listed || in_catalogue m catalogue

-- the catalogue without the module
abbrev pub modules_without : Module → List Module → List Module
modules_without m modules = without_first (same_module m) modules

-- the walked lists and the catalogue after a registration
pub record Enters (r : Registration) (listed listed' : List Entry) (catalogue catalogue' : List Module) : Type 0 where
  pub was_in_catalogue : in_catalogue r.module catalogue ≡ true
  pub entries : listed' ≡ with_registered listed r
  pub modules : catalogue' ≡ modules_without r.module catalogue

-- the walked lists, the catalogue and how many numbers were given, after a registration
pub record Registers (r : Registration) (listed listed' : List Entry) (catalogue catalogue' : List Module) (given given' : ℕ) : Type 0 where
  pub moves : Enters r listed listed' catalogue catalogue'
  pub slots : given' ≡ (if is_some r.slot then given + 1 else given)

-- the walked lists and the catalogue after an unregistration
pub record Unregisters (m : Module) (listed listed' : List Entry) (catalogue catalogue' : List Module) : Type 0 where
  pub was_listed : is_listed m listed ≡ true
  pub entries : listed' ≡ entries_without m listed
  pub modules : catalogue' ≡ catalogue ++ m ∷ []
