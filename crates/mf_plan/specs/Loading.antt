-- With which errno the framework refuses to load and to unload a module; inner contracts alone cite this.
use Rattle.std.specs.Prelude.{Option, option_map}
use Rattle.mf_errno.specs.declared.errno.Errno.{Errno}
use Rattle.mf_errno.specs.declared.module.Module.{Module}
use Rattle.mf_policy.specs.Loading.{load_fault, unload_fault, load_errno, unload_errno}
use Rattle.mf_plan.specs.declared.state.State.{State}

-- the errno with which a load of the module is refused, where it is
abbrev pub load_refusal : State → Module → Option Errno
load_refusal s m = option_map load_errno (load_fault s.booted s.specs s.numbers m)

-- the errno with which an unload of it is refused, where it is
abbrev pub unload_refusal : State → Module → Option Errno
unload_refusal s m = option_map unload_errno (unload_fault s.specs m)
