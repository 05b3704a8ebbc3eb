-- That all policies are handed in: this model's own.
use Rattle.std.specs.Prelude.{◌≡◌, List}
use Rattle.mf_errno.specs.Same.{same_module}
use Rattle.mf_errno.specs.declared.module.Module.{Module}
use Rattle.mf_list.specs.Held.{how_many}

abbrev pub AreAllModules : List Module → Type 0
AreAllModules modules = (m : Module) → how_many (same_module m) modules ≡ 1
