-- When two errors, and two modules, are equal: their names tell them apart.
use Rattle.std.specs.Prelude.{Bool}
use Rattle.std.specs.Str.{bytes_eq}
use Rattle.mf_errno.specs.declared.errno.Errno.{Errno}
use Rattle.mf_errno.specs.declared.module.Module.{Module}
use Rattle.mf_errno.specs.Names.{module_text, error_text}

abbrev pub is_same : Errno → Errno → Bool
is_same a b = bytes_eq (error_text a) (error_text b)

abbrev pub same_module : Module → Module → Bool
same_module m other = bytes_eq (module_text m) (module_text other)
