-- The sorts of calls, by what they are about. Inner contracts alone cite this.
use Rattle.mf_calls.specs.declared.script.Call.{Call}
use Rattle.mf_calls.specs.declared.script.Call.TheVariants as call
use Rattle.mf_audit.specs.declared.rows.Sort.{Sort}
use Rattle.mf_audit.specs.declared.rows.Sort.TheVariants as sorts

abbrev pub sort_of : Call → Sort
sort_of (call.Fork child) = sorts.Making
sort_of (call.Pipe name) = sorts.Making
sort_of (call.Socket name) = sorts.Making
sort_of (call.Create path) = sorts.Making
sort_of (call.Mkdir path) = sorts.Making
sort_of call.Exit = sorts.Itself
sort_of (call.Priv p) = sorts.Itself
sort_of call.Getpmac = sorts.Itself
sort_of (call.Setpmac text) = sorts.Itself
sort_of call.Kldstat = sorts.Itself
sort_of (call.See name) = sorts.Process
sort_of (call.Signal name) = sorts.Process
sort_of (call.Debug name) = sorts.Process
sort_of (call.Sched name) = sorts.Process
sort_of (call.Fread n) = sorts.Descriptor
sort_of (call.Fwrite n text) = sorts.Descriptor
sort_of (call.Close n) = sorts.Descriptor
sort_of (call.Pread name) = sorts.Pipe
sort_of (call.Pwrite name text) = sorts.Pipe
sort_of (call.Pstat name) = sorts.Pipe
sort_of (call.Setpipemac text name) = sorts.Pipe
sort_of (call.Send from to text) = sorts.Socket
sort_of (call.Recv name) = sorts.Socket
sort_of (call.Seesock name) = sorts.Socket
sort_of (call.Setsockmac text name) = sorts.Socket
sort_of (call.Bind name tcp port) = sorts.Socket
sort_of (call.Kldload name) = sorts.Module
sort_of (call.Kldunload name) = sorts.Module
sort_of (call.Sysctl name value) = sorts.Setting
sort_of call.UgidfwList = sorts.Setting
sort_of (call.UgidfwAdd rule) = sorts.Setting
sort_of (call.UgidfwSet n rule) = sorts.Setting
sort_of (call.UgidfwRemove n) = sorts.Setting
sort_of (call.Setfmac text path) = sorts.Change
sort_of (call.Chmod path mode) = sorts.Change
sort_of (call.Unlink path) = sorts.Change
sort_of other = sorts.File
