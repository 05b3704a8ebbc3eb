-- Readers one after another, each of which reads or finds the fault of its line; and how what a function returns goes with that.
use Rattle.std.specs.Option.{option_map_or}
use Rattle.std.specs.Prelude.{Bool, true, false, Option, Some, None, Result, Ok, Err}
use Rattle.mf_errno.specs.declared.errno.Errno.{Errno}
use Rattle.mf_script.specs.declared.error.ScriptFault.{ScriptFault}
use Rattle.mf_script.specs.declared.error.ScriptFault.TheVariants.{BootRefused}
use Rattle.mf_script.specs.declared.refusal.LineFault.{LineFault}

-- what is read, or the fault of the line
abbrev pub Read : Type 0 → Type 0
Read A = Result A LineFault

-- what the second reads with what the first read
unfoldable pub and_then : {A B : Type 0} → Read A → (A → Read B) → Read B
and_then (Ok x) more = more x
and_then (Err e) more = Err e

infixl 10 ◌>>=◌
abbrev pub ◌>>=◌ : {A B : Type 0} → Read A → (A → Read B) → Read B
read >>= more = and_then read more

abbrev pub plain : ScriptFault → LineFault
plain fault = record { fault = fault; errno = None }

abbrev pub fails : {A : Type 0} → ScriptFault → Read A
fails fault = Err (plain fault)

abbrev pub boot_refused : {A : Type 0} → Errno → Read A
boot_refused errno = Err (record { fault = BootRefused; errno = Some errno })

-- goes on where the test is true, and else has that fault
abbrev pub unless : ScriptFault → Bool → Read (Unit {0})
unless fault true = Ok tt
unless fault false = fails fault

-- goes on where the test is true, and else refuses what is to be booted, or set before it, with that errno
abbrev pub unless_refused : Errno → Bool → Read (Unit {0})
unless_refused errno true = Ok tt
unless_refused errno false = boot_refused errno

-- what another reader reads, each of whose faults is this one here
abbrev pub or_fault : {A E : Type 0} → ScriptFault → Result A E → Read A
or_fault fault (Ok x) = Ok x
or_fault fault (Err e) = fails fault

-- one of two, by whether there is something
abbrev pub by_option : {A B : Type 0} → Option A → B → (A → B) → B
by_option found stop more = option_map_or more found stop
