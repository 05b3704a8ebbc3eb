-- What a reader of words answers.
use Rattle.std.specs.Prelude.{◌≡◌, Result, Ok, Err}
use Rattle.mf_script.specs.declared.refusal.Refusal.{Refusal}
use Rattle.mf_script.specs.declared.refusal.Refusal.TheVariants as refusal
use Rattle.mf_script.specs.Readers.{Read}

-- the fault is the line's, or memory ran out
abbrev pub Fails : {Y : Type 0} → Refusal → Read Y → Type 0
Fails refusal.Memory read = Unit {0}
Fails (refusal.Faulty fault) read = read ≡ Err fault

-- What a function returned, seen by `view`, is what is read, unless memory ran out.
abbrev pub Gives : {X Y : Type 0} → (X → Y) → Result X Refusal → Read Y → Type 0
Gives view (Ok x) read = read ≡ Ok (view x)
Gives view (Err e) read = Fails e read
