-- What a reader of the grammar reads, where it reads anything, is so.
use Rattle.std.proofs.Common.{◌≡◌, Bool, true, false, Option, Some, None, Ok, Err, refl, subst}
use Rattle.std.specs.Prelude.{if◌then◌else◌}
use Rattle.mf_script.specs.declared.error.ScriptFault.{ScriptFault}
use Rattle.mf_script.specs.declared.refusal.LineFault.{LineFault}
use Rattle.mf_script.specs.Readers.{Read, and_then, unless, by_option}

pub record Yields {A : Type 0} (P : A → Type 0) (read : Read A) : Type 0 where
  pub of : (x : A) → read ≡ Ok x → P x

pub done : {A : Type 0} {P : A → Type 0} {x : A} → P x → Yields P (Ok x)
done {P = P} p = record { of = λ y e. let same : _ ≡ y = cc in subst P same p }

pub refused : {A : Type 0} {P : A → Type 0} {fault : LineFault} → Yields P (Err fault)
refused = record { of = λ y e. cc }

-- what the first reads is so, and with such a thing what the second reads
pub chain : {A B : Type 0} {P : A → Type 0} {Q : B → Type 0} (read : Read A) (more : A → Read B)
    → Yields P read → ((x : A) → P x → Yields Q (more x)) → Yields Q (and_then read more)
unfolding and_then
chain (Ok x) more first rest = rest x (first.of x refl)
chain (Err e) more first rest = refused

-- the same, whatever the first reads
pub skip : {A B : Type 0} {Q : B → Type 0} (read : Read A) (more : A → Read B)
    → ((x : A) → Yields Q (more x)) → Yields Q (and_then read more)
unfolding and_then
skip (Ok x) more rest = rest x
skip (Err e) more rest = refused

pub checked : {B : Type 0} {Q : B → Type 0} (fault : ScriptFault) (test : Bool) (more : Unit {0} → Read B)
    → (test ≡ true → Yields Q (more tt)) → Yields Q (and_then (unless fault test) more)
unfolding and_then
checked fault true more rest = rest refl
checked fault false more rest = refused

pub either : {A : Type 0} {P : A → Type 0} (test : Bool) (first second : Read A) → Yields P first → Yields P second → Yields P (if test then first else second)
either true first second one other = one
either false first second one other = other

pub chosen : {A B : Type 0} {Q : B → Type 0} (found : Option A) (stop : Read B) (more : A → Read B)
    → Yields Q stop → ((x : A) → Yields Q (more x)) → Yields Q (by_option found stop more)
chosen None stop more first rest = first
chosen (Some x) stop more first rest = rest x

-- what follows from what is so
pub widened : {A : Type 0} {P Q : A → Type 0} {read : Read A} → Yields P read → ((x : A) → P x → Q x) → Yields Q read
widened first so = record { of = λ x e. so x (first.of x e) }
