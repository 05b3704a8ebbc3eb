-- Two passes, each of which was lent twice.
use Rattle.std.proofs.Common.{◌≡◌, zero, suc, List, [], ◌∷◌, length, get_or, set, Bool, true, false, sym, subst, arith, refl}
use Rattle.mf_calls.specs.declared.script.Script.{Script}
use Rattle.mf_share.specs.Passes.{PassView, AreBack, AreOneEach, pass_left}

pub left-task : (b : Bool) (p : PassView) → (pass_left b p).task ≡ p.task
left-task true p = refl
left-task false p = refl

pub left-out : (b : Bool) (p : PassView) → (pass_left b p).out ≡ false
left-out true p = refl
left-out false p = refl

pub first-read : (ps : List PassView) (x y b v : PassView) → length ps ≡ 2 → v ≡ get_or (set (set (set ps 0 x) 1 y) 1 b) 0 v → v ≡ x
first-read [] x y b v e h = absurd (omega arith)
first-read (p ∷ []) x y b v e h = absurd (omega arith)
first-read (p ∷ q ∷ rest) x y b v e h = h

pub second-read : (ps : List PassView) (x y v : PassView) → length ps ≡ 2 → v ≡ get_or (set (set ps 0 x) 1 y) 1 v → v ≡ y
second-read [] x y v e h = absurd (omega arith)
second-read (p ∷ []) x y v e h = absurd (omega arith)
second-read (p ∷ q ∷ rest) x y v e h = h

pub second-before : (ps : List PassView) (x v : PassView) → length ps ≡ 2 → v ≡ get_or (set ps 0 x) 1 v → v ≡ get_or ps 1 v
second-before [] x v e h = absurd (omega arith)
second-before (p ∷ []) x v e h = absurd (omega arith)
second-before (p ∷ q ∷ rest) x v e h = h

two-each : (a b : PassView) → a.task ≡ 0 → a.out ≡ false → b.task ≡ 1 → b.out ≡ false → AreBack (a ∷ b ∷ []) 2
two-each a b at ao bt bo zero lt d = (at, ao)
two-each a b at ao bt bo (suc zero) lt d = (bt, bo)
two-each a b at ao bt bo (suc (suc k)) lt d = absurd (omega arith)

pub two-back : (s : Script) (ps : List PassView) (x y a b : PassView) → length ps ≡ 2 → length s.tasks ≡ 2
    → a.task ≡ 0 → a.out ≡ false → b.task ≡ 1 → b.out ≡ false → AreOneEach s (set (set (set (set ps 0 x) 1 y) 1 b) 0 a)
two-back s [] x y a b e n at ao bt bo = absurd (omega arith)
two-back s (p ∷ []) x y a b e n at ao bt bo = absurd (omega arith)
two-back s (p ∷ q ∷ r ∷ rest) x y a b e n at ao bt bo = absurd (omega arith)
two-back s (p ∷ q ∷ []) x y a b e n at ao bt bo = record { count = sym n; each = subst (λ m. AreBack (a ∷ b ∷ []) m) (sym n) (two-each a b at ao bt bo) }
