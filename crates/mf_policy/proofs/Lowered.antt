-- What lowers an element changes it: each dominates itself.
use Rattle.std.proofs.Common.{◌≡◌, ◌≢◌, ℕ, Bool, true, false, ◌&&◌, nat_le, Some, Option, refl, ap, sym, ◌∙◌, subst, arith}
use Rattle.std.specs.Cmp.{nat_cmp_total}
use Rattle.std.specs.FinSet as set
use Rattle.std.specs.FinSet.{contains-is_subset}
use Rattle.std.proofs.lemmas.Bool.Decides.{nat_tests}
use Rattle.std.proofs.lemmas.Option.{same_Some}
use Rattle.mf_elem.specs.declared.elem.Elem.{Elem}
use Rattle.mf_elem.specs.declared.elem.Elem.TheVariants.{Low, High, Equal, Grade}
use Rattle.mf_elem.specs.Comps.{compartments_of}
use Rattle.mf_elem.specs.Elem.{dominates}

and_both : (a b : Bool) → a ≡ true → b ≡ true → (a && b) ≡ true
and_both true b first second = second
and_both false b first second = first

le_itself : (n : ℕ) → nat_le n n ≡ true
le_itself n = grind (arith, nat_tests)

dominates_itself : (e : Elem) → dominates e e ≡ true
dominates_itself Low = refl
dominates_itself High = refl
dominates_itself Equal = refl
dominates_itself (Grade g gs) =
    and_both (nat_le g g) (set.is_subset (compartments_of gs) (compartments_of gs)) (le_itself g)
    (contains-is_subset nat_cmp_total (compartments_of gs) (compartments_of gs) (λ n there. there))

pub lowered_differs : (subject object : Elem) → dominates object subject ≡ false → Some object ≢ Some subject
lowered_differs subject object under same =
    let there : dominates object object ≡ false = ap (dominates object) (same_Some object subject same) ∙ under in
    absurd (cc (sym (dominates_itself object) ∙ there))
