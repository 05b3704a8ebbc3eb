-- Reading compartments one after another.
use Rattle.std.proofs.Common.{◌≡◌, ℕ, List, [], Option, Some, None, refl, ap, ◌∙◌}
use Rattle.mf_elem.specs.Comps.{with_compartment}
use Rattle.mf_elem.specs.declared.comps.Comps.{Comps}
use Rattle.mf_labeltext.specs.Reading.{cut, parts, number, comps_from, ◌>>=◌}
use Rattle.mf_labeltext.proofs.Cutting.{parts_none, parts_some}

-- one compartment read, and the others behind it
abbrev pub comps_behind : Comps → List ℕ → Option ℕ → Option Comps
comps_behind comps after None = None
comps_behind comps after (Some n) = comps_from (with_compartment comps n) (parts 43 after)

behind_is : (comps : Comps) (after : List ℕ) (n : Option ℕ) → (n >>= λ n. comps_from (with_compartment comps n) (parts 43 after)) ≡ comps_behind comps after n
behind_is comps after None = refl
behind_is comps after (Some n) = refl

pub comps_more : (comps : Comps) (text first after : List ℕ) → cut 43 text ≡ Some (first, after) → comps_from comps (parts 43 text) ≡ comps_behind comps after (number 1 256 first)
unfolding comps_from
comps_more comps text first after is = ap (comps_from comps) (parts_some 43 text first after is) ∙ behind_is comps after (number 1 256 first)

-- the last compartment
abbrev pub comps_last : Comps → Option ℕ → Option Comps
comps_last comps None = None
comps_last comps (Some n) = Some (with_compartment comps n)

last_is : (comps : Comps) (n : Option ℕ) → (n >>= λ n. comps_from (with_compartment comps n) []) ≡ comps_last comps n
unfolding comps_from
last_is comps None = refl
last_is comps (Some n) = refl

pub comps_end : (comps : Comps) (text : List ℕ) → cut 43 text ≡ None → comps_from comps (parts 43 text) ≡ comps_last comps (number 1 256 text)
unfolding comps_from
comps_end comps text is = ap (comps_from comps) (parts_none 43 text is) ∙ last_is comps (number 1 256 text)
