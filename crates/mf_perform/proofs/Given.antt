-- What a relabel gives the slots of a label.
use Rattle.std.proofs.Common.{◌≡◌, List, ◌∷◌, [], refl}
use Rattle.mf_elem.specs.declared.label.LabelValue.{LabelValue}
use Rattle.mf_elem.specs.declared.label.Request.{Request}
use Rattle.mf_slots.specs.Zones.{given, given_to, value_for}
use Rattle.mf_policy.specs.Registration.{Entry}
use Rattle.mf_policy.specs.Relabelled.{relabelled, relabelled_value}

-- a label that is given in each slot what the relabel makes of it
pub given_each : (first second third fourth : LabelValue) (listed : List Entry) (request : Request) (label : List LabelValue)
    → given first (value_for label 0) ≡ relabelled_value listed request label 0
    → given second (value_for label 1) ≡ relabelled_value listed request label 1
    → given third (value_for label 2) ≡ relabelled_value listed request label 2
    → given fourth (value_for label 3) ≡ relabelled_value listed request label 3
    → given_to (first ∷ second ∷ third ∷ fourth ∷ []) label ≡ relabelled listed request label
unfolding given_to
given_each first second third fourth listed request label at_0 at_1 at_2 at_3 = rw (at_0, at_1, at_2, at_3) refl
