use Rattle.std.proofs.Common.{ap, ◌∙◌, ◌≡◌, ℕ, None, subst, List}
use Rattle.mf_elem.specs.declared.label.LabelValue.{LabelValue}
use Rattle.mf_slots.specs.Zones.{Handles, handle, Relabels}
use Rattle.mf_slots.proofs.Relabelling.{given_to_new, makes_label, none_made}
use Rattle.mf_slots.proofs.zones.Zones.make_label.Goals as goal

pub returns-clause-ok : goal.returns-clause-ok
returns-clause-ok c =
    let zones = c.args.self.now in
    let label = c.relabel.new.label in
    let values = c.args.values.now in
    let new : (slot : ℕ) → handle c.new-label.result slot ≡ None = λ slot. ap (λ (label : Handles). handle label slot) c.new-label.ensures ∙ none_made slot in
    makes_label zones c.relabel.new.self c.new-label.result label values new
    (subst (λ (vs : List LabelValue). Relabels zones c.relabel.new.self c.new-label.result label vs) (given_to_new zones c.new-label.result values c.told-values new) c.in_ok-relabel.ensures.ok)
