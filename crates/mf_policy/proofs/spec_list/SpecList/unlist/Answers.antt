use Rattle.std.proofs.Common.{◌∙◌, List, ap, sym}
use Rattle.std.specs.List.{remove}
use Rattle.mf_policy.specs.Registration.{Entry, is_of}
use Rattle.mf_policy.proofs.Places.{without_found, without_not_found}
use Rattle.mf_policy.proofs.spec_list.SpecList.unlist.Goals as goal
use Rattle.mf_policy.proofs.spec_list.SpecList.unlist.Goals.{in-Bsdextended-1, in-Biba-1}

pub returns-in-Some : goal.returns-in-Some
returns-in-Some c =
    let taken =
    c.remove-left.ensures.items
    ∙ ap (λ (entries : List Entry). remove entries c.in-Some.place) c.self.view_is
    ∙ without_found (is_of c.args.module) c.args.self.now c.in-Some.place (sym c.find.ensures ∙ c.in-Some.is) in
    elim c.match-left.branch [
      | in-Bsdextended-1 w ↦ w.self-is ∙ taken
      | in-Biba-1 w ↦ w.self-is ∙ taken
    ]

pub returns-in_default : goal.returns-in_default
returns-in_default c = without_not_found (is_of c.args.module) c.args.self.now (sym c.find.ensures ∙ c.in_default.is)
