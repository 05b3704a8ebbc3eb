use Rattle.std.proofs.Common.{ap}
use Rattle.mf_objects.specs.declared.id.Id.{Id}
use Rattle.mf_objects.specs.Live.{Entities}
use Rattle.mf_parties.proofs.Standing.{standing_pushed}
use Rattle.mf_parties.proofs.parties.Parties.add.Goals as goal

pub invariant_of-self-2 : goal.invariant_of-self-2
invariant_of-self-2 c =
    let o : Entities = record { next = c.self.inside.next; live = c.self.inside.list.items } in
    rw c.in_ok-push.ensures.items (standing_pushed o _ (ap (λ (i : Id). i.0) c.new.ensures) c.requires.unopened c.self.invariant)
