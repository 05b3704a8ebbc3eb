use Rattle.std.proofs.Common.{sym, subst}
use Rattle.mf_objects.specs.Live.{Entities, is_process}
use Rattle.mf_objects.specs.Lives.{IsLive}
use Rattle.mf_parties.proofs.Standing.{standing_ended}
use Rattle.mf_parties.proofs.parties.Parties.remove_process.Goals as goal

pub invariant_of-self : goal.invariant_of-self
invariant_of-self c =
    let o : Entities = record { next = c.self.inside.next; live = c.self.inside.list.items } in
    rw c.remove_with.ensures (standing_ended c.args.id o (subst (λ (p : Entities). IsLive is_process p c.args.id) (sym c.self.view_is) c.requires) c.self.invariant)
