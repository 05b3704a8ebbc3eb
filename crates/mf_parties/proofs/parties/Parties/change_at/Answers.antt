use Rattle.std.proofs.Common.{List, sym, subst}
use Rattle.mf_objects.specs.Live.{LiveEntity, Entities}
use Rattle.mf_objects.proofs.Entities.{changed_at}
use Rattle.mf_parties.specs.Changing.{changed}
use Rattle.mf_parties.specs.Standing.{IsStanding}
use Rattle.mf_parties.proofs.Standing.{standing_with, whole}
use Rattle.mf_parties.proofs.parties.Parties.change_at.Goals as goal

pub invariant_of-self : goal.invariant_of-self
invariant_of-self c =
    let o : Entities = record { next = c.self.inside.next; live = c.self.inside.list.items } in
    subst (λ (es : List LiveEntity). IsStanding (record { next = c.self.inside.next; live = es }))
    (sym (whole c.self.inside.list.len (changed_at (changed c.args.change.now) c.args.id) c.deref_mut.result.now c.change_in.new.list o.live c.change_in.ensures c.deref_mut.ensures.value c.deref_mut.ensures.len))
    (standing_with c.args.change.now c.args.id o c.self.invariant)
