use Rattle.std.proofs.Common.{ℕ, take, ap, ◌∙◌}
use Rattle.mf_list.specs.Asked.{grant_of}
use Rattle.mf_list.proofs.Grants.{granted_by_some}
use Rattle.mf_list.proofs.ask.is_granted.Goals as goal

pub returns : goal.returns
returns g c =
    granted_by_some (grant_of c.args.item.now.privilege c.args.item.now.subject.cred) c.args.listed.now
    (take c.len.result c.grants-room.result) c.granted.result c.granted.ensures
    (ap (λ (n : ℕ). take n c.grants-room.result) c.len.ensures.value ∙ c.grants-room.ensures)
