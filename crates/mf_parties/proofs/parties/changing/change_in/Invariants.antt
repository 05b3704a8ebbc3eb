use Rattle.std.proofs.Common.{◌≡◌, ◌++◌, map, take, drop}
use Rattle.mf_objects.proofs.Entities.{changed_at}
use Rattle.mf_parties.specs.Changing.{changed}
use Rattle.mf_parties.proofs.parties.changing.change_in.Given as goal

abbrev pub invariant-loop-party : goal.invariant-loop-party
invariant-loop-party l = l.list ≡ map (changed_at (changed l.change) l.id) (take l.party-index l.initial.list) ++ drop l.party-index l.initial.list
