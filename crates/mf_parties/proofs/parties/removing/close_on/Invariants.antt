use Rattle.std.proofs.Common.{◌≡◌, ◌++◌, map, take, drop}
use Rattle.mf_objects.specs.Changes.{with_what}
use Rattle.mf_objects.specs.Descriptors.{with_fds, closed_on}
use Rattle.mf_parties.proofs.parties.removing.close_on.Given as goal

abbrev pub invariant-loop-party : goal.invariant-loop-party
invariant-loop-party l = l.list ≡ map (with_what (with_fds (closed_on l.file))) (take l.party-index l.initial.list) ++ drop l.party-index l.initial.list
