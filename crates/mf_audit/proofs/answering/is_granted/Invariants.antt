use Rattle.std.proofs.Common.{◌≡◌, drop}
use Rattle.std.specs.List.{list_any}
use Rattle.mf_list.specs.Asked.{grant_of}
use Rattle.mf_audit.proofs.answering.is_granted.Given as goal

abbrev pub invariant-loop-place : goal.invariant-loop-place
invariant-loop-place l =
    list_any (grant_of l.item.privilege l.item.subject.cred) l.listed ≡ list_any (grant_of l.item.privilege l.item.subject.cred) (drop l.place l.listed)
