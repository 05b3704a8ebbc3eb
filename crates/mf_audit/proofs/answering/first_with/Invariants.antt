use Rattle.std.proofs.Common.{◌≡◌, drop}
use Rattle.std.specs.Prelude.{find}
use Rattle.mf_errno.specs.Same.{is_same}
use Rattle.mf_list.specs.Asked.{answer_of}
use Rattle.mf_audit.proofs.answering.first_with.Given as goal

abbrev pub invariant-loop-place : goal.invariant-loop-place
invariant-loop-place l =
    find (λ entry. is_same l.errno (answer_of l.item entry)) l.listed ≡ find (λ entry. is_same l.errno (answer_of l.item entry)) (drop l.place l.listed)
