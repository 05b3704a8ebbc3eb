use Rattle.std.proofs.Common.{◌≡◌, ◌++◌, take, string_bytes}
use Rattle.std.specs.List.{flat_map}
use Rattle.mf_why.specs.Lines.{permit_line}
use Rattle.mf_why.proofs.permits.push_permits.Given as goal

abbrev pub invariant-loop-policy : goal.invariant-loop-policy
invariant-loop-policy l = string_bytes l.text ≡ string_bytes l.fn.text ++ flat_map (permit_line l.place l.number l.item) (take l.policy l.listed)
