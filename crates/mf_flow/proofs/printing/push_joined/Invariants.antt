use Rattle.std.proofs.Common.{◌≡◌, ◌++◌, map, take, string_bytes}
use Rattle.std.specs.List.{join_with_byte}
use Rattle.mf_labeltext.specs.Canonical.{elem_text}
use Rattle.mf_flow.proofs.printing.push_joined.Given as goal

abbrev pub invariant-loop-place : goal.invariant-loop-place
invariant-loop-place l = string_bytes l.out ≡ string_bytes l.fn.out ++ join_with_byte 44 (map elem_text (take l.place l.elements))
