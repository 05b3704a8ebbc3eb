use Rattle.std.proofs.Common.{◌≡◌, ◌++◌, take, string_bytes}
use Rattle.std.specs.List.{flat_map}
use Rattle.mf_why.specs.Deniers.{denier}
use Rattle.mf_why.specs.Lines.{denier_text}
use Rattle.mf_why.proofs.causes.push_deniers.Given as goal

abbrev pub invariant-loop-number : goal.invariant-loop-number
invariant-loop-number l = string_bytes l.text ≡ string_bytes l.fn.text ++ flat_map (denier_text l.place) (flat_map (denier l.by l.item) (take l.number l.listed))
