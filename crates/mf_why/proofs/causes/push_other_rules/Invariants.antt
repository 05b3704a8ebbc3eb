use Rattle.std.proofs.Common.{◌≡◌, ◌++◌, string_bytes}
use Rattle.std.specs.List.{flat_map, range_with_len}
use Rattle.mf_why.specs.Deniers.{other_reason}
use Rattle.mf_why.specs.Lines.{other_text}
use Rattle.mf_why.proofs.causes.push_other_rules.Given as goal

abbrev pub invariant-loop-number : goal.invariant-loop-number
invariant-loop-number l =
    string_bytes l.text ≡ string_bytes l.fn.text ++ flat_map (other_text l.place l.module) (flat_map (other_reason l.rules l.item l.told) (range_with_len 0 l.number))
