use Rattle.std.proofs.Common.{◌≡◌, ◌∷◌, ◌++◌, length, string_bytes}
use Rattle.std.specs.List.{flat_map}
use Rattle.std.specs.Str.{byte}
use Rattle.mf_text.specs.Appending.{Extends}
use Rattle.mf_spelling.proofs.words.push_components.Given as goal

abbrev pub invariant-loop-name : goal.invariant-loop-name
invariant-loop-name l =
    (string_bytes l.out ++ flat_map (λ name. byte "/" ∷ name) l.names ≡ string_bytes l.fn.out ++ flat_map (λ name. byte "/" ∷ name) l.path)
    × Extends (string_bytes l.fn.out) (string_bytes l.out)

abbrev pub decreases-loop-name : goal.decreases-loop-name
decreases-loop-name l = length l.names
