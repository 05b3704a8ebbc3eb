use Rattle.std.proofs.Common.{List, ℕ, ◌∷◌, take, string_bytes}
use Rattle.std.specs.Fmt.{decimal}
use Rattle.std.specs.List.{flat_map}
use Rattle.std.specs.Str.{byte}
use Rattle.mf_text.proofs.Appending.{extends_behind, on_err}
use Rattle.mf_spelling.proofs.words.push_more_groups.Goals as goal

pub returns-in_err-push_next_group-clause-err : goal.returns-in_err-push_next_group-clause-err
returns-in_err-push_next_group-clause-err c =
    let front : List ℕ = string_bytes c.args.out.now in
    let so_far : List ℕ = flat_map (λ next. byte "," ∷ decimal next) (take c.loop-group.group-index c.args.groups.now) in
    on_err c.from_residual.result
    (extends_behind front so_far (string_bytes c.loop-group.out) (string_bytes c.push_next_group.new.out) c.loop-group.invariant c.in_err-push_next_group.ensures.err)
