use Rattle.std.proofs.Common.{◌++◌, List, ℕ, take, codes, ap, ◌∙◌, append_assoc, string_bytes, arith}
use Rattle.std.specs.List.{flat_map}
use Rattle.mf_text.proofs.Appending.{extends_behind, on_err}
use Rattle.mf_hist.proofs.Lists.{all_names_written}
use Rattle.mf_hist.proofs.reply.push_names.Goals as goal

pub returns-in_err-push_next_name-clause-err : goal.returns-in_err-push_next_name-clause-err
returns-in_err-push_next_name-clause-err c =
    let front : List ℕ = string_bytes c.args.out.now in
    let first : List ℕ = c.in-Some.first.now in
    let others : List ℕ = flat_map (λ next. codes "," ++ next) (take c.loop-name.name-index c.in-Some.rest.now) in
    on_err c.from_residual-in_err-push_next_name.result
    (extends_behind front (first ++ others) (string_bytes c.loop-name.out) (string_bytes c.push_next_name.new.out)
    (c.loop-name.invariant ∙ ap (λ text. text ++ others) c.in_ok-push_name.ensures.ok ∙ append_assoc front first others) c.in_err-push_next_name.ensures.err)

pub returns-clause-ok : goal.returns-clause-ok
returns-clause-ok c =
    all_names_written c.args.names.now c.in-Some.first.now c.in-Some.rest.now c.loop-name.name-index (string_bytes c.args.out.now) _ (string_bytes c.loop-name.out)
    c.in-Some.ensures.cases.0 (omega arith) c.in_ok-push_name.ensures.ok c.loop-name.invariant
