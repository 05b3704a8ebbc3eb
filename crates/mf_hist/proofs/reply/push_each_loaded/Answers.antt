use Rattle.std.proofs.Common.{◌++◌, List, ℕ, take, codes, ap, ◌∙◌, append_assoc, string_bytes, arith}
use Rattle.std.specs.List.{flat_map}
use Rattle.mf_text.proofs.Appending.{extends_behind, on_err}
use Rattle.mf_hist.specs.ReplyText.{loaded_text}
use Rattle.mf_hist.proofs.Lists.{all_written}
use Rattle.mf_hist.proofs.reply.push_each_loaded.Goals as goal

pub returns-in_err-push_next_loaded-clause-err : goal.returns-in_err-push_next_loaded-clause-err
returns-in_err-push_next_loaded-clause-err c =
    let front : List ℕ = string_bytes c.args.out.now in
    let first : List ℕ = loaded_text c.in-Some.first.now in
    let others : List ℕ = flat_map (λ next. codes "," ++ loaded_text next) (take c.loop-loaded.loaded-index c.in-Some.rest.now) in
    on_err c.from_residual-in_err-push_next_loaded.result
    (extends_behind front (first ++ others) (string_bytes c.loop-loaded.out) (string_bytes c.push_next_loaded.new.out)
    (c.loop-loaded.invariant ∙ ap (λ text. text ++ others) c.in_ok-push_loaded.ensures.ok ∙ append_assoc front first others) c.in_err-push_next_loaded.ensures.err)

pub returns-clause-ok : goal.returns-clause-ok
returns-clause-ok c =
    all_written loaded_text c.args.modules.now c.in-Some.first.now c.in-Some.rest.now c.loop-loaded.loaded-index (string_bytes c.args.out.now) _ (string_bytes c.loop-loaded.out)
    c.in-Some.ensures.cases.0 (omega arith) c.in_ok-push_loaded.ensures.ok c.loop-loaded.invariant
