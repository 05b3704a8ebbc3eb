use Rattle.std.proofs.Common.{◌++◌, List, ℕ, ap, ◌∙◌, string_bytes}
use Rattle.std.specs.Prelude.{codes}
use Rattle.std.proofs.lemmas.Result.{on_ok_weaker}
use Rattle.mf_errno.specs.Names.{error_text, module_text}
use Rattle.mf_why.specs.Lines.{mark_text}
use Rattle.mf_why.specs.ReasonText.{reason_text}
use Rattle.mf_why.proofs.Texts.{line_of}
use Rattle.mf_why.proofs.causes.push_why.Goals as goal

pub returns-clause-ok : goal.returns-clause-ok
returns-clause-ok c =
    let head : List ℕ = codes "why" ++ codes " " ++ c.args.place.now ++ codes " " in
    let denying : List ℕ =
    module_text c.args.module ++ codes " " ++ mark_text c.args.mark ++ codes " " ++ error_text c.errno.result ++ codes " " in
    let reason : List ℕ = reason_text c.args.reason.now in
    on_ok_weaker c.push_reason_line.result
    (λ h. h ∙ ap (λ x. x ++ (reason ++ codes "\n")) (c.in_ok-push_denying.ensures.ok ∙ ap (λ x. x ++ denying) c.in_ok-push_head.ensures.ok)
    ∙ line_of (string_bytes c.args.text.now) head denying reason (codes "\n")
    ∙ ap (λ e. string_bytes c.args.text.now ++ (head ++ (module_text c.args.module ++ codes " " ++ mark_text c.args.mark ++ codes " " ++ error_text e ++ codes " " ++ reason) ++ codes "\n"))
    c.errno.ensures)
    c.push_reason_line.ensures.ok
