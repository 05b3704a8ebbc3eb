use Rattle.std.proofs.Common.{◌++◌, List, ℕ, ap, ◌∙◌, string_bytes}
use Rattle.std.specs.Prelude.{codes}
use Rattle.std.specs.Fmt.{decimal}
use Rattle.std.proofs.lemmas.Result.{on_ok_weaker}
use Rattle.mf_item.specs.Item.{Item}
use Rattle.mf_item.specs.Operation.{operation_text}
use Rattle.mf_item.specs.declared.operation.CheckOp.{CheckOp}
use Rattle.mf_objects.specs.Live.{Entities}
use Rattle.mf_why.specs.Lines.{object_title, subject_title}
use Rattle.mf_why.proofs.Texts.{line_with}
use Rattle.mf_why.proofs.causes.push_denied.Goals as goal

pub returns-clause-ok : goal.returns-clause-ok
returns-clause-ok c =
    let objects : Entities = c.args.state.now.objects in
    let item : Item = c.args.item.now in
    let head : List ℕ = codes "denied" ++ codes " " ++ c.args.place.now ++ codes " " in
    let check : CheckOp → List ℕ = λ k. decimal c.args.number ++ codes " " ++ operation_text k ++ codes " " in
    on_ok_weaker c.push_last.result
    (λ h. h
    ∙ ap (λ x. x ++ (object_title objects item ++ codes "\n"))
    (c.in_ok-push_subject.ensures.ok
    ∙ ap (λ x. x ++ (subject_title objects item ++ codes " ")) (c.in_ok-push_check.ensures.ok ∙ ap (λ x. x ++ check c.op.result) c.in_ok-push_head.ensures.ok))
    ∙ line_with (string_bytes c.args.text.now) head (check c.op.result) (subject_title objects item) (codes " ") (object_title objects item) (codes "\n")
    ∙ ap (λ (k : CheckOp). string_bytes c.args.text.now ++ (head ++ (check k ++ subject_title objects item ++ codes " " ++ object_title objects item) ++ codes "\n")) c.op.ensures)
    c.push_last.ensures.ok
