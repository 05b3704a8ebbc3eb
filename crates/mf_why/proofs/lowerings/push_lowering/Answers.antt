use Rattle.std.proofs.Common.{◌++◌, List, ℕ, ap, ◌∙◌, string_bytes}
use Rattle.std.specs.Prelude.{codes}
use Rattle.std.specs.Fmt.{decimal}
use Rattle.std.proofs.lemmas.Result.{on_ok_weaker}
use Rattle.mf_item.specs.Item.{Item}
use Rattle.mf_labeltext.specs.Canonical.{elem_text}
use Rattle.mf_objects.specs.Live.{Entities}
use Rattle.mf_why.specs.Lines.{object_title, subject_title}
use Rattle.mf_why.proofs.Texts.{line_with_two}
use Rattle.mf_why.proofs.lowerings.push_lowering.Goals as goal

pub returns-clause-ok : goal.returns-clause-ok
returns-clause-ok c =
    let objects : Entities = c.args.objects.now in
    let item : Item = c.args.item.now in
    let head : List ℕ = codes "lowered" ++ codes " " ++ c.args.place.now ++ codes " " in
    let subject : List ℕ = decimal c.args.number ++ codes " " ++ subject_title objects item ++ codes " " in
    let before : List ℕ = elem_text c.args.lowering.now.before in
    let left : List ℕ = elem_text c.args.lowering.now.left in
    on_ok_weaker c.push_last.result
    (λ h. h
    ∙ ap (λ x. x ++ (object_title objects item ++ codes "\n"))
    (c.in_ok-push_elements.ensures.ok
    ∙ ap (λ x. x ++ (before ++ codes " " ++ left ++ codes " ")) (c.in_ok-push_lowered_subject.ensures.ok ∙ ap (λ x. x ++ subject) c.in_ok-push_head.ensures.ok))
    ∙ line_with_two (string_bytes c.args.text.now) head subject before left (codes " ") (object_title objects item) (codes "\n"))
    c.push_last.ensures.ok
