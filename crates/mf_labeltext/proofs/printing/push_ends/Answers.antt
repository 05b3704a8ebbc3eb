use Rattle.std.proofs.Common.{◌++◌, ◌∷◌, [], ap, ◌∙◌, append_assoc, string_bytes, lit<}
use Rattle.mf_text.proofs.Appending.{fails_behind}
use Rattle.mf_labeltext.specs.Canonical.{elem_text}
use Rattle.mf_labeltext.proofs.printing.push_ends.Goals as goal

pub returns-clause-err : goal.returns-clause-err
returns-clause-err c =
    let front = string_bytes c.args.out.now in
    let low = elem_text c.args.low.now in
    let last = c.push_elem-2 in
    fails_behind front (low ++ 45 ∷ []) (string_bytes c.push.new.self) (string_bytes last.new.out) last.result
    (c.in_ok-push.ensures.bytes ∙ ap (λ text. string_bytes c.push_elem.new.out ++ text) (c.push.ensures.ascii (lit< tt)) ∙ ap (λ text. text ++ 45 ∷ []) c.in_ok-push_elem.ensures.ok ∙ append_assoc front low (45 ∷ []))
    last.ensures.err
