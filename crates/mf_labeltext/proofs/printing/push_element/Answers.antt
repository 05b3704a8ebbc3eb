use Rattle.std.proofs.Common.{◌++◌, ◌∷◌, [], ap, ◌∙◌, append_assoc, string_bytes, lit<}
use Rattle.mf_errno.specs.Names.{policy_text}
use Rattle.mf_text.proofs.Appending.{fails_behind}
use Rattle.mf_labeltext.proofs.printing.push_element.Goals as goal

pub returns-clause-err : goal.returns-clause-err
returns-clause-err c =
    let front = string_bytes c.args.out.now in
    let name = policy_text c.args.part.now.0 in
    let last = c.push_value in
    fails_behind front (name ++ 47 ∷ []) (string_bytes c.push.new.self) (string_bytes last.new.out) last.result
    (c.in_ok-push.ensures.bytes
    ∙ ap (λ text. string_bytes c.push_str.new.self ++ text) (c.push.ensures.ascii (lit< tt))
    ∙ ap (λ text. text ++ 47 ∷ []) (c.in_ok-push_str.ensures.bytes ∙ ap (λ name. front ++ name) c.policy_name.ensures)
    ∙ append_assoc front name (47 ∷ []))
    last.ensures.err
