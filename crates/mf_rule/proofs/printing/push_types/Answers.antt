use Rattle.std.proofs.Common.{◌++◌, ap, ◌∙◌, append_assoc, string_bytes, codes}
use Rattle.mf_text.proofs.Appending.{fails_behind}
use Rattle.mf_rule.specs.Canonical.{mark_text}
use Rattle.mf_rule.proofs.printing.push_types.Goals as goal

pub returns-clause-err : goal.returns-clause-err
returns-clause-err c =
    let front = string_bytes c.args.out.now in
    let mark = mark_text c.in-Some.test.not in
    let name = codes " type " in
    let last = c.push_letters in
    fails_behind front (mark ++ name) (string_bytes c.push_str.new.self) (string_bytes last.new.out) last.result
    (c.in_ok-push_str.ensures.bytes ∙ ap (λ text. text ++ name) c.in_ok-push_mark.ensures.ok ∙ append_assoc front mark name)
    last.ensures.err
