use Rattle.std.proofs.Common.{◌++◌, List, ℕ, ap, ◌∙◌, string_bytes}
use Rattle.std.specs.Prelude.{codes}
use Rattle.std.specs.Fmt.{decimal}
use Rattle.std.specs.Option.{option_map_or}
use Rattle.std.proofs.lemmas.Result.{on_ok_weaker}
use Rattle.mf_errno.specs.Privilege.{privilege_text}
use Rattle.mf_why.proofs.Texts.{behind_both}
use Rattle.mf_why.proofs.causes.push_lack.Goals as goal

pub returns-clause-ok : goal.returns-clause-ok
returns-clause-ok c =
    let lacks : List ℕ = codes "- decides EPERM " ++ (codes "privilege " ++ option_map_or privilege_text c.args.privilege (codes "-")) in
    on_ok_weaker c.push_uid.result
    (λ h. h ∙ ap (λ x. x ++ (codes " uid " ++ decimal c.args.uid)) c.in_ok-push_lacking.ensures.ok
    ∙ behind_both (string_bytes c.args.text.now) lacks (codes " uid ") (decimal c.args.uid))
    c.push_uid.ensures.ok
