use Rattle.std.proofs.Common.{Bool, cond, Option, None, option_map, ap, sym, ◌∙◌}
use Rattle.std.specs.Prelude.{find}
use Rattle.mf_errno.specs.declared.module.Module.{Module}
use Rattle.mf_errno.specs.Same.{is_same}
use Rattle.mf_list.specs.Asked.{answer_of}
use Rattle.mf_policy.specs.Registration.{Entry}
use Rattle.mf_audit.proofs.Answers.{decided}
use Rattle.mf_audit.proofs.answering.decider_of.Goals as goal

pub returns-then-is_same : goal.returns-then-is_same
returns-then-is_same c =
    let found : Option Module = option_map (λ (entry : Entry). entry.0.module) (find (λ (entry : Entry). is_same c.args.errno (answer_of c.args.item.now entry)) c.args.listed.now) in
    sym (decided c.args.listed.now c.args.item.now c.args.errno c.requires.composed ∙ ap (λ (b : Bool). cond b None found) (sym c.is_same.ensures ∙ c.if-is_same.true))

pub returns-else-is_same : goal.returns-else-is_same
returns-else-is_same c =
    let found : Option Module = option_map (λ (entry : Entry). entry.0.module) (find (λ (entry : Entry). is_same c.args.errno (answer_of c.args.item.now entry)) c.args.listed.now) in
    c.first_with.ensures
    ∙ sym (decided c.args.listed.now c.args.item.now c.args.errno c.requires.composed ∙ ap (λ (b : Bool). cond b None found) (sym c.is_same.ensures ∙ c.if-is_same.false))
