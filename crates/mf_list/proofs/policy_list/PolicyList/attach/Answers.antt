use Rattle.std.proofs.Common.{List, ◌++◌, ◌∷◌, ap, sym, ◌∙◌}
use Rattle.mf_policy.specs.Modules.{fresh_of}
use Rattle.mf_policy.specs.Registration.{Entry}
use Rattle.mf_policy.specs.declared.spec.Spec.{Spec}
use Rattle.mf_list.proofs.Held.{once_after_attaching}
use Rattle.mf_list.proofs.Walk.{newest_dynamic}
use Rattle.mf_list.proofs.policy_list.PolicyList.attach.Goals as goal

pub returns-clause-moves : goal.returns-clause-moves
returns-clause-moves g c =
    let r = c.args.registration in
    let fixed = c.args.fixed.now in
    let list = c.args.self.now in
    record {
      was_in_catalogue = c.requires.there;
      entries = ap (λ (es : List Entry). fixed ++ es) c.put.ensures
          ∙ ap (λ (e : Entry). fixed ++ e ∷ list) (c.new.ensures ∙ ap (λ (spec : Spec). (r, spec)) c.in-Some.ensures.value)
          ∙ sym (newest_dynamic (r, fresh_of r.module) fixed list c.are_pinned.ensures c.may_leave.ensures c.requires.may_leave.0);
      modules = c.in-Some.ensures.modules;
    }

pub returns-clause-once : goal.returns-clause-once
returns-clause-once g c =
    once_after_attaching c.args.registration (c.args.fixed.now ++ c.args.self.now) (c.args.fixed.now ++ c.put.new.self) c.args.catalogue.now c.take.new.self
    (returns-clause-moves g c) c.requires.once
