use Rattle.std.proofs.Common.{List, ◌++◌, ◌∷◌, ap, sym, ◌∙◌}
use Rattle.mf_policy.specs.Modules.{fresh_of}
use Rattle.mf_policy.specs.Registration.{Entry}
use Rattle.mf_policy.specs.declared.spec.Spec.{Spec}
use Rattle.mf_list.proofs.Held.{once_after_attaching}
use Rattle.mf_list.proofs.Walk.{newest_fixed}
use Rattle.mf_list.proofs.fixed.Fixed.attach.Goals as goal

pub returns-clause-moves : goal.returns-clause-moves
returns-clause-moves g c =
    let r = c.args.registration in
    let walk = c.args.self.now ++ c.args.list.now in
    record {
      was_in_catalogue = c.requires.there;
      entries = ap (λ (es : List Entry). es ++ c.args.list.now) c.put.ensures
          ∙ ap (λ (e : Entry). e ∷ walk) (c.new.ensures ∙ ap (λ (spec : Spec). (r, spec)) c.in-Some.ensures.value)
          ∙ sym (newest_fixed (r, fresh_of r.module) walk c.requires.pinned.0);
      modules = c.in-Some.ensures.modules;
    }

pub returns-clause-once : goal.returns-clause-once
returns-clause-once g c =
    once_after_attaching c.args.registration (c.args.self.now ++ c.args.list.now) (c.put.new.self ++ c.args.list.now) c.args.catalogue.now c.take.new.self
    (returns-clause-moves g c) c.requires.once
