use Rattle.std.proofs.Common.{List, ◌++◌, ap, sym, ◌∙◌}
use Rattle.mf_policy.specs.Registration.{Entry}
use Rattle.mf_list.proofs.Counts.{held_elsewhere}
use Rattle.mf_list.proofs.Held.{once_after_detaching}
use Rattle.mf_list.proofs.Walk.{listed_in_walk, not_in_both, without_walked}
use Rattle.mf_list.proofs.policy_list.PolicyList.detach.Goals as goal

pub leave-requires-clause-absent : goal.leave-requires-clause-absent
leave-requires-clause-absent g c κs within =
    held_elsewhere c.args.module (c.args.fixed.now ++ c.args.self.now) c.args.catalogue.now c.requires.once
    (listed_in_walk c.args.module c.args.fixed.now c.args.self.now c.requires.listed)

pub returns-clause-moves : goal.returns-clause-moves
returns-clause-moves g c =
    let fixed = c.args.fixed.now in
    let list = c.args.self.now in
    record {
      was_listed = listed_in_walk c.args.module fixed list c.requires.listed;
      entries = ap (λ (es : List Entry). fixed ++ es) c.leave.ensures.entries
          ∙ sym (without_walked c.args.module fixed list (not_in_both c.args.module fixed list c.are_pinned.ensures c.may_leave.ensures c.requires.listed));
      modules = c.leave.ensures.modules;
    }

pub returns-clause-once : goal.returns-clause-once
returns-clause-once g c =
    once_after_detaching c.args.module (c.args.fixed.now ++ c.args.self.now) (c.args.fixed.now ++ c.leave.new.self) c.args.catalogue.now c.leave.new.catalogue
    (returns-clause-moves g c) c.requires.once
