use Rattle.std.proofs.Common.{◌≡◌, Option, IfSome, find, is_some, ap, sym, subst, ◌∙◌}
use Rattle.std.specs.Option.{option_copied}
use Rattle.mf_policy.specs.Registration.{Entry, is_of}
use Rattle.mf_list.proofs.Finds.{found_first, found_is, found_second, is_some-copied, is_some-find, if_some-copied}
use Rattle.mf_list.proofs.listed.Listed.find.Goals as goal

pub returns-in-Some-clause-value : goal.returns-in-Some-clause-value
returns-in-Some-clause-value g c =
    found_first c.args.wanted c.self.inside.fixed.now c.self.inside.dynamic.now c.in-Some.policy.now c.in-Some.ensures
    ∙ ap (find (is_of c.args.wanted)) c.self.view_is

pub returns-in-Some-clause-variant : goal.returns-in-Some-clause-variant
returns-in-Some-clause-variant g c =
    ap (is_some {T = Entry}) (returns-in-Some-clause-value g c) ∙ is_some-find (is_of c.args.wanted) c.args.self.now

pub returns-in-Some-clause-of : goal.returns-in-Some-clause-of
returns-in-Some-clause-of g c =
    subst (λ (o : Option Entry). IfSome o (λ entry. entry.0.module ≡ c.args.wanted)) (sym (returns-in-Some-clause-value g c)) (found_is c.args.wanted c.args.self.now)

pub returns-in-None-clause-value : goal.returns-in-None-clause-value
returns-in-None-clause-value g c =
    found_second c.args.wanted c.self.inside.fixed.now c.self.inside.dynamic.now (option_copied c.find-in-None.result) c.in-None.ensures c.find-in-None.ensures
    ∙ ap (find (is_of c.args.wanted)) c.self.view_is

pub returns-in-None-clause-variant : goal.returns-in-None-clause-variant
returns-in-None-clause-variant g c =
    sym (is_some-copied c.find-in-None.result)
    ∙ ap (is_some {T = Entry}) (returns-in-None-clause-value g c)
    ∙ is_some-find (is_of c.args.wanted) c.args.self.now

pub returns-in-None-clause-of : goal.returns-in-None-clause-of
returns-in-None-clause-of g c =
    if_some-copied (λ (entry : Entry). entry.0.module ≡ c.args.wanted) c.find-in-None.result
    (subst (λ (o : Option Entry). IfSome o (λ entry. entry.0.module ≡ c.args.wanted)) (sym (returns-in-None-clause-value g c)) (found_is c.args.wanted c.args.self.now))
