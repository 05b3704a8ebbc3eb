use Rattle.std.proofs.Common.{◌∙◌, ◌≡◌, ap, position, set, sym, subst, List, IfOk}
use Rattle.mf_policy.specs.Registration.{Entry, is_of}
use Rattle.mf_policy.specs.Settings.{change_in}
use Rattle.mf_policy.proofs.Entries.{changed_found, unlisted_change}
use Rattle.mf_policy.proofs.spec_list.SpecList.change.Goals as goal

pub returns-in-Some-clause-ok : goal.returns-in-Some-clause-ok
returns-in-Some-clause-ok c =
    subst (λ (es : List Entry). IfOk c.change.result (λ changed. (changed, set c.self.inside.entries.items c.in-Some.place (c.index_mut.result.now.0, c.change.new.self)) ≡ change_in c.args.module c.args.change.now es)) c.self.view_is
    (changed_found c.args.module c.args.change.now c.self.inside.entries.items c.in-Some.place c.index_mut.result.now c.change.result c.change.new.self
    (ap (λ (es : List Entry). position (is_of c.args.module) es) c.self.view_is ∙ sym c.find.ensures ∙ c.in-Some.is)
    c.index_mut.ensures.value c.change.ensures.ok)

pub returns-in-None-clause-ok : goal.returns-in-None-clause-ok
returns-in-None-clause-ok c =
    unlisted_change c.args.module c.args.change.now c.args.self.now c.no_setting.result (sym c.find.ensures ∙ c.in-None.is) c.no_setting.ensures
