use Rattle.std.proofs.Common.{◌≡◌, List, sym, subst, set, IfOk}
use Rattle.mf_policy.specs.Registration.{Entry}
use Rattle.mf_list.specs.Once.{IsListedOnce}
use Rattle.mf_list.specs.Places.{IsEntryPlace}
use Rattle.mf_list.specs.Registration.{change_in}
use Rattle.mf_list.proofs.Counts.{listed_once-spec}
use Rattle.mf_list.proofs.Changes.{changed_in, stays_at}
use Rattle.mf_list.proofs.entries.Entries.change.Goals as goal

pub invariant_of-self : goal.invariant_of-self
invariant_of-self g c =
    let at : IsEntryPlace c.args.module c.args.self.now c.in-Some.place = c.in-Some.ensures in
    let here : IsEntryPlace c.args.module c.self.inside.policies.items c.in-Some.place =
    subst (λ (es : List Entry). IsEntryPlace c.args.module es c.in-Some.place) (sym c.self.view_is) at in
    let there = stays_at c.args.module c.self.inside.policies.items c.in-Some.place c.index_mut.result.now c.change.new.self here c.index_mut.ensures.value c.change.ensures.registration in (
      subst (λ (es : List Entry). IsListedOnce es) (sym (here.written c.change.new.self there))
          (listed_once-spec c.args.module c.change.new.self.1 c.self.inside.policies.items c.self.invariant.0),
      c.self.invariant.1,
    )

pub returns-in-Some-clause-ok : goal.returns-in-Some-clause-ok
returns-in-Some-clause-ok g c =
    let at : IsEntryPlace c.args.module c.args.self.now c.in-Some.place = c.in-Some.ensures in
    let here : IsEntryPlace c.args.module c.self.inside.policies.items c.in-Some.place =
    subst (λ (es : List Entry). IsEntryPlace c.args.module es c.in-Some.place) (sym c.self.view_is) at in
    subst (λ (es : List Entry). IfOk c.change.result (λ changed. (changed, set c.self.inside.policies.items c.in-Some.place c.change.new.self) ≡ change_in c.args.module c.args.change.now es)) c.self.view_is
    (changed_in c.args.module c.args.change.now c.self.inside.policies.items c.in-Some.place c.change.result c.index_mut.result.now c.change.new.self here c.index_mut.ensures.value c.change.ensures.registration c.change.ensures.ok)
