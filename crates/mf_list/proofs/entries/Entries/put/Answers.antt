use Rattle.std.proofs.Common.{◌≡◌, ◌∷◌, List, sym, subst, false, arith}
use Rattle.mf_policy.specs.Registration.{Entry, is_listed}
use Rattle.mf_list.specs.Once.{IsListedOnce}
use Rattle.mf_list.proofs.Counts.{listed_few, listed_once-cons}
use Rattle.mf_list.proofs.entries.Entries.put.Goals as goal

pub unreachable-requires : goal.unreachable-requires
unreachable-requires g c =
    let absent : is_listed c.args.listed.0.module c.self.inside.policies.items ≡ false =
    subst (λ (es : List Entry). is_listed c.args.listed.0.module es ≡ false) (sym c.self.view_is) c.requires in
    let room = listed_few (c.args.listed ∷ c.self.inside.policies.items) (listed_once-cons c.args.listed c.self.inside.policies.items c.self.invariant.0 absent) in
    omega (arith, room, c.self.invariant.1, c.self.inside.policies.ok.0, c.in-Err.ensures.full)

pub invariant_of-self : goal.invariant_of-self
invariant_of-self g c =
    let absent : is_listed c.args.listed.0.module c.self.inside.policies.items ≡ false =
    subst (λ (es : List Entry). is_listed c.args.listed.0.module es ≡ false) (sym c.self.view_is) c.requires in (
      subst (λ (es : List Entry). IsListedOnce es) (sym c.in-Ok.ensures.items) (listed_once-cons c.args.listed c.self.inside.policies.items c.self.invariant.0 absent),
      omega (arith, c.self.invariant.1, c.in-Ok.ensures.capacity),
    )
