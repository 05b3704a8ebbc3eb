use Rattle.std.proofs.Common.{ℕ, arith, subst, sym, refl}
use Rattle.mf_chains.proofs.Traced.{IsTraced, traced_all, traced_apart, traced_none, traced_only, traced_then}
use Rattle.mf_chains.specs.declared.tracing.Trace.{Trace}
use Rattle.mf_chains.specs.declared.tracing.Trace.TheVariants.{Begins, Breaks, Leads as GoesOn}
use Rattle.mf_chains.proofs.tracing.leads.Goals as goal

pub loop-place-init : goal.loop-place-init
loop-place-init c =
    subst (λ (left : ℕ). IsTraced c.args.past.now c.args.party c.args.element.now c.args.chain.now 0 c.args.party left) (sym c.len-left.ensures)
    (traced_none c.args.past.now c.args.party c.args.element.now c.args.chain.now c.requires)

pub returns-in-Begins : goal.returns-in-Begins
returns-in-Begins c = (
  λ yes. traced_only c.args.past.now c.args.party c.args.element.now c.args.chain.now c.loop-place.place c.loop-place.end c.loop-place.left _ _ Begins
      c.loop-place-test.true refl c.loop-place.invariant c.in-Begins.ensures.leads (tt {0}),
  λ leads. refl,
)

pub returns-in-Breaks : goal.returns-in-Breaks
returns-in-Breaks c = (
  λ yes. cc,
  λ leads. absurd (traced_then c.args.past.now c.args.party c.args.element.now c.args.chain.now c.loop-place.place c.loop-place.end c.loop-place.left _ _ Breaks
      c.loop-place-test.true refl c.loop-place.invariant c.in-Breaks.ensures.leads leads),
)

pub loop-place-preserved : goal.loop-place-preserved
loop-place-preserved c =
    let past = c.args.past.now in
    let p = c.args.party in
    let e = c.args.element.now in
    let chain = c.args.chain.now in
    let n = c.loop-place.place in
    let end = c.loop-place.end in
    let left = c.loop-place.left in
    let trace : Trace = GoesOn c.in-Leads.party c.in-Leads.steps in
    record {
      within = c.in-Leads.ensures.steps;
      apart = traced_apart past p e chain n end left _ _ trace c.loop-place-test.true refl c.loop-place.invariant c.in-Leads.ensures.leads;
      then = traced_then past p e chain n end left _ _ trace c.loop-place-test.true refl c.loop-place.invariant c.in-Leads.ensures.leads;
      only = traced_only past p e chain n end left _ _ trace c.loop-place-test.true refl c.loop-place.invariant c.in-Leads.ensures.leads;
    }

pub returns : goal.returns
returns c = (
  λ yes. cc,
  λ leads. absurd (traced_all c.args.past.now c.args.party c.args.element.now c.args.chain.now c.loop-place.place c.loop-place.end c.loop-place.left
      (omega (arith, c.loop-place-test.false)) c.loop-place.invariant leads),
)
