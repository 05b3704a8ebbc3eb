use Rattle.std.proofs.Common.{◌≡◌, true, false, sym, ◌∙◌}
use Rattle.mf_chains.proofs.Traced.{broken_here, handed_on_here}
use Rattle.mf_chains.proofs.tracing.traced.Goals as goal

pub returns-in-Some-clause-leads : goal.returns-in-Some-clause-leads
returns-in-Some-clause-leads c = λ older apart.
    handed_on_here c.args.last.now older c.args.party c.args.steps c.args.element.now c.args.chain.now c.requires apart c.in-Some.giver c.in-Some.ensures.0 c.in-Some.ensures.1

pub returns-in-None-3-clause-leads : goal.returns-in-None-3-clause-leads
returns-in-None-3-clause-leads c = λ older apart. (
  λ none. absurd none,
  broken_here c.args.last.now older c.args.party c.args.steps c.args.element.now c.args.chain.now c.requires apart c.in-None-3.ensures
      (sym c.loses.ensures ∙ c.if-not-loses.false)
      (λ own origin. let no : c.begins.result ≡ true = c.begins.ensures.1 (own, origin) in let is : c.begins.result ≡ false = c.if-begins.false in cc),
)
