use Rattle.std.proofs.Common.{ℕ, ◌+◌, ◌-◌, ◌/◌, sym, ◌∙◌, get_or, arith}
use Rattle.std.proofs.lemmas.List.{get_or_default}
use Rattle.mf_elem.specs.declared.elem.Elem.TheVariants.{Low}
use Rattle.mf_flow.specs.declared.known.Numbered.{Numbered}
use Rattle.mf_flow.proofs.Numbering.{before_middle, behind_middle, not_less_either}
use Rattle.mf_flow.proofs.known.place_of.Goals as goal

pub loop-low-preserved-in-Less : goal.loop-low-preserved-in-Less
loop-low-preserved-in-Less c =
    let items = c.args.items.now in
    let middle : ℕ = c.loop-low.low + (c.loop-low.high - c.loop-low.low) / 2 in
    let x : Numbered = get_or items middle (record { element = Low; number = 0 }) in
    record {
      ordered = omega arith;
      within = c.loop-low.invariant.within;
      less = λ k d l. before_middle c.args.element.now items middle x c.requires (omega arith) (get_or_default items middle (record { element = Low; number = 0 }) x (omega arith))
          (sym c.compare.ensures ∙ c.in-Less.is) k d (omega (arith, l));
      not_less = c.loop-low.invariant.not_less;
    }

pub loop-low-preserved : goal.loop-low-preserved
loop-low-preserved c =
    let items = c.args.items.now in
    let middle : ℕ = c.loop-low.low + (c.loop-low.high - c.loop-low.low) / 2 in
    let x : Numbered = get_or items middle (record { element = Low; number = 0 }) in
    record {
      ordered = omega arith;
      within = omega arith;
      less = c.loop-low.invariant.less;
      not_less = λ k d least most. behind_middle c.args.element.now items middle x c.requires (omega arith) (get_or_default items middle (record { element = Low; number = 0 }) x (omega arith))
          (not_less_either _ _ c.compare.ensures c.in-Equal.is) k d least most;
    }
