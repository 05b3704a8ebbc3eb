use Rattle.std.proofs.Common.{◌+◌, List, arith, refl}
use Rattle.mf_objects.specs.declared.id.Id.{Id}
use Rattle.mf_chains.specs.Kept.{Kept}
use Rattle.mf_chains.specs.Marks.{kept_at}
use Rattle.mf_chains.proofs.Receiving.{counted_more, first_few, kept_more}
use Rattle.mf_chains.proofs.keeping.keep_all.Goals as goal

pub keep-requires : goal.keep-requires
keep-requires c = c.loop-occurrence.invariant.0

pub returns-then-len-most-clause-fault : goal.returns-then-len-most-clause-fault
returns-then-len-most-clause-fault c = λ _.
    let all = c.loop-occurrence.invariant in
    let n = c.loop-occurrence.occurrence-index in
    let count = counted_more c.args.past.now n _ _ (kept_at c.loop-occurrence.links c.loop-occurrence.sets) _ _ (omega arith) refl all.1 all.2 c.in_ok-keep.ensures.count in
    omega (arith, count, first_few c.args.past.now (n + 1), c.len.ensures, c.if-len-most.true)

pub loop-occurrence-preserved : goal.loop-occurrence-preserved
loop-occurrence-preserved c =
    let all = c.loop-occurrence.invariant in
    let n = c.loop-occurrence.occurrence-index in
    let f : Id → List Kept = kept_at c.loop-occurrence.links c.loop-occurrence.sets in (
      c.in_ok-keep.ensures.there,
      kept_more c.args.past.now n _ _ f (kept_at c.keep.new.links c.keep.new.sets) (omega arith) refl all.1 c.in_ok-keep.ensures.kept,
      counted_more c.args.past.now n _ _ f _ _ (omega arith) refl all.1 all.2 c.in_ok-keep.ensures.count,
      omega (arith, c.len.ensures, c.if-len-most.false),
    )
