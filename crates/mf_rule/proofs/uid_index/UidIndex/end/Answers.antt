use Rattle.std.proofs.Common.{leb, leb-true, arith, rules}
use Rattle.std.proofs.lemmas.Bool.{leb-false}
use Rattle.std.proofs.lemmas.List.Sorted.{IsPartitionPoint-from_clause, IsPartitionedBy-leb}
use Rattle.mf_rule.specs.UidIndex.{AreByUid}
use Rattle.mf_rule.proofs.uid_index.UidIndex.end.Goals as goal

pub returns : goal.returns
returns c =
    let rising : AreByUid c.deref.result.now = rw (c.deref.ensures.value) c.self.invariant in
    let parted = IsPartitionedBy-leb (λ s. s.from) _ c.args.uid rising in
    let point = IsPartitionPoint-from_clause (λ s. leb s.from c.args.uid) _ _ c.partition_point.ensures.partitioned parted (λ a r q k. search rules) in
    rw (← c.self.view_is, ← c.deref.ensures.value)
    (record {
      within = c.partition_point.ensures.bound;
      below = λ k d h. leb-true _ _ (point.0 k d (omega arith) h);
      above = λ k d from h. leb-false _ _ (point.1 k d from h);
    })
