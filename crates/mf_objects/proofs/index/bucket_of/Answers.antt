use Rattle.std.proofs.Common.{ℕ, ◌%◌, ap, ◌∙◌}
use Rattle.std.specs.Prelude.{fold}
use Rattle.std.proofs.lemmas.List.{take_all}
use Rattle.mf_objects.specs.Index.{mixed, seed_of, bucket_of}
use Rattle.mf_objects.proofs.index.bucket_of.Goals as goal

pub returns-clause-value : goal.returns-clause-value
unfolding bucket_of
returns-clause-value c =
    let bytes = take_all c.loop-byte.byte-index c.as_bytes-byte-items.result.now c.loop-byte-test.false ∙ c.as_bytes-byte-items.ensures.value in
    ap (λ (hash : ℕ). hash % 1024) (c.loop-byte.invariant.0 ∙ ap (fold mixed (seed_of c.args.group)) bytes)
