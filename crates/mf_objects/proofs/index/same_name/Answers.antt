use Rattle.std.proofs.Common.{◌≡◌, length, sym, ◌∙◌, arith}
use Rattle.std.proofs.lemmas.List.{ext_get_or}
use Rattle.std.proofs.lemmas.Slice.Eq.{bytes_eq-Decides}
use Rattle.mf_objects.proofs.index.same_name.Goals as goal

pub returns : goal.returns
returns c =
    let a = c.as_bytes-bytes.result.now in
    let b = c.as_bytes-others.result.now in
    let long : length a ≡ length b = c.if-bytes-others.false in
    let same : a ≡ b = ext_get_or 0 a b long (λ k l. c.loop-place.invariant k (omega (arith, l, c.loop-place-test.false))) in
    sym ((bytes_eq-Decides c.args.name.now c.args.other.now).1 (sym c.as_bytes-bytes.ensures.value ∙ same ∙ c.as_bytes-others.ensures.value))
