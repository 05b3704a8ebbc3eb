use Rattle.std.proofs.Common.{◌≡◌, ◌≤◌, take, length, arith, sym, ◌∙◌}
use Rattle.std.proofs.lemmas.List.{length-take-le, take_all}
use Rattle.mf_audit.proofs.payloads.is_beginning.Goals as goal

pub slice_bounds-same_bytes-end : goal.slice_bounds-same_bytes-end
slice_bounds-same_bytes-end c =
    let long : 64 ≤ length c.args.bytes.now = omega arith in
    sym (length-take-le 64 c.args.bytes.now long)

pub returns-then-bytes-le-HEAD_BYTES : goal.returns-then-bytes-le-HEAD_BYTES
returns-then-bytes-le-HEAD_BYTES c =
    let short : length c.args.bytes.now ≤ 64 = omega arith in
    let all : take 64 c.args.bytes.now ≡ c.args.bytes.now = take_all 64 c.args.bytes.now short in
    (λ is. c.same_bytes.ensures.0 is ∙ sym all, λ is. c.same_bytes.ensures.1 (is ∙ all))
