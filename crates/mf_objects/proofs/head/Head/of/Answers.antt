use Rattle.std.proofs.Common.{ℕ, List, length, take, ap, ◌∙◌, ◌≡◌}
use Rattle.std.proofs.lemmas.List.{take_all, take_min}
use Rattle.mf_objects.specs.declared.head.Head.{Head}
use Rattle.mf_objects.specs.Head.{head_of}
use Rattle.mf_objects.proofs.head.Head.of.Goals as goal

pub returns : goal.returns
unfolding head_of
returns c =
    let bytes = c.args.bytes.now in
    let shown = take c.min-shown.result bytes in
    let all : c.loop-byte.first ≡ take 64 bytes =
    c.loop-byte.invariant.0 ∙ take_all c.loop-byte.byte-index shown c.loop-byte-test.false
    ∙ ap (λ (n : ℕ). take n bytes) c.min-shown.ensures ∙ take_min 64 bytes in
    ap (λ (first : List ℕ). let h : Head = record { len = length bytes; first = first } in h) all
