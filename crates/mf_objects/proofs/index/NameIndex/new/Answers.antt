use Rattle.std.proofs.Common.{◌≡◌, ℕ, List, [], replicate, ap, ◌∙◌, arith}
use Rattle.mf_objects.specs.declared.id.Id.{Id}
use Rattle.mf_objects.proofs.index.NameIndex.new.Goals as goal

pub returns : goal.returns
returns c =
    let all : c.loop.counter ≡ 1024 = omega (arith, c.loop-test.false) in
    c.loop.invariant ∙ ap (λ (n : ℕ). replicate {A = List Id} n []) all
