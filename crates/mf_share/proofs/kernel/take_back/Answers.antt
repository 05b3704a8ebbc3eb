use Rattle.std.proofs.Common.{◌≡◌, ◌++◌, ◌∷◌, [], List, false, refl, length-append, append_assoc, sym, ap, ◌∙◌, arith}
use Rattle.std.specs.Vec.Iter.{into_iter_items}
use Rattle.mf_share.specs.Passes.{PassView, parts_beside}
use Rattle.mf_share.proofs.Passes.{out-next, sum-push}
use Rattle.mf_share.proofs.kernel.take_back.Goals as goal

pub loop-pass-preserved : goal.loop-pass-preserved
loop-pass-preserved g c =
    let l = c.loop-pass.invariant in
    let p = c.in-Some.pass in
    let ys = c.loop-pass.yielded in
    let rest = into_iter_items c.next.new.self in
    let all = c.args.passes.items in
    let joined : ys ++ p ∷ rest ≡ all = ap (λ (r : List PassView). ys ++ r) (sym c.in-Some.ensures.steps.0) ∙ l.2 in
    let out : p.out ≡ false = out-next ys rest all p _ joined refl c.requires in
    let parts : c.pass.inside.busy.parts ≡ 1 = c.pass.invariant.part_unless_out ∙ ap parts_beside (ap (λ (x : PassView). x.out) c.pass.view_is ∙ out) in
    let amount : c.pass.inside.done.amount ≡ p.lines = c.pass.invariant.all_lines ∙ ap (λ (x : PassView). x.lines) c.pass.view_is in
    let longer = length-append ys (p ∷ []) in (
      tt,
      tt,
      append_assoc ys (p ∷ []) rest ∙ joined,
      omega (arith, c.merge.ensures.parts, c.pass.invariant.one_part, longer, l.3),
      omega (arith, c.merge.ensures.amount, amount, sum-push ys p, l.4),
      omega (arith, c.merge-in-loop-pass.ensures.parts, parts, longer, l.5),
      omega (arith, c.merge-in-loop-pass.ensures.amount, c.pass.invariant.none_open, l.6),
    )
