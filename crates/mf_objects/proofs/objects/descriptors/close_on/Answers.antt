use Rattle.std.proofs.Common.{◌<◌, length, ap, sym, ◌∙◌, arith}
use Rattle.mf_objects.specs.declared.entity.Entity.{Entity}
use Rattle.mf_objects.specs.Descriptors.{fds_of, with_fds, closed_on}
use Rattle.mf_objects.specs.Sound.{open_count}
use Rattle.mf_objects.proofs.Closing.{closing_more, count_more}
use Rattle.mf_objects.proofs.objects.descriptors.close_on.Goals as goal

pub loop-entity-preserved : goal.loop-entity-preserved
loop-entity-preserved c =
    let xs = c.args.entities.now in
    let ys = c.loop-entity.entities in
    let i = c.loop-entity.entity-index in
    let e = c.entity-item.result in
    let w = c.close_on-closed.new.self in
    let at = c.entity-item.is in
    let value = c.close_on-closed.ensures.value ∙ ap (λ (x : Entity). with_fds (closed_on c.args.file) x.what) (sym at) in
    let count = c.close_on-closed.ensures.count ∙ ap (λ (x : Entity). length (fds_of x.what)) (sym at) in
    let within : i < length ys = omega (arith, c.loop-entity-test.true) in (
      closing_more c.args.file xs ys i e w (omega arith) c.loop-entity.invariant.0 at value,
      count_more ys i e w c.loop-entity.closed c.close_on-closed.result (open_count xs) within at count c.loop-entity.invariant.1,
    )
