use Rattle.std.proofs.Common.{sym}
use Rattle.mf_plan.proofs.LookingUp.{begin, live_entry, step}
use Rattle.mf_plan.proofs.lookup.lookup_along.Goals as goal

pub loop-name-init : goal.loop-name-init
loop-name-init c =
    rw (c.new-lookups.ensures, c.components-components.ensures.value)
    (begin c.args.objects.now c.args.path.now (rw c.root-root.ensures.value at c.root-root.ensures.directory))

pub loop-name-preserved : goal.loop-name-preserved
loop-name-preserved c =
    rw c.push.ensures
    (step c.args.objects.now c.args.path.now c.loop-name.components c.next.new.self c.loop-name.lookups c.loop-name.target c.in-Ok.dir c.child.result c.in-Some.name.now
    c.in-Some.ensures (sym c.in-Ok.ensures.value) c.child.ensures.found.id (c.in-Ok.ensures.live, live_entry c.args.objects.now c.child.result c.child.ensures.vnode c.child.ensures.not_root) c.loop-name.invariant)
