use Rattle.std.proofs.Common.{◌≡◌, None, ap, sym, ◌∙◌}
use Rattle.mf_plan.specs.declared.target.Target.TheVariants.{Name}
use Rattle.mf_plan.specs.Path.{lookup_along}
use Rattle.mf_plan.proofs.LookingUp.{free_name}
use Rattle.mf_core.proofs.opening.add_file.Goals as goal

pub add_vnode-requires-clause-name : goal.add_vnode-requires-clause-name
add_vnode-requires-clause-name c =
    let objects = c.args.objects.now in
    let path = c.args.file.now.path in
    let leads : (lookup_along objects path).target ≡ Name c.in-Name-default-None.dir None =
    sym c.target_of.ensures.value ∙ c.in-Name-default-None.is
    ∙ ap (Name c.in-Name-default-None.dir) c.in-Name-default-None.field-1-is in
    rw (c.last_name-name.ensures) (free_name objects path c.in-Name-default-None.dir leads)
