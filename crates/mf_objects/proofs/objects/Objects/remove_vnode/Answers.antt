use Rattle.std.proofs.Common.{ap, ◌∙◌}
use Rattle.mf_objects.specs.Live.{has_id}
use Rattle.mf_objects.specs.Changes.{without}
use Rattle.mf_objects.proofs.Removing.{vnode_at}
use Rattle.mf_objects.proofs.Closing.{vnode_left, vnode_some, empty_left, unopened_left}
use Rattle.mf_objects.proofs.objects.Objects.remove_vnode.Goals as goal

pub place-place-requires : goal.place-place-requires
place-place-requires c = vnode_some c.close_on.new.self c.args.id (vnode_left c.args.self.now c.close_on.new.self c.args.id c.close_on.ensures c.requires.vnode)

pub remove_at-requires-clause-bare : goal.remove_at-requires-clause-bare
remove_at-requires-clause-bare c d =
    vnode_at c.close_on.new.self c.args.id c.place-place.result d c.place-place.ensures (vnode_left c.args.self.now c.close_on.new.self c.args.id c.close_on.ensures c.requires.vnode)
    (empty_left c.args.self.now c.close_on.new.self c.args.id c.close_on.ensures c.requires.empty) (unopened_left c.args.self.now c.close_on.new.self c.args.id c.close_on.ensures)

pub returns : goal.returns
returns c = c.remove_at.ensures.by_id c.args.id c.place-place.ensures.has ∙ ap (without (has_id c.args.id)) c.close_on.ensures
