use Rattle.mf_objects.specs.Live.{is_one_named, is_entry}
use Rattle.mf_objects.specs.Lives.{is_vnode}
use Rattle.mf_objects.proofs.Found.{kind_found, child_kind, child_not_root}
use Rattle.mf_objects.proofs.objects.Objects.child.Goals as goal

pub returns-clause-vnode : goal.returns-clause-vnode
returns-clause-vnode c = kind_found (is_one_named (is_entry c.args.dir) c.args.name.now) is_vnode (child_kind c.args.dir c.args.name.now) c.args.self.now c.named.result c.named.ensures.found

pub returns-clause-not_root : goal.returns-clause-not_root
returns-clause-not_root c = child_not_root c.args.dir c.args.name.now c.args.self.now c.named.result c.named.ensures.population c.named.ensures.found
