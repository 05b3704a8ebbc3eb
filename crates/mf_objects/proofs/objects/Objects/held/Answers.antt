use Rattle.std.proofs.Common.{ap, ◌∙◌}
use Rattle.mf_objects.specs.Live.{Entities}
use Rattle.mf_objects.specs.Lives.{made_count}
use Rattle.mf_objects.proofs.Held.{held_made}
use Rattle.mf_objects.proofs.objects.Objects.held.Goals as goal

pub returns : goal.returns
returns c =
    c.held.ensures
    ∙ held_made c.self.inside.next c.self.inside.zones c.self.inside.entities.items c.args.slot c.requires c.self.invariant.0.exact c.self.invariant.0.set
    ∙ ap (λ (o : Entities). made_count o c.args.slot) c.self.view_is
