use Rattle.std.proofs.Common.{subst}
use Rattle.mf_objects.specs.Live.{Entities}
use Rattle.mf_objects.specs.Lives.{IsLive, is_directory}
use Rattle.mf_objects.proofs.Found.{root_live}
use Rattle.mf_objects.proofs.objects.Objects.root.Goals as goal

pub returns-clause-directory : goal.returns-clause-directory
returns-clause-directory c =
    subst (λ (o : Entities). IsLive is_directory o (record { 0 = 0 })) c.self.view_is
    (root_live c.self.inside.next c.self.inside.zones c.self.inside.entities.items c.self.invariant.0)
