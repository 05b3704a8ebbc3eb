use Rattle.std.proofs.Common.{ℕ, List, [], length, ap, sym, ◌∙◌}
use Rattle.mf_objects.specs.Live.{content_of}
use Rattle.mf_objects.proofs.Shorthands.{reading}
use Rattle.mf_objects.proofs.Laws.{directory_empty}
use Rattle.mf_objects.proofs.objects.Objects.size.Goals as goal

pub returns-clause-directory : goal.returns-clause-directory
returns-clause-directory c directory =
    ap (λ (bytes : List ℕ). length bytes)
    (c.content.ensures.value
    ∙ sym (ap (reading content_of []) c.entity.ensures.shown)
    ∙ directory_empty c.args.self.now c.args.id c.entity.ensures.population directory)
