use Rattle.std.proofs.Common.{◌&&◌, nat_eq, ap, sym, ◌∙◌}
use Rattle.std.specs.Str.{bytes_eq}
use Rattle.mf_objects.specs.declared.entity.Entity.{Entity}
use Rattle.mf_objects.specs.Index.{is_in, found_passes}
use Rattle.mf_objects.proofs.Members.{found_at, found_nowhere}
use Rattle.mf_objects.proofs.objects.reading.is_named.Goals as goal

pub returns-in-Some : goal.returns-in-Some
returns-in-Some c =
    c.is_member.ensures
    ∙ ap (found_passes (λ (e : Entity). is_in c.args.group e.what && bytes_eq e.name c.args.name.now))
    (sym (found_at (λ (e : Entity). nat_eq e.id.0 c.args.id.0) c.args.entities.now c.in-Some.place c.index-entities-place.result (sym c.in-Some.ensures) c.index-entities-place.is))

pub returns-in-None : goal.returns-in-None
returns-in-None c =
    ap (found_passes (λ (e : Entity). is_in c.args.group e.what && bytes_eq e.name c.args.name.now))
    (sym (found_nowhere (λ (e : Entity). nat_eq e.id.0 c.args.id.0) c.args.entities.now (sym c.in-None.ensures)))
