use Rattle.std.proofs.Common.{◌≡◌, ◌&&◌, List, ap, sym, ◌∙◌, subst, option_map}
use Rattle.std.specs.Prelude.{find}
use Rattle.std.specs.Str.{bytes_eq}
use Rattle.mf_objects.specs.declared.id.Id.{Id}
use Rattle.mf_objects.specs.declared.entity.Entity.{Entity}
use Rattle.mf_objects.specs.Live.{Entities}
use Rattle.mf_objects.specs.Lives.{IsFirstLive}
use Rattle.mf_objects.specs.Sound.{IsById}
use Rattle.mf_objects.specs.Index.{is_in, is_member, is_named_at, bucket, bucket_of}
use Rattle.mf_objects.proofs.ById.{stand_by_id}
use Rattle.mf_objects.proofs.Found.{found_id}
use Rattle.mf_objects.proofs.Indexed.{bucket_within}
use Rattle.mf_objects.proofs.Members.{member_found}
use Rattle.mf_objects.proofs.objects.Objects.named.Goals as goal

pub named_among-requires : goal.named_among-requires
named_among-requires c =
    let es = c.self.inside.entities.items in
    subst (λ (xs : List Entity). IsById xs) (sym c.deref.ensures.value)
    (stand_by_id c.self.inside.zones 0 c.self.inside.next es c.self.invariant.0.population.rising)

pub returns-clause-found : goal.returns-clause-found
returns-clause-found c =
    let next = c.self.inside.next in
    let zones = c.self.inside.zones in
    let es = c.self.inside.entities.items in
    let group = c.args.group in
    let name = c.args.name.now in
    let by_id : IsById es = stand_by_id zones 0 next es c.self.invariant.0.population.rising in
    let candidates : c.candidates.result.now ≡ bucket (bucket_of group name) es =
    c.candidates.ensures ∙ c.self.invariant.1.each (bucket_of group name) (bucket_within group name) in
    let found : c.named_among.result ≡ option_map (λ (e : Entity). e.id) (find (λ (e : Entity). is_in group e.what && bytes_eq e.name name) es) =
    c.named_among.ensures
    ∙ ap (λ (xs : List Entity). find (is_named_at xs group name) c.candidates.result.now) c.deref.ensures.value
    ∙ ap (λ (ids : List Id). find (is_named_at es group name) ids) candidates
    ∙ member_found es group name by_id in
    subst (λ (o : Entities). IsFirstLive (is_member group name) o c.named_among.result) c.self.view_is
    (found_id (is_member group name) next zones es c.named_among.result c.self.invariant.0 found)
