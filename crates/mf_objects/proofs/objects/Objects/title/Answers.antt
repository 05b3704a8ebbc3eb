use Rattle.std.proofs.Common.{◌≡◌, ◌++◌, ℕ, List, ap, sym, ◌∙◌, map, reverse, string_bytes, Option, append_assoc, subst}
use Rattle.mf_objects.specs.declared.entity.Entity.{Entity}
use Rattle.mf_objects.specs.Live.{LiveEntity, Entities}
use Rattle.mf_objects.specs.Names.{prefix_of, own_name}
use Rattle.mf_objects.specs.Titles.{path_in}
use Rattle.mf_objects.proofs.Shorthands.{path_at}
use Rattle.mf_objects.specs.Sound.{unlabelled, IsById}
use Rattle.mf_objects.proofs.ById.{stand_by_id}
use Rattle.mf_objects.proofs.Naming.{path_live, title_in, title_parts}
use Rattle.mf_objects.proofs.objects.Objects.title.Goals as goal

pub push_own_name-requires : goal.push_own_name-requires
push_own_name-requires c =
    subst (λ (xs : List Entity). IsById xs) (sym c.deref.ensures.value)
    (stand_by_id c.self.inside.zones 0 c.self.inside.next c.self.inside.entities.items c.self.invariant.0.population.rising)

pub returns-in-Ok-clause-ok : goal.returns-in-Ok-clause-ok
returns-in-Ok-clause-ok c =
    let es = c.self.inside.entities.items in
    let e : Entity = c.entity-entity.result.now in
    let out : List ℕ = string_bytes c.args.out.now in
    let path_is : List ℕ = path_at c.args.self.now c.args.id in
    let path : path_in (reverse (map unlabelled c.deref.result.now)) c.args.id ≡ path_is =
    ap (λ (xs : List Entity). path_in (reverse (map unlabelled xs)) c.args.id) c.deref.ensures.value
    ∙ path_live c.self.inside.zones es c.args.id
    ∙ ap (λ (o : Entities). path_at o c.args.id) c.self.view_is in
    let kind : string_bytes c.push_str.new.self ≡ out ++ prefix_of e.what =
    c.in_ok-push_str.ensures.bytes ∙ ap (λ (bytes : List ℕ). out ++ bytes) c.prefix.ensures in
    let name : string_bytes c.push_own_name.new.out ≡ string_bytes c.push_str.new.self ++ own_name path_is e.name e.what =
    c.in-Ok.ensures.ok ∙ ap (λ (p : List ℕ). string_bytes c.push_str.new.self ++ own_name p e.name e.what) path in
    name
    ∙ ap (λ (bytes : List ℕ). bytes ++ own_name path_is e.name e.what) kind
    ∙ append_assoc out (prefix_of e.what) (own_name path_is e.name e.what)
    ∙ ap (λ (title : List ℕ). out ++ title) (title_parts path_is e.name e.what)
    ∙ ap (λ (found : Option LiveEntity). out ++ title_in path_is found) (sym c.entity-entity.ensures.shown)
