use Rattle.std.proofs.Common.{◌≡◌, rules, ap, sym, ◌∙◌}
use Rattle.std.proofs.lemmas.Bool.{eqb-true}
use Rattle.std.proofs.lemmas.List.Sorted.{answers_always}
use Rattle.mf_objects.specs.declared.entity.Entity.{Entity}
use Rattle.mf_objects.proofs.ById.{searched, place_at}
use Rattle.mf_objects.proofs.objects.place_of.Goals as goal

pub returns : goal.returns
returns c =
    let facts = c.binary_search_by_key.ensures in
    let by_key = facts.position (λ (e : Entity). e.id.0) (answers_always _ _ _ (λ f a r g called. search rules)) in
    c.ok.ensures.value ∙ searched c.args.entities.now c.args.id c.binary_search_by_key.result c.requires facts.bound by_key

pub returns-then-has_id : goal.returns-then-has_id
returns-then-has_id c =
    let e : Entity = c.index-entities-first.result in
    let has : e.id.0 ≡ c.args.id.0 = eqb-true e.id.0 c.args.id.0 (sym c.has_id.ensures ∙ c.if-has_id.true) in
    sym (place_at c.args.entities.now c.args.id c.args.id.0 e c.requires c.if-first-entities.true (ap (λ (x : Entity). x.id.0) (sym c.index-entities-first.is) ∙ has))
