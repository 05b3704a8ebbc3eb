use Rattle.std.proofs.Common.{◌≡◌, ◌<◌, ◌≤◌, Some, length, not, nat_le, slice_get, option_map, rules, refl, ap, sym, ◌∙◌}
use Rattle.std.specs.Prelude.{find}
use Rattle.std.proofs.lemmas.Bool.{eqb-true}
use Rattle.std.proofs.lemmas.List.Sorted.{IsPartitionPoint-from_clause}
use Rattle.std.proofs.lemmas.Option.{slice_get-get_or, slice_get_past, slice_get_read}
use Rattle.mf_objects.specs.declared.entity.Entity.{Entity}
use Rattle.mf_objects.proofs.ById.{least_at, least_here, below_first}
use Rattle.mf_objects.proofs.objects.reading.least_from.Goals as goal

pub returns-then-has_id : goal.returns-then-has_id
returns-then-has_id c =
    let es = c.args.entities.now in
    let n = c.args.n in
    let e : Entity = c.index-entities-first.result in
    let has : e.id.0 ≡ n = eqb-true e.id.0 n (sym c.has_id.ensures ∙ c.if-has_id.true) in
    let first : find (λ (x : Entity). nat_le n x.id.0) es ≡ slice_get es n =
    least_here es n n e c.requires c.if-first-entities.true (ap (λ (x : Entity). x.id.0) (sym c.index-entities-first.is) ∙ has) in
    sym (ap (option_map (λ (x : Entity). x.id)) (first ∙ slice_get-get_or es n c.index-entities-first-then-has_id.result c.if-first-entities.true))

pub returns-in_err-found : goal.returns-in_err-found
returns-in_err-found c =
    let es = c.args.entities.now in
    let n = c.args.n in
    let place = c.partition_point-place.result in
    let facts = c.partition_point-place.ensures in
    let point = IsPartitionPoint-from_clause (λ (x : Entity). not (nat_le n x.id.0)) es place facts.partitioned (below_first es n c.requires) (λ a r f k. search rules) in
    let first : find (λ (x : Entity). nat_le n x.id.0) es ≡ slice_get es place = least_at es n place facts.bound point in
    let past : length es ≤ place = c.in_err-found.ensures.lookup.3 in
    c.from_residual.ensures ∙ sym (ap (option_map (λ (x : Entity). x.id)) (first ∙ slice_get_past es place past))

pub returns : goal.returns
returns c =
    let es = c.args.entities.now in
    let n = c.args.n in
    let place = c.partition_point-place.result in
    let facts = c.partition_point-place.ensures in
    let point = IsPartitionPoint-from_clause (λ (x : Entity). not (nat_le n x.id.0)) es place facts.partitioned (below_first es n c.requires) (λ a r f k. search rules) in
    let first : find (λ (x : Entity). nat_le n x.id.0) es ≡ slice_get es place = least_at es n place facts.bound point in
    let within : place < length es = c.in_ok-found.ensures.lookup.3.0 in
    let there : slice_get es place ≡ Some c.in_ok-found.found.now = slice_get_read es (length es) place c.in_ok-found.found.now refl within c.in_ok-found.ensures.lookup.1 in
    sym (ap (option_map (λ (x : Entity). x.id)) (first ∙ there))
