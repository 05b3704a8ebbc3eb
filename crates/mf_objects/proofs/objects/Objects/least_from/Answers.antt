use Rattle.std.proofs.Common.{◌≡◌, List, ap, sym, ◌∙◌, subst, option_map}
use Rattle.std.specs.Prelude.{find}
use Rattle.mf_objects.specs.declared.entity.Entity.{Entity}
use Rattle.mf_objects.specs.Live.{Entities}
use Rattle.mf_objects.specs.Lives.{IsFirstLive, is_from}
use Rattle.mf_objects.specs.Population.{IsRising}
use Rattle.mf_objects.specs.Sound.{live_entity, IsById}
use Rattle.mf_objects.proofs.ById.{stand_by_id}
use Rattle.mf_objects.proofs.Found.{found_id, live_found, found_least, none_from}
use Rattle.mf_objects.proofs.objects.Objects.least_from.Goals as goal

pub least_from-requires : goal.least_from-requires
least_from-requires c =
    let es = c.self.inside.entities.items in
    subst (λ (xs : List Entity). IsById xs) (sym c.deref.ensures.value)
    (stand_by_id c.self.inside.zones 0 c.self.inside.next es c.self.invariant.0.population.rising)

pub returns-clause-found : goal.returns-clause-found
returns-clause-found c =
    let zones = c.self.inside.zones in
    let test = is_from c.args.n in
    let found : c.least_from.result ≡ option_map (λ (e : Entity). e.id) (find (λ (e : Entity). test (live_entity zones e)) c.self.inside.entities.items) =
    c.least_from.ensures ∙ ap (λ (es : List Entity). option_map (λ (e : Entity). e.id) (find (λ (e : Entity). test (live_entity zones e)) es)) c.deref.ensures.value in
    subst (λ (o : Entities). IsFirstLive test o c.least_from.result) c.self.view_is
    (found_id test c.self.inside.next zones c.self.inside.entities.items c.least_from.result c.self.invariant.0 found)

pub returns-clause-live : goal.returns-clause-live
returns-clause-live c =
    let zones = c.self.inside.zones in
    let test = is_from c.args.n in
    let found : c.least_from.result ≡ option_map (λ (e : Entity). e.id) (find (λ (e : Entity). test (live_entity zones e)) c.self.inside.entities.items) =
    c.least_from.ensures ∙ ap (λ (es : List Entity). option_map (λ (e : Entity). e.id) (find (λ (e : Entity). test (live_entity zones e)) es)) c.deref.ensures.value in
    let is : IsFirstLive test c.args.self.now c.least_from.result =
    subst (λ (o : Entities). IsFirstLive test o c.least_from.result) c.self.view_is
    (found_id test c.self.inside.next zones c.self.inside.entities.items c.least_from.result c.self.invariant.0 found) in
    live_found test c.args.self.now c.least_from.result is

pub returns-clause-least : goal.returns-clause-least
returns-clause-least c =
    let zones = c.self.inside.zones in
    let test = is_from c.args.n in
    let found : c.least_from.result ≡ option_map (λ (e : Entity). e.id) (find (λ (e : Entity). test (live_entity zones e)) c.self.inside.entities.items) =
    c.least_from.ensures ∙ ap (λ (es : List Entity). option_map (λ (e : Entity). e.id) (find (λ (e : Entity). test (live_entity zones e)) es)) c.deref.ensures.value in
    let is : IsFirstLive test c.args.self.now c.least_from.result =
    subst (λ (o : Entities). IsFirstLive test o c.least_from.result) c.self.view_is
    (found_id test c.self.inside.next zones c.self.inside.entities.items c.least_from.result c.self.invariant.0 found) in
    found_least c.args.n c.args.self.now c.least_from.result (subst (λ (o : Entities). IsRising 0 o.next o.live) c.self.view_is c.self.invariant.0.population.rising) is

pub returns-clause-none : goal.returns-clause-none
returns-clause-none c =
    let zones = c.self.inside.zones in
    let test = is_from c.args.n in
    let found : c.least_from.result ≡ option_map (λ (e : Entity). e.id) (find (λ (e : Entity). test (live_entity zones e)) c.self.inside.entities.items) =
    c.least_from.ensures ∙ ap (λ (es : List Entity). option_map (λ (e : Entity). e.id) (find (λ (e : Entity). test (live_entity zones e)) es)) c.deref.ensures.value in
    let is : IsFirstLive test c.args.self.now c.least_from.result =
    subst (λ (o : Entities). IsFirstLive test o c.least_from.result) c.self.view_is
    (found_id test c.self.inside.next zones c.self.inside.entities.items c.least_from.result c.self.invariant.0 found) in
    none_from c.args.n c.args.self.now c.least_from.result is
