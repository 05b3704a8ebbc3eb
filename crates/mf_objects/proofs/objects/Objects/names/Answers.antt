use Rattle.std.proofs.Common.{◌≡◌, List, map, take, ap, sym, ◌∙◌, subst, ℕ, Bor}
use Rattle.std.proofs.lemmas.Result.{IfOk-weaker}
use Rattle.mf_objects.specs.declared.entity.Entity.{Entity}
use Rattle.mf_objects.specs.declared.limits.TheConstants.{MOST_NAMES}
use Rattle.mf_objects.specs.Live.{Entities}
use Rattle.mf_objects.specs.Titles.{in_byte_order, names_at, entry_names}
use Rattle.mf_objects.specs.Names.{IsFirstNames}
use Rattle.mf_objects.proofs.ByteOrder.{first_are_first}
use Rattle.mf_objects.proofs.Naming.{raw_names, names_live}
use Rattle.mf_objects.proofs.objects.Objects.names.Goals as goal

pub returns-clause-value : goal.returns-clause-value
unfolding names_at
returns-clause-value c =
    let es = c.self.inside.entities.items in
    let found : map (λ (name : Bor (List ℕ)). name.now) c.in_ok-names.names.items ≡ take MOST_NAMES (in_byte_order (entry_names c.args.dir c.args.self.now.live)) =
    c.in_ok-names.ensures
    ∙ ap (λ (xs : List Entity). take MOST_NAMES (in_byte_order (raw_names c.args.dir xs))) c.deref.ensures.value
    ∙ ap (λ (ns : List (List ℕ)). take MOST_NAMES (in_byte_order ns)) (sym (names_live c.args.dir c.self.inside.zones es)
    ∙ ap (λ (o : Entities). entry_names c.args.dir o.live) c.self.view_is) in
    IfOk-weaker c.listed.result
    (λ list. list ≡ map (λ (name : Bor (List ℕ)). name.now) c.deref-2.result.now)
    (λ list. list ≡ names_at c.args.self.now c.args.dir)
    (λ list is. is ∙ ap (map (λ (name : Bor (List ℕ)). name.now)) c.deref-2.ensures.value ∙ found) c.listed.ensures

pub returns-clause-first : goal.returns-clause-first
returns-clause-first c =
    let es = c.self.inside.entities.items in
    let names : List (List ℕ) = entry_names c.args.dir c.args.self.now.live in
    let found : map (λ (name : Bor (List ℕ)). name.now) c.in_ok-names.names.items ≡ take MOST_NAMES (in_byte_order names) =
    c.in_ok-names.ensures
    ∙ ap (λ (xs : List Entity). take MOST_NAMES (in_byte_order (raw_names c.args.dir xs))) c.deref.ensures.value
    ∙ ap (λ (ns : List (List ℕ)). take MOST_NAMES (in_byte_order ns)) (sym (names_live c.args.dir c.self.inside.zones es)
    ∙ ap (λ (o : Entities). entry_names c.args.dir o.live) c.self.view_is) in
    IfOk-weaker c.listed.result
    (λ list. list ≡ map (λ (name : Bor (List ℕ)). name.now) c.deref-2.result.now)
    (λ list. IsFirstNames list names)
    (λ list is. subst (λ (ns : List (List ℕ)). IsFirstNames ns names)
    (sym (is ∙ ap (map (λ (name : Bor (List ℕ)). name.now)) c.deref-2.ensures.value ∙ found)) (first_are_first names)) c.listed.ensures
