use Rattle.std.proofs.Common.{◌≡◌, ◌-◌, ◌++◌, List, length, map, take, drop, ap, sym, ◌∙◌, arith}
use Rattle.std.proofs.lemmas.List.{length-map}
use Rattle.mf_objects.specs.declared.entity.Entity.{Entity}
use Rattle.mf_objects.specs.Descriptors.{with_closed_on}
use Rattle.mf_objects.specs.Sound.{open_count}
use Rattle.mf_objects.proofs.Kept.{view}
use Rattle.mf_objects.proofs.Closing.{closing, closed_everywhere, index_closed, closed_nowhere, whole_slice}
use Rattle.mf_objects.proofs.objects.Objects.close_on.Goals as goal

pub invariant_of-self : goal.invariant_of-self
invariant_of-self c =
    let es = c.self.inside.entities.items in
    let now = c.close_on.new.entities in
    let value : now ≡ map (closing c.args.file) es = c.close_on.ensures.value ∙ ap (map (closing c.args.file)) c.deref_mut.ensures.value in
    let long : length now ≡ c.self.inside.entities.len =
    omega (arith, ap (λ (xs : List Entity). length xs) value, length-map es (closing c.args.file), c.self.inside.entities.ok.0) in
    let list : take c.self.inside.entities.len (now ++ drop (length now) es) ≡ map (closing c.args.file) es = whole_slice c.self.inside.entities.len now es long ∙ value in
    let count : c.self.inside.open_fds - c.close_on.result ≡ open_count now =
    omega (arith, c.close_on.ensures.count, ap (λ (xs : List Entity). open_count xs) c.deref_mut.ensures.value, c.self.invariant.2) in
    rw list (
      (closed_everywhere c.args.file c.self.inside.next c.self.inside.zones es c.self.invariant.0).sound,
      index_closed c.args.file c.self.inside.index es c.self.invariant.1,
      count ∙ ap (λ (xs : List Entity). open_count xs) value,
    )

pub returns-then-self-gt0 : goal.returns-then-self-gt0
returns-then-self-gt0 c =
    let es = c.self.inside.entities.items in
    let now = c.close_on.new.entities in
    let value : now ≡ map (closing c.args.file) es = c.close_on.ensures.value ∙ ap (map (closing c.args.file)) c.deref_mut.ensures.value in
    let long : length now ≡ c.self.inside.entities.len =
    omega (arith, ap (λ (xs : List Entity). length xs) value, length-map es (closing c.args.file), c.self.inside.entities.ok.0) in
    let list : take c.self.inside.entities.len (now ++ drop (length now) es) ≡ map (closing c.args.file) es = whole_slice c.self.inside.entities.len now es long ∙ value in
    ap (λ (xs : List Entity). view c.self.inside.next c.self.inside.zones xs) list
    ∙ (closed_everywhere c.args.file c.self.inside.next c.self.inside.zones es c.self.invariant.0).shows
    ∙ ap (with_closed_on c.args.file) c.self.view_is

pub returns-else-self-gt0 : goal.returns-else-self-gt0
returns-else-self-gt0 c =
    let es = c.self.inside.entities.items in
    let none : open_count es ≡ 0 = omega (arith, c.if-self-gt0.false, c.self.invariant.2) in
    sym c.self.view_is ∙ closed_nowhere c.args.file c.self.inside.next c.self.inside.zones es none ∙ ap (with_closed_on c.args.file) c.self.view_is
