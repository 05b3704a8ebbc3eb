use Rattle.std.proofs.Common.{◌≡◌, ℕ, List, Bor, take, ap, sym, ◌∙◌, arith}
use Rattle.std.proofs.lemmas.List.{take_all}
use Rattle.mf_objects.specs.declared.entity.Entity.{Entity}
use Rattle.mf_objects.specs.declared.limits.TheConstants.{MOST_NAMES}
use Rattle.mf_objects.specs.Titles.{in_byte_order}
use Rattle.mf_objects.specs.Names.{with_name}
use Rattle.mf_objects.proofs.FirstNames.{entry_kept, few_texts, first_few, first_sorted, other_passed, texts}
use Rattle.mf_objects.proofs.Naming.{raw_names}
use Rattle.mf_objects.proofs.objects.naming.entry_names.Goals as goal
use Rattle.mf_objects.proofs.objects.naming.entry_names.Goals.{then-is_entry+in_ok-keep_first, else-is_entry}

pub keep_first-requires-clause-sorted : goal.keep_first-requires-clause-sorted
keep_first-requires-clause-sorted c =
    first_sorted (raw_names c.args.dir (take c.loop-entity.entity-index c.args.entities.now)) (texts c.loop-entity.names.items) c.loop-entity.invariant

pub keep_first-requires-clause-few : goal.keep_first-requires-clause-few
keep_first-requires-clause-few c =
    few_texts c.loop-entity.names.items 16
    (first_few (raw_names c.args.dir (take c.loop-entity.entity-index c.args.entities.now)) (texts c.loop-entity.names.items) c.loop-entity.invariant)

pub loop-entity-preserved : goal.loop-entity-preserved
loop-entity-preserved c =
    let es : List Entity = c.args.entities.now in
    let i : ℕ = c.loop-entity.entity-index in
    let e : Entity = c.entity-item.result in
    let first = texts c.loop-entity.names.items in
    elim c.if-is_entry.branch [
      | then-is_entry+in_ok-keep_first w ↦
          entry_kept c.args.dir es i e first (texts c.if-is_entry.names.items) (omega arith) c.entity-item.is (sym w.if-is_entry.ensures) c.loop-entity.invariant
          (ap (λ names. texts names.items) w.names-is ∙ w.in_ok-keep_first.ensures ∙ ap (λ (name : List ℕ). take MOST_NAMES (with_name name first)) w.as_str.ensures)
      | else-is_entry w ↦
          ap (λ names. texts names.items) w.names-is ∙ other_passed c.args.dir es i e first (omega arith) c.entity-item.is (sym w.if-is_entry.ensures) c.loop-entity.invariant
    ]

pub returns : goal.returns
returns c =
    c.loop-entity.invariant
    ∙ ap (λ (xs : List Entity). take MOST_NAMES (in_byte_order (raw_names c.args.dir xs))) (take_all c.loop-entity.entity-index c.args.entities.now (omega arith))
