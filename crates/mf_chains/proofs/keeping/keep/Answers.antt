use Rattle.std.proofs.Common.{ℕ, List, nat_eq, cond, ap, sym, ◌∙◌}
use Rattle.std.proofs.lemmas.Result.{on_ok_weaker}
use Rattle.mf_chains.specs.declared.happening.Happening.{Happening}
use Rattle.mf_chains.specs.declared.chain.Step.{Step}
use Rattle.mf_chains.specs.Chains.{maker_for, step_at}
use Rattle.mf_chains.specs.Kept.{Kept, handed_on, kept_after, own_kept, with_lacking}
use Rattle.mf_chains.specs.Marks.{kept_at}
use Rattle.mf_chains.proofs.Receiving.{exchanged_after, labelled_after, nothing_after, put_kept, to_object_after, to_subject_after}
use Rattle.mf_chains.proofs.keeping.keep.Goals as goal

pub returns-in_ok-set-in-Labelled-clause-kept : goal.returns-in_ok-set-in-Labelled-clause-kept
returns-in_ok-set-in-Labelled-clause-kept c =
    let x = c.args.occurrence.now in
    let before = kept_at c.args.links.now c.args.sets.now in
    let party = c.in-Labelled.party in
    let own = c.in-Labelled.own in
    let maker = c.in-Labelled.maker in
    let new : Step → List Kept = λ step. with_lacking (own_kept own step.party step.event) (handed_on (maker_for own maker) before step) in
    on_ok_weaker c.put.result (λ put p.
    put_kept c.args.links.now c.first_set.new.links c.args.sets.now c.put.new.self c.number.result c.in_ok-set-in-Labelled.set c.in_ok-set-in-Labelled.ensures.extends c.requires put p.0
    ∙ ap (λ (ks : List Kept). cond (nat_eq p.0 c.number.result) ks (before p)) (c.in_ok-set-in-Labelled.ensures.kept ∙ ap new c.step_of-step.ensures)
    ∙ ap (λ (k : ℕ). cond (nat_eq p.0 k) (new (step_at x party)) (before p)) c.number.ensures
    ∙ sym (labelled_after x.event x.item party own maker before p)
    ∙ ap (λ (w : Happening). kept_after (record { event = x.event; item = x.item; what = w }) before p) (sym c.in-Labelled.is)) c.put.ensures

pub returns-then-to_object-clause-kept : goal.returns-then-to_object-clause-kept
returns-then-to_object-clause-kept c =
    let case = c.in-Moves in
    on_ok_weaker c.exchange.result (λ kept p. kept p.0
    ∙ sym (exchanged_after c.args.occurrence.now case.subject case.object case.to_subject case.to_object (kept_at c.args.links.now c.args.sets.now) case.is c.if-to_subject.true c.if-to_object.true p))
    c.exchange.ensures.kept

pub returns-else-to_object-clause-kept : goal.returns-else-to_object-clause-kept
returns-else-to_object-clause-kept c =
    let case = c.in-Moves in
    on_ok_weaker c.receive.result (λ kept p. kept p.0
    ∙ sym (to_subject_after c.args.occurrence.now case.subject case.object case.to_subject case.to_object (kept_at c.args.links.now c.args.sets.now) case.is c.if-to_subject.true c.if-to_object.false p))
    c.receive.ensures.kept

pub returns-then-to_object-2-clause-kept : goal.returns-then-to_object-2-clause-kept
returns-then-to_object-2-clause-kept c =
    let case = c.in-Moves in
    on_ok_weaker c.receive-then-to_object-2.result (λ kept p. kept p.0
    ∙ sym (to_object_after c.args.occurrence.now case.subject case.object case.to_subject case.to_object (kept_at c.args.links.now c.args.sets.now) case.is c.if-to_subject.false c.if-to_object-2.true p))
    c.receive-then-to_object-2.ensures.kept

pub returns-else-to_object-2-clause-kept : goal.returns-else-to_object-2-clause-kept
returns-else-to_object-2-clause-kept c =
    let case = c.in-Moves in
    λ p. nothing_after c.args.occurrence.now case.subject case.object case.to_subject case.to_object (kept_at c.args.links.now c.args.sets.now) case.is c.if-to_subject.false c.if-to_object-2.false p
