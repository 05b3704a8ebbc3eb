use Rattle.std.proofs.Common.{ℕ, ◌<◌, ap, subst, sym, ◌∙◌}
use Rattle.mf_elem.specs.declared.label.TheConstants.{SLOTS}
use Rattle.mf_list.specs.Asked.{slot_of}
use Rattle.mf_policy.specs.declared.registration.Registration.{Registration}
use Rattle.mf_policy.specs.Registration.{Entry}
use Rattle.mf_audit.proofs.Slots.{slotted_at}
use Rattle.mf_audit.proofs.answering.answer_at.Goals as goal

pub answer-requires : goal.answer-requires
answer-requires c = λ wanted.
    let d : Entry = (c.registration.result, c.spec.result.now) in
    subst (λ (slot : ℕ). slot < SLOTS) (sym (c.unwrap_or-slot.ensures ∙ ap (λ (r : Registration). slot_of r) (c.registration.ensures d)))
    (slotted_at c.args.listed.now c.args.place d c.requires.slots c.requires.place)
