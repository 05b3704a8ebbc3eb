use Rattle.std.proofs.Common.{◌<◌, ap, subst, sym, ◌∙◌, IsTrue}
use Rattle.std.proofs.lemmas.List.Elements.{All-from_recursion}
use Rattle.mf_elem.specs.declared.label.TheConstants.{SLOTS}
use Rattle.mf_list.specs.Asked.{slot_of}
use Rattle.mf_policy.specs.declared.registration.Registration.{Registration}
use Rattle.mf_policy.specs.declared.spec.Spec.{Spec}
use Rattle.mf_policy.specs.Modules.{module_of, wants_slot}
use Rattle.mf_policy.specs.Registration.{Entry}
use Rattle.mf_matrix.specs.Slotted.{IsSlotted}
use Rattle.mf_matrix.proofs.passing.lets_pass.Goals as goal

pub answer-requires : goal.answer-requires
answer-requires c = λ wanted.
    let d : Entry = (c.registration.result, c.spec.result.now) in
    let slotted = All-from_recursion IsSlotted c.args.listed.now c.requires.slots c.args.place d c.requires.place in
    subst (λ slot. slot < SLOTS) (sym (c.unwrap_or-slot.ensures ∙ ap (λ (r : Registration). slot_of r) (c.registration.ensures d)))
    (slotted (subst (λ (s : Spec). IsTrue (wants_slot (module_of s))) (c.spec.ensures d) wanted))
