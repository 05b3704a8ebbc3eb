use Rattle.std.proofs.Common.{◌<◌, ap, subst, sym, ◌∙◌, get_or, string_bytes}
use Rattle.std.proofs.lemmas.Result.{on_ok_weaker}
use Rattle.std.proofs.lemmas.List.Elements.{All-from_recursion}
use Rattle.mf_elem.specs.declared.label.TheConstants.{SLOTS}
use Rattle.mf_list.specs.Asked.{slot_of}
use Rattle.mf_policy.specs.declared.registration.Registration.{Registration}
use Rattle.mf_policy.specs.Registration.{Entry}
use Rattle.mf_why.specs.Slots.{HasLabelSlot}
use Rattle.mf_why.proofs.Texts.{denier_told, denier_untold}
use Rattle.mf_why.proofs.causes.push_denier.Goals as goal

pub reason-requires : goal.reason-requires
reason-requires c = λ wanted.
    let d : Entry = (c.registration-registration.result, c.spec-means.result.now) in
    let slotted = All-from_recursion HasLabelSlot c.args.listed.now c.requires.slots c.args.number d c.requires.number in
    subst (λ slot. slot < SLOTS) (sym (c.unwrap_or.ensures ∙ ap (λ (r : Registration). slot_of r) (c.registration-registration.ensures d))) slotted

pub returns-in-None-clause-ok : goal.returns-in-None-clause-ok
returns-in-None-clause-ok c = λ other.
    denier_untold c.args.place.now c.args.by c.args.item.now (get_or c.args.listed.now c.args.number other) c.registration-registration.result c.spec-means.result.now c.unwrap_or.result
    (string_bytes c.args.text.now) (c.registration-registration.ensures other) (c.spec-means.ensures other) c.unwrap_or.ensures (sym c.reason.ensures ∙ c.in-None.is)

pub returns-in-Some-clause-ok : goal.returns-in-Some-clause-ok
returns-in-Some-clause-ok c = λ other.
    on_ok_weaker c.push_told.result
    (λ h. denier_told c.args.place.now c.args.by c.args.item.now (get_or c.args.listed.now c.args.number other) c.registration-registration.result c.spec-means.result.now c.unwrap_or.result
    c.in-Some.reason (string_bytes c.args.text.now) (string_bytes c.push_told.new.text) (c.registration-registration.ensures other) (c.spec-means.ensures other) c.unwrap_or.ensures
    (sym c.reason.ensures ∙ c.in-Some.is) h)
    c.push_told.ensures.ok
