use Rattle.std.proofs.Common.{true, List, sym, subst}
use Rattle.mf_policy.specs.declared.registration.Registration.{Registration}
use Rattle.mf_policy.specs.Modules.{fresh_of}
use Rattle.mf_policy.specs.Registration.{Entry}
use Rattle.mf_plan.specs.declared.state.State.{State}
use Rattle.mf_elem.specs.declared.label.TheConstants.{SLOTS}
use Rattle.std.specs.Prelude.{◌≡◌, ◌<◌, None}
use Rattle.mf_policy.specs.Loading.{load_fault}
use Rattle.mf_list.specs.Asked.{slot_of}
use Rattle.mf_audit.specs.Slotted.{AreSlotted}
use Rattle.mf_audit.proofs.BootSlots.{loadable, slot_within}
use Rattle.mf_audit.proofs.Slots.{slotted_newest}
use Rattle.mf_audit.proofs.kernel.Kernel.load.Goals as goal

pub invariant_of-self-2 : goal.invariant_of-self-2
invariant_of-self-2 c =
    let k = c.self.inside in
    let m = c.args.wanted in
    let r = c.registration_of-registration.result in
    let none : load_fault true k.listed k.given m ≡ None = subst (λ (s : State). load_fault s.booted s.specs s.numbers m ≡ None) (sym c.self.view_is) c.requires in
    let own = subst (λ (x : Registration). slot_of x < SLOTS) (sym c.registration_of-registration.ensures) (slot_within m true k.given (loadable true k.listed k.given m none)) in
    subst (λ (es : List Entry). AreSlotted es) (sym c.in_ok-list_fresh.ensures.ok)
    (slotted_newest (r, fresh_of r.module) k.listed own c.self.invariant)
