use Rattle.std.proofs.Common.{◌≡◌, ◌++◌, false, true, List, ap, sym, subst, ◌∙◌}
use Rattle.mf_errno.specs.declared.module.Module.{Module}
use Rattle.mf_policy.specs.declared.settings.Change.{Change}
use Rattle.mf_policy.specs.declared.registration.Registration.{Registration}
use Rattle.mf_policy.specs.declared.settings.Changed.{Changed}
use Rattle.mf_policy.specs.Modules.{fresh_of, wants_slot}
use Rattle.mf_policy.specs.Registration.{Entry, is_listed, registration_of, with_registered}
use Rattle.mf_list.specs.Lists.{HasSlot, MayLeave, in_catalogue}
use Rattle.mf_perform.specs.declared.relisting.Relisting.{Relisting}
use Rattle.mf_perform.specs.Effect.{after}
use Rattle.mf_perform.specs.Relisting.{effect_in, SetsDynamic}
use Rattle.mf_perform.specs.Suits.{Suits}
use Rattle.mf_core.specs.Policies.{AreOf}
use Rattle.mf_core.proofs.SameLists.{attached, detached, has_slot, held_once, is_loadable, loaded_dynamic, setting_follows, unloaded_dynamic, waits}
use Rattle.mf_core.proofs.relisting.relist.Goals as goal

pub attach-requires-clause-there : goal.attach-requires-clause-there
attach-requires-clause-there g c κs within =
    let s = c.args.state.now in
    let can = is_loadable s c.in-Load.wanted (subst (λ (r : Relisting). Suits s (effect_in r)) c.in-Load.is c.requires.suits) in
    let is : c.registration_of-registration.result ≡ registration_of c.in-Load.wanted s.booted s.numbers =
    c.registration_of-registration.ensures ∙ ap (registration_of c.in-Load.wanted s.booted) c.given.ensures.value in
    subst (λ (r : Registration). in_catalogue r.module c.args.catalogue.now ≡ true) (sym is)
    (waits c.in-Load.wanted s.specs c.args.fixed.now c.args.list.now c.args.catalogue.now s.numbers c.requires.policies can)

pub attach-requires-clause-absent : goal.attach-requires-clause-absent
attach-requires-clause-absent g c κs within =
    let s = c.args.state.now in
    let can = is_loadable s c.in-Load.wanted (subst (λ (r : Relisting). Suits s (effect_in r)) c.in-Load.is c.requires.suits) in
    let is : c.registration_of-registration.result ≡ registration_of c.in-Load.wanted s.booted s.numbers =
    c.registration_of-registration.ensures ∙ ap (registration_of c.in-Load.wanted s.booted) c.given.ensures.value in
    subst (λ (r : Registration). is_listed r.module (c.args.fixed.now ++ c.args.list.now) ≡ false) (sym is)
    (ap (is_listed c.in-Load.wanted) c.requires.policies.listed ∙ can.free)

pub attach-requires-clause-slot : goal.attach-requires-clause-slot
attach-requires-clause-slot g c κs within =
    let s = c.args.state.now in
    let can = is_loadable s c.in-Load.wanted (subst (λ (r : Relisting). Suits s (effect_in r)) c.in-Load.is c.requires.suits) in
    let is : c.registration_of-registration.result ≡ registration_of c.in-Load.wanted s.booted s.numbers =
    c.registration_of-registration.ensures ∙ ap (registration_of c.in-Load.wanted s.booted) c.given.ensures.value in
    subst (λ (r : Registration). HasSlot (wants_slot r.module) r.slot) (sym is) (has_slot c.in-Load.wanted s.specs s.numbers s.booted can)

pub attach-requires-clause-may_leave : goal.attach-requires-clause-may_leave
attach-requires-clause-may_leave g c κs within =
    let s = c.args.state.now in
    let is : c.registration_of-registration.result ≡ registration_of c.in-Load.wanted s.booted s.numbers =
    c.registration_of-registration.ensures ∙ ap (registration_of c.in-Load.wanted s.booted) c.given.ensures.value in
    subst (λ (r : Registration). MayLeave (r, fresh_of r.module)) (sym is)
    (loaded_dynamic s c.in-Load.wanted c.requires.booted (subst (λ (r : Relisting). Suits s (effect_in r)) c.in-Load.is c.requires.suits))

pub attach-requires-clause-once : goal.attach-requires-clause-once
attach-requires-clause-once g c κs within =
    held_once c.args.state.now.specs c.args.fixed.now c.args.list.now c.args.catalogue.now c.requires.policies

pub returns-in-Load-clause-ok : goal.returns-in-Load-clause-ok
returns-in-Load-clause-ok g c = λ caller.
    let s = c.args.state.now in
    let is : c.registration_of-registration.result ≡ registration_of c.in-Load.wanted s.booted s.numbers =
    c.registration_of-registration.ensures ∙ ap (registration_of c.in-Load.wanted s.booted) c.given.ensures.value in
    subst (λ (r : Relisting). AreOf (after s caller (effect_in r)).specs c.args.fixed.now c.attach.new.self c.attach.new.catalogue) (sym c.in-Load.is)
    (subst (λ (r : Registration). AreOf (with_registered s.specs r) c.args.fixed.now c.attach.new.self c.attach.new.catalogue) is
    (attached s.specs c.registration_of-registration.result c.args.fixed.now c.args.list.now c.attach.new.self c.args.catalogue.now c.attach.new.catalogue
    c.requires.policies c.attach.ensures.moves))

pub detach-requires-clause-listed : goal.detach-requires-clause-listed
detach-requires-clause-listed g c κs within =
    unloaded_dynamic c.args.state.now c.in-Unload.wanted c.args.fixed.now c.args.list.now c.requires.policies.listed c.are_pinned.ensures
    (subst (λ (r : Relisting). Suits c.args.state.now (effect_in r)) c.in-Unload.is c.requires.suits)

pub detach-requires-clause-once : goal.detach-requires-clause-once
detach-requires-clause-once g c κs within =
    held_once c.args.state.now.specs c.args.fixed.now c.args.list.now c.args.catalogue.now c.requires.policies

pub returns-in-Unload-clause-ok : goal.returns-in-Unload-clause-ok
returns-in-Unload-clause-ok g c = λ caller.
    subst (λ (r : Relisting). AreOf (after c.args.state.now caller (effect_in r)).specs c.args.fixed.now c.detach.new.self c.detach.new.catalogue) (sym c.in-Unload.is)
    (detached c.args.state.now.specs c.in-Unload.wanted c.args.fixed.now c.args.list.now c.detach.new.self c.args.catalogue.now c.detach.new.catalogue
    c.requires.policies c.detach.ensures.moves)

pub returns-in_ok-_answer-in-Set-clause-ok : goal.returns-in_ok-_answer-in-Set-clause-ok
returns-in_ok-_answer-in-Set-clause-ok g c = λ caller.
    let asked : Module × Change = (c.in-Set.module, c.in-Set.change) in
    subst (λ (r : Relisting). AreOf (after c.args.state.now caller (effect_in r)).specs c.args.fixed.now c.change.new.self c.args.catalogue.now) (sym c.in-Set.is)
    (setting_follows c.args.state.now asked c.args.fixed.now c.args.list.now c.change.new.self c.args.catalogue.now c.requires.policies c.are_pinned.ensures
    (subst SetsDynamic c.in-Set.is c.requires.dynamic) (ap (λ (p : Changed × List Entry). p.1) c.in_ok-_answer-in-Set.ensures.ok))
