use Rattle.std.proofs.Common.{◌≡◌, List, None, Ok, map, refl, ap, sym, ◌∙◌}
use Rattle.std.specs.Option.{option_copied}
use Rattle.mf_errno.specs.declared.errno.Errno.{Errno}
use Rattle.mf_objects.specs.Live.{Entities}
use Rattle.mf_plan.specs.declared.found.Found.{Found}
use Rattle.mf_plan.specs.declared.outline.Check.{Check}
use Rattle.mf_plan.specs.declared.outline.Outline.{Outline}
use Rattle.mf_plan.specs.declared.plan.Tail.TheVariants.{Refuse}
use Rattle.mf_plan.specs.Ended.{Ended, ended_by}
use Rattle.mf_plan.specs.Outline.{item_asking, outlined}
use Rattle.mf_plan.proofs.Finding.{are_found, plan_by, planned}
use Rattle.mf_plan.proofs.outline.Outline.make.Goals as goal

-- the plan of an outline that is refused
refused : (objects : Entities) (outline : Outline) (checks : List Check) (errno : Errno) → outline.found.request ≡ None → outline.checks ≡ checks
    → outline.tail ≡ Refuse errno → outlined objects outline ≡ record { items = map (item_asking objects None) checks; tail = Refuse errno }
refused objects outline checks errno request same tail = cc

pub returns-in-Ok-clause-plan : goal.returns-in-Ok-clause-plan
returns-in-Ok-clause-plan c =
    let named = sym c.caller_of.ensures.value ∙ sym (ap (λ (found : Found). found.caller) c.begin.ensures.found) ∙ c.in-Some.is in
    plan_by c.args.state.now c.args.task.now c.in-Some.caller (option_copied c.args.child) c.args.call.now _ named
    (planned c.args.state.now c.args.task.now c.in-Some.caller c.args.call.now c.ask_for.new.asked (ended_by c.ask_for.new.checks (Ok c.in-Ok.target))
    c.in-Ok.ensures.row c.in-Ok.ensures.request)

pub returns-in-Err-clause-plan : goal.returns-in-Err-clause-plan
returns-in-Err-clause-plan c =
    let named = sym c.caller_of.ensures.value ∙ sym (ap (λ (found : Found). found.caller) c.begin.ensures.found) ∙ c.in-Some.is in
    refused c.args.state.now.objects c.refuse.new.self c.ask_for.new.checks c.in-Err.errno (ap (λ (found : Found). found.request) c.refuse.ensures.found)
    c.refuse.ensures.checks c.refuse.ensures.tail
    ∙ plan_by c.args.state.now c.args.task.now c.in-Some.caller (option_copied c.args.child) c.args.call.now _ named
    (planned c.args.state.now c.args.task.now c.in-Some.caller c.args.call.now None _ c.in-Err.ensures.row refl)

pub returns-in-Ok-clause-found : goal.returns-in-Ok-clause-found
returns-in-Ok-clause-found c done =
    let named = sym c.caller_of.ensures.value ∙ sym (ap (λ (found : Found). found.caller) c.begin.ensures.found) ∙ c.in-Some.is in
    are_found c.args.state.now c.args.task.now c.in-Some.caller (option_copied c.args.child) c.args.call.now _ named c.in-Some.is
    (ap (λ (end : Ended). end.tail) (sym c.in-Ok.ensures.row)) c.in-Ok.ensures.target c.in-Ok.ensures.request
