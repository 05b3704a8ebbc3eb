use Rattle.std.proofs.Common.{true, ap, sym, ◌∙◌}
use Rattle.mf_objects.specs.Live.{Entities}
use Rattle.mf_plan.specs.declared.state.State.{State}
use Rattle.mf_perform.specs.Effect.{after}
use Rattle.mf_audit.specs.declared.done.Effect.{Effect as Change}
use Rattle.mf_audit.specs.declared.done.Effect.TheVariants as does
use Rattle.mf_audit.specs.Ends.{effect_of}
use Rattle.mf_audit.proofs.kernel.Kernel.apply.Goals as goal

pub returns-in_ok-append-in-Append : goal.returns-in_ok-append-in-Append
returns-in_ok-append-in-Append c =
    let k = c.self.inside in
    let with_parties : Entities → State = λ o. record { objects = o; specs = k.listed; numbers = k.given; booted = true } in
    let of : State → Change → State = λ s e. after s c.args.me (effect_of s c.args.task.now c.args.me e) in
    ap with_parties c.in_ok-append-in-Append.ensures.ok
    ∙ ap (λ (s : State). of s (does.Append c.in-Append.id c.in-Append.text)) c.self.view_is
    ∙ sym (ap (of c.args.self.now) c.in-Append.is)

pub returns-in_ok-deliver-in-Deliver : goal.returns-in_ok-deliver-in-Deliver
returns-in_ok-deliver-in-Deliver c =
    let k = c.self-in-Deliver.inside in
    let with_parties : Entities → State = λ o. record { objects = o; specs = k.listed; numbers = k.given; booted = true } in
    let of : State → Change → State = λ s e. after s c.args.me (effect_of s c.args.task.now c.args.me e) in
    ap with_parties c.in_ok-deliver-in-Deliver.ensures.ok
    ∙ ap (λ (s : State). of s (does.Deliver c.in-Deliver.id c.in-Deliver.text)) c.self-in-Deliver.view_is
    ∙ sym (ap (of c.args.self.now) c.in-Deliver.is)

pub returns-in-SetMode : goal.returns-in-SetMode
returns-in-SetMode c =
    let k = c.self-in-SetMode.inside in
    let with_parties : Entities → State = λ o. record { objects = o; specs = k.listed; numbers = k.given; booted = true } in
    let of : State → Change → State = λ s e. after s c.args.me (effect_of s c.args.task.now c.args.me e) in
    ap with_parties c.set_mode.ensures
    ∙ ap (λ (s : State). of s (does.SetMode c.in-SetMode.id c.in-SetMode.mode)) c.self-in-SetMode.view_is
    ∙ sym (ap (of c.args.self.now) c.in-SetMode.is)

pub returns-in-Relabel : goal.returns-in-Relabel
returns-in-Relabel c =
    let of : State → Change → State = λ s e. after s c.args.me (effect_of s c.args.task.now c.args.me e) in
    c.relabel.ensures c.args.me ∙ sym (ap (of c.args.self.now) c.in-Relabel.is)

pub returns-in_ok-load-in-Load : goal.returns-in_ok-load-in-Load
returns-in_ok-load-in-Load c =
    let of : State → Change → State = λ s e. after s c.args.me (effect_of s c.args.task.now c.args.me e) in
    c.in_ok-load-in-Load.ensures c.args.me ∙ sym (ap (of c.args.self.now) c.in-Load.is)

pub returns-in-Unload : goal.returns-in-Unload
returns-in-Unload c =
    let of : State → Change → State = λ s e. after s c.args.me (effect_of s c.args.task.now c.args.me e) in
    c.unload.ensures c.args.me ∙ sym (ap (of c.args.self.now) c.in-Unload.is)

pub returns-in_ok-set-in-Set : goal.returns-in_ok-set-in-Set
returns-in_ok-set-in-Set c =
    let of : State → Change → State = λ s e. after s c.args.me (effect_of s c.args.task.now c.args.me e) in
    c.in_ok-set-in-Set.ensures c.args.me ∙ sym (ap (of c.args.self.now) c.in-Set.is)
