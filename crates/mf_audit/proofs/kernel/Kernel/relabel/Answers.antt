use Rattle.std.proofs.Common.{List, true, ap, ◌∙◌}
use Rattle.mf_elem.specs.declared.label.LabelValue.{LabelValue}
use Rattle.mf_objects.specs.Changes.{with_change}
use Rattle.mf_objects.specs.Labels.{with_label}
use Rattle.mf_objects.specs.Live.{Entities}
use Rattle.mf_policy.specs.Relabelled.{relabelled}
use Rattle.mf_plan.specs.declared.state.State.{State}
use Rattle.mf_perform.specs.Effect.{with_request}
use Rattle.mf_audit.proofs.kernel.Kernel.relabel.Goals as goal

pub returns : goal.returns
returns c = λ me.
    let k = c.self.inside in
    let with_parties : Entities → State = λ o. record { objects = o; specs = k.listed; numbers = k.given; booted = true } in
    ap with_parties
    (c.relabel.ensures
    ∙ ap (λ (values : List LabelValue). with_change (with_label values) k.parties c.args.id)
    (c.relabelled-label.ensures ∙ ap (λ (values : List LabelValue). relabelled k.listed c.args.request.now values) c.label.ensures))
    ∙ ap (λ (s : State). with_request s (c.args.id, c.args.request.now)) c.self.view_is
