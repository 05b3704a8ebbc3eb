use Rattle.std.proofs.Common.{List, ap, ◌∙◌}
use Rattle.mf_elem.specs.declared.label.LabelValue.{LabelValue}
use Rattle.mf_objects.specs.Live.{label_at}
use Rattle.mf_policy.specs.declared.labels.Origin.TheVariants.{Maker}
use Rattle.mf_policy.specs.NewLabels.{new_label}
use Rattle.mf_plan.specs.declared.state.State.{State}
use Rattle.mf_audit.proofs.kernel.Kernel.label_from.Goals as goal

pub returns : goal.returns
returns c =
    c.new_label.ensures
    ∙ ap (λ (label : List LabelValue). new_label c.self.inside.listed c.args.kind (Maker label)) c.label.ensures
    ∙ ap (λ (s : State). new_label s.specs c.args.kind (Maker (label_at s.objects c.args.maker))) c.self.view_is
