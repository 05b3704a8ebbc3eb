use Rattle.std.proofs.Common.{rules, ap, ◌∙◌, not}
use Rattle.std.proofs.lemmas.Fn.{filter_same}
use Rattle.mf_objects.specs.declared.descriptors.Fd.{Fd}
use Rattle.mf_objects.specs.Descriptors.{is_on, closed_on}
use Rattle.mf_objects.proofs.descriptors.Descriptors.close_on.Goals as goal

pub returns-clause-value : goal.returns-clause-value
returns-clause-value c =
    filter_same _ (λ (fd : Fd). not (is_on c.args.file fd)) _ (λ x b g called. search rules) _ _ c.retain.ensures.filtered
    ∙ ap (closed_on c.args.file) c.self.view_is
