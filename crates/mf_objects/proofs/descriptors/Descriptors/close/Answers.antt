use Rattle.std.proofs.Common.{rules, ap, ◌∙◌, not}
use Rattle.std.proofs.lemmas.Fn.{filter_same}
use Rattle.mf_objects.specs.declared.descriptors.Fd.{Fd}
use Rattle.mf_objects.specs.Descriptors.{has_number, closed}
use Rattle.mf_objects.proofs.descriptors.Descriptors.close.Goals as goal

pub returns-clause-value : goal.returns-clause-value
returns-clause-value c =
    filter_same _ (λ (fd : Fd). not (has_number c.args.number fd)) _ (λ x b g called. search rules) _ _ c.retain.ensures.filtered
    ∙ ap (closed c.args.number) c.self.view_is
