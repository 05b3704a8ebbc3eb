use Rattle.std.proofs.Common.{rules, not}
use Rattle.std.proofs.lemmas.Fn.{filter_same}
use Rattle.mf_objects.specs.declared.descriptors.Fd.{Fd}
use Rattle.mf_objects.specs.Descriptors.{has_number}
use Rattle.mf_parties.proofs.what.changing.close.Goals as goal

pub returns : goal.returns
returns c = filter_same _ (λ (fd : Fd). not (has_number c.args.number fd)) _ (λ x b g called. search rules) _ _ c.retain.ensures.filtered
