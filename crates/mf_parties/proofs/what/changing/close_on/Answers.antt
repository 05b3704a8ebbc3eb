use Rattle.std.proofs.Common.{rules, not}
use Rattle.std.proofs.lemmas.Fn.{filter_same}
use Rattle.mf_objects.specs.declared.descriptors.Fd.{Fd}
use Rattle.mf_objects.specs.Descriptors.{is_on}
use Rattle.mf_parties.proofs.what.changing.close_on.Goals as goal

pub returns : goal.returns
returns c = filter_same _ (λ (fd : Fd). not (is_on c.args.file fd)) _ (λ x b g called. search rules) _ _ c.retain.ensures.filtered
