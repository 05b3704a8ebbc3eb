use Rattle.std.proofs.Common.{rules, not}
use Rattle.std.proofs.lemmas.Fn.{filter_same}
use Rattle.mf_objects.specs.Live.{LiveEntity, has_id}
use Rattle.mf_parties.proofs.parties.removing.remove.Goals as goal

pub returns : goal.returns
returns c = filter_same _ (λ (e : LiveEntity). not (has_id c.args.id e)) _ (λ x b g called. search rules) _ _ c.retain.ensures.filtered
