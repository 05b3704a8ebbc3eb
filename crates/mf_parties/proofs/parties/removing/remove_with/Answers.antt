use Rattle.std.proofs.Common.{rules, not}
use Rattle.std.proofs.lemmas.Fn.{filter_same}
use Rattle.mf_objects.specs.Live.{LiveEntity}
use Rattle.mf_objects.specs.Changes.{goes_with}
use Rattle.mf_parties.proofs.parties.removing.remove_with.Goals as goal

pub returns : goal.returns
returns c = filter_same _ (λ (e : LiveEntity). not (goes_with c.args.id e)) _ (λ x b g called. search rules) _ _ c.retain.ensures.filtered
