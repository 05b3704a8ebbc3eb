use Rattle.std.proofs.Common.{rules, List, ap, ◌∙◌, not, nat_eq}
use Rattle.std.specs.Prelude.{filter}
use Rattle.std.proofs.lemmas.Fn.{filter_same}
use Rattle.mf_objects.specs.declared.id.Id.{Id}
use Rattle.mf_objects.proofs.index.Bucket.remove.Goals as goal

pub returns : goal.returns
returns c =
    let others : List Id → List Id = filter (λ (other : Id). not (nat_eq other.0 c.args.id.0)) in
    filter_same _ (λ (other : Id). not (nat_eq other.0 c.args.id.0)) _ (λ x b g called. search rules) _ _ c.retain.ensures.filtered ∙ ap others c.self.view_is
