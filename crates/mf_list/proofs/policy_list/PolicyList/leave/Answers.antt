use Rattle.std.proofs.Common.{◌≡◌, ◌∙◌, ◌++◌, ◌∷◌, [], ap, false, sym, subst}
use Rattle.mf_errno.specs.declared.module.Module.{Module}
use Rattle.mf_policy.specs.Registration.{Entry}
use Rattle.mf_list.specs.Lists.{in_catalogue}
use Rattle.mf_list.proofs.policy_list.PolicyList.leave.Goals as goal

pub put-requires-clause-absent : goal.put-requires-clause-absent
put-requires-clause-absent g c κs within =
    let of : c.take-listed.result.0.module ≡ c.args.wanted =
    ap (λ (entry : Entry). entry.0.module) (c.take-listed.ensures.value c.take-listed.result) ∙ c.requires.place.here c.take-listed.result in
    subst (λ (m : Module). in_catalogue m c.args.catalogue.now ≡ false) (sym (c.into_fresh.ensures.of ∙ of)) c.requires.absent

pub returns : goal.returns
returns g c =
    let of : c.take-listed.result.0.module ≡ c.args.wanted =
    ap (λ (entry : Entry). entry.0.module) (c.take-listed.ensures.value c.take-listed.result) ∙ c.requires.place.here c.take-listed.result in
    record {
      was_listed = c.requires.place.listed;
      entries = c.take-listed.ensures.entries ∙ c.requires.place.rest;
      modules = c.put.ensures ∙ ap (λ (m : Module). c.args.catalogue.now ++ m ∷ []) (c.into_fresh.ensures.of ∙ of);
    }
