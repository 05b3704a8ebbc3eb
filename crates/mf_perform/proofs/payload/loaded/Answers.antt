use Rattle.std.proofs.Common.{List, ◌∷◌, [], ◌++◌, ap, arith, ◌∙◌}
use Rattle.mf_plan.specs.declared.reply.Loaded.{Loaded}
use Rattle.mf_perform.proofs.Entries.{loaded_more}
use Rattle.mf_perform.proofs.payload.loaded.Goals as goal

pub loop-place-preserved : goal.loop-place-preserved
loop-place-preserved c =
    let r = c.registration-registration.result in
    c.push.ensures ∙ ap (λ (ms : List Loaded). ms ++ record { «module» = r.module; slot = r.slot } ∷ []) c.loop-place.invariant
    ∙ loaded_more c.args.specs.now c.loop-place.place r (omega arith) c.registration-registration.ensures
