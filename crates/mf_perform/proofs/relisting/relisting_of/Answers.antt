use Rattle.std.proofs.Common.{◌∙◌, ap}
use Rattle.std.specs.Prelude.{option_map}
use Rattle.mf_perform.specs.Relisting.{effect_in}
use Rattle.mf_perform.proofs.Loads.{relisting_is}
use Rattle.mf_perform.proofs.relisting.relisting_of.Goals as goal

pub returns-clause-tells : goal.returns-clause-tells
returns-clause-tells c = λ task me.
    let told = c.told_by.ensures.value task me in
    (told, λ change done. ap (option_map effect_in) told ∙ relisting_is c.args.state.now task me c.args.call.now change done)
