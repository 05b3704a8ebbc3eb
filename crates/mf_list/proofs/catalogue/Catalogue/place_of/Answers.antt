use Rattle.mf_list.proofs.Places.{module_from_position}
use Rattle.mf_list.proofs.catalogue.Catalogue.place_of.Goals as goal

pub returns : goal.returns
returns g c = module_from_position c.args.wanted c.args.self.now c.position_of.result c.position_of.ensures
