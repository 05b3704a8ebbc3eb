use Rattle.mf_list.proofs.Places.{entry_from_position}
use Rattle.mf_list.proofs.entries.Entries.place_of.Goals as goal

pub returns : goal.returns
returns g c = entry_from_position c.args.wanted c.args.self.now c.position_of.result c.position_of.ensures
