use Rattle.mf_names.proofs.Texts.{none_left}
use Rattle.mf_names.proofs.path.Components.is_empty.Goals as goal

pub returns : goal.returns
returns c = rw (← c.self.view_is) (none_left c.self.inside.rest c.is_none.result c.is_none.ensures)
