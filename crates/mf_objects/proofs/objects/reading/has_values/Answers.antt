use Rattle.mf_objects.proofs.Compared.{same_values}
use Rattle.mf_objects.proofs.objects.reading.has_values.Goals as goal

pub returns : goal.returns
returns c = same_values c.args.zones.now c.args.label.now c.args.values.now c.holds.result c.told-values c.holds.ensures
