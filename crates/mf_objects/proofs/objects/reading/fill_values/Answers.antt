use Rattle.mf_objects.proofs.Compared.{shown_values}
use Rattle.mf_objects.proofs.objects.reading.fill_values.Goals as goal

pub returns : goal.returns
returns c = shown_values c.args.zones.now c.args.label.now c.fill.new.values c.fill.array_long c.fill.ensures
