-- Of one entity: its label where it was found, and the change of the one of an id.
use Rattle.std.specs.Option.{option_map_or}
use Rattle.std.specs.Prelude.{List, [], Option, if◌then◌else◌}
use Rattle.mf_elem.specs.declared.label.LabelValue.{LabelValue}
use Rattle.mf_objects.specs.declared.id.Id.{Id}
use Rattle.mf_objects.specs.Live.{LiveEntity, has_id}

abbrev pub label_of : Option LiveEntity → List LabelValue
label_of found = option_map_or (λ e. e.label) found []

abbrev pub changed_at : (LiveEntity → LiveEntity) → Id → LiveEntity → LiveEntity
changed_at change id e = if has_id id e then change e else e
