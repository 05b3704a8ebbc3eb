-- Changes of a label.
use Rattle.std.specs.Prelude.{ℕ, List, slice_set}
use Rattle.mf_elem.specs.declared.label.LabelValue.{LabelValue}
use Rattle.mf_objects.specs.Live.{LiveEntity}

abbrev pub with_value : ℕ → LabelValue → LiveEntity → LiveEntity
with_value slot value e = record e { label = slice_set e.label slot value }

abbrev pub with_label : List LabelValue → LiveEntity → LiveEntity
with_label values e = record e { label = values }
