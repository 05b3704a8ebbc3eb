-- What a range label says of its subject, which label is valid, and what a label text can ask for: ranges and the privilege of a subject are those
-- of mac_biba(4) and mac_mls(4).
use Rattle.std.specs.Option.{option_map_or, option_or}
use Rattle.std.specs.Prelude.{Bool, true, false, ◌&&◌, ◌||◌, Option, Some, None, is_none}
pub use Rattle.mf_elem.specs.Elem.{is_equal}
use Rattle.mf_elem.specs.Elem.{in_range, is_plain, range_in_range}
use Rattle.mf_elem.specs.declared.elem.Elem.{Elem}
use Rattle.mf_elem.specs.declared.elem.Elem.TheVariants.{Low, High}
use Rattle.mf_elem.specs.declared.label.RangeLabel.{RangeLabel}
use Rattle.mf_elem.specs.declared.label.Request.{Request}

abbrev pub has_equal : RangeLabel → Bool
has_equal label = option_map_or is_equal label.effective false || option_map_or (λ ends. is_equal ends.0 || is_equal ends.1) label.range false

-- A subject with this label is privileged, since some part is `equal`, or its range goes from low to high: it may ask for `equal` in a
-- relabel, and mac_biba lets it load modules. Privilege alone doesn't exempt it from the other checks.
abbrev pub is_privileged : RangeLabel → Bool
is_privileged label = has_equal label || option_map_or (λ ends. range_in_range Low High ends.0 ends.1) label.range false

-- the effective element is there, and lies in the range where that is there too
abbrev pub is_valid : RangeLabel → Bool
is_valid label = option_map_or (λ element. option_map_or (λ ends. in_range element ends.0 ends.1) label.range true) label.effective false

-- the label with an effective element and no range
abbrev pub element_alone : Elem → RangeLabel
element_alone element = record { effective = Some element; range = None }

-- a label of mac_lomac: an element without compartments, and no range
abbrev pub is_plain_label : RangeLabel → Bool
is_plain_label label = option_map_or is_plain label.effective false && is_none label.range

abbrev pub no_request : Request
no_request = record { biba = None; mls = None; lomac = None; partition = None; other = false }

-- the label with the parts that are given in place of its own
abbrev pub replaced : RangeLabel → Option RangeLabel → RangeLabel
replaced label None = label
replaced label (Some given) = record { effective = option_or given.effective label.effective; range = option_or given.range label.range }
