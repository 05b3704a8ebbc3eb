-- The rules for relabels, which Biba and MLS share: the tests in order, of which the first that fits answers. They are in the
-- manner of FreeBSD's two modules; their order, and that a range asked alone is to hold the present element, are this model's own choice.
use Rattle.std.specs.Option.{option_map_or, option_or}
use Rattle.std.specs.Prelude.{Bool, true, false, not, ◌&&◌, ◌||◌, if◌then◌else◌, Option, Some, None, is_some}
use Rattle.mf_errno.specs.declared.errno.Errno.{Errno}
use Rattle.mf_errno.specs.declared.errno.Errno.TheVariants.{Success, Einval, Eperm}
use Rattle.mf_elem.specs.declared.elem.Elem.{Elem}
use Rattle.mf_elem.specs.declared.label.RangeLabel.{RangeLabel}
use Rattle.mf_elem.specs.Elem.{in_range, is_equal, range_in_range}
use Rattle.mf_elem.specs.Label.{has_equal, is_privileged}

-- an element that is there lies outside the range; all lie outside where there is no range
abbrev pub is_outside : Option Elem → Option (Elem × Elem) → Bool
is_outside None range = false
is_outside (Some element) None = true
is_outside (Some element) (Some ends) = not (in_range element ends.0 ends.1)

-- a range that is there reaches out of the other
abbrev pub reaches_out : Option (Elem × Elem) → Option (Elem × Elem) → Bool
reaches_out None range = false
reaches_out (Some inner) None = true
reaches_out (Some inner) (Some ends) = not (range_in_range inner.0 inner.1 ends.0 ends.1)

-- the answer to a subject that asks for this label of its own
abbrev pub credential_relabel : RangeLabel → RangeLabel → Errno
credential_relabel subject asked =
    if is_some asked.range && is_outside (option_or asked.effective subject.effective) asked.range then Einval
    else if reaches_out asked.range subject.range || is_outside asked.effective subject.range then Eperm
    else if has_equal asked && not (is_privileged subject) then Eperm
    else Success

-- the answer to a subject that asks for this label of an object, whose element is the old one so far
abbrev pub object_relabel : RangeLabel → Elem → RangeLabel → Errno
object_relabel subject old asked =
    if is_some asked.range then Einval
    else if is_outside (Some old) subject.range || is_outside asked.effective subject.range then Eperm
    else if option_map_or is_equal asked.effective false && not (is_privileged subject) then Eperm
    else Success
