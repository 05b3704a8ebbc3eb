-- A relabel that Biba or MLS allows leaves a label as subjects and as objects have it.
use Rattle.std.specs.Prelude.{◌≡◌, true, Some, None, is_some}
use Rattle.mf_errno.specs.declared.errno.Errno.TheVariants.{Success}
use Rattle.mf_elem.specs.declared.elem.Elem.{Elem}
use Rattle.mf_elem.specs.declared.label.RangeLabel.{RangeLabel}
use Rattle.mf_elem.specs.Label.{is_valid, replaced}
use Rattle.mf_policy.specs.Relabel.{credential_relabel, object_relabel}

-- a label as subjects have it: valid, with a range
pub record IsOfSubject (label : RangeLabel) : Type 0 where
  pub valid : is_valid label ≡ true
  pub has_range : is_some label.range ≡ true

-- a label as objects have it: with an effective element, and no range
pub record IsOfObject (label : RangeLabel) : Type 0 where
  pub has_effective : is_some label.effective ≡ true
  pub has_no_range : label.range ≡ None

-- The label of a subject stays one where the subject may take what it asks for.
abbrev pub SubjectsStayValid : Type 0
SubjectsStayValid =
    (label asked : RangeLabel) → IsOfSubject label → credential_relabel label asked ≡ Success → IsOfSubject (replaced label (Some asked))

-- The label of an object stays one where a subject may give it what it asks for.
abbrev pub ObjectsGetNoRange : Type 0
ObjectsGetNoRange =
    (subject label asked : RangeLabel) (old : Elem) → label.effective ≡ Some old → label.range ≡ None → object_relabel subject old asked ≡ Success
    → IsOfObject (replaced label (Some asked))
