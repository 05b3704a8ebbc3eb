-- A subject that stands for none yet: root without labels, with id 0.
use Rattle.std.specs.Prelude.{[], ◌∷◌}
use Rattle.mf_elem.specs.declared.label.LabelValue.TheVariants as label
use Rattle.mf_item.specs.declared.view.SubjectView.{SubjectView}

-- uid, real and saved uid and group 0, and no slot set
abbrev pub no_subject : SubjectView
no_subject = record {
  id = 0;
  cred = record { uid = 0; ruid = 0; svuid = 0; groups = 0 ∷ [] };
  label = label.Unset ∷ label.Unset ∷ label.Unset ∷ label.Unset ∷ [];
}
