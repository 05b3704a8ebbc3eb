-- How the views of a plan's checks are made and compared; inner contracts alone cite this.
use Rattle.std.specs.Prelude.{◌≡◌, ℕ, ◌-◌, ◌<◌, ◌==◌, if◌then◌else◌, List, ◌++◌, length, slice_index_or, Option, Some, None, option_map}
use Rattle.mf_elem.specs.declared.label.LabelValue.{LabelValue}
use Rattle.mf_elem.specs.declared.label.Request.{Request}
use Rattle.mf_item.specs.declared.view.SubjectView.{SubjectView}
use Rattle.mf_objects.specs.Live.{Entities}
use Rattle.mf_plan.specs.declared.outline.Check.{Check}
use Rattle.mf_plan.specs.declared.views.CheckView.{CheckView}
use Rattle.mf_plan.specs.Outline.{request_with, subject_in}
use Rattle.mf_plan.specs.Items.{nobody}
use Rattle.mf_plan.specs.Lowering.{with_slot}
use Rattle.mf_objects.specs.Lives.{view_at}

-- the view is that of the check, but for its subject
pub record IsViewOf (objects : Entities) (asked : Option Request) (check : Check) (seen : CheckView) : Type 0 where
  pub op : seen.op ≡ check.op
  pub object : seen.object ≡ option_map (view_at objects) check.object
  pub request : seen.request ≡ request_with asked check.op
  pub privilege : seen.privilege ≡ check.privilege
  pub port : seen.port ≡ check.port

-- the check has the subject of the one before
abbrev pub GoesOn : Option Check → Check → Type 0
GoesOn None check = ⊥
GoesOn (Some last) check = (check.caller ≡ last.caller) × (check.subject ≡ last.subject)

-- the last of the subjects is that of the check before
abbrev pub EndsWith : Entities → List SubjectView → Option Check → Type 0
EndsWith objects subjects None = Unit {0}
EndsWith objects subjects (Some last) =
    (0 < length subjects) × (slice_index_or subjects (length subjects - 1) nobody ≡ subject_in objects last)

-- the subject at the place is that of the check before
abbrev pub IsFoundAt : Entities → List SubjectView → Option Check → ℕ → Type 0
IsFoundAt objects subjects None place = Unit {0}
IsFoundAt objects subjects (Some last) place = slice_index_or subjects place nobody ≡ subject_in objects last

-- subjects were added at most
pub record GrowsTo (old new : List SubjectView) : Type 0 where
  pub rest : List SubjectView
  pub is : new ≡ old ++ rest

-- the subject while the caller has this value in the slot
abbrev pub while_caller : ℕ → ℕ → LabelValue → SubjectView → SubjectView
while_caller slot caller value subject = if subject.id == caller then with_slot slot value subject else subject

-- the subject is another than the caller, or has this value in the slot already
abbrev pub FindsItWith : ℕ → ℕ → LabelValue → SubjectView → Type 0
FindsItWith slot caller value subject = while_caller slot caller value subject ≡ subject
