-- The items of a plan that is kept.
use Rattle.std.specs.Prelude.{◌<◌, List, [], length, map, All, slice_index_or}
use Rattle.mf_item.specs.Item.{Item}
use Rattle.mf_item.specs.declared.view.SubjectView.{SubjectView}
use Rattle.mf_objects.specs.Live.{no_cred}
use Rattle.mf_plan.specs.declared.views.CheckView.{CheckView}

-- what stands for a subject that isn't there; no check has it
abbrev pub nobody : SubjectView
nobody = record { id = 0; cred = no_cred; label = [] }

-- a check of these subjects, as policies see it
abbrev pub item_with : List SubjectView → CheckView → Item
item_with subjects check =
    record { op = check.op; subject = slice_index_or subjects check.subject nobody; object = check.object; request = check.request; privilege = check.privilege; port = check.port }

abbrev pub items_with : List SubjectView → List CheckView → List Item
items_with subjects checks = map (item_with subjects) checks

-- each check's subject is among these
abbrev pub HaveSubjects : List SubjectView → List CheckView → Type 0
HaveSubjects subjects checks = All (λ check. check.subject < length subjects) checks
