-- The checks that a walk asks are those of the plans.
use Rattle.std.proofs.Common.{◌≡◌, Option, ap, ◌∙◌}
use Rattle.mf_elem.specs.declared.label.Request.{Request}
use Rattle.mf_item.specs.declared.view.SubjectView.{SubjectView}
use Rattle.mf_item.specs.Item.{Item}
use Rattle.mf_objects.specs.declared.id.Id.{Id}
use Rattle.mf_objects.specs.Live.{Entities}
use Rattle.mf_plan.specs.declared.outline.Check.{Check}
use Rattle.mf_plan.specs.declared.state.State.{State}
use Rattle.mf_plan.specs.Outline.{item_asking, subject_in}
use Rattle.mf_audit.specs.declared.walk.Asked.{Asked}
use Rattle.mf_audit.specs.declared.walk.Walk.{Walk}
use Rattle.mf_audit.specs.Asking.{asking, item_with, parts_of}

-- the check of a plan, by what was read for it
pub is_check : (o : Entities) (request : Option Request) (check : Check) (subject : SubjectView) (asked : Asked)
    → subject ≡ subject_in o check → asked ≡ parts_of o request check → item_with subject asked ≡ item_asking o request check
unfolding item_asking
is_check o request check subject asked is_subject is_asked =
    ap (λ (s : SubjectView). item_with s asked) is_subject ∙ ap (item_with (subject_in o check)) is_asked

-- the walk after it, of a kernel that is seen as this state
pub asked_so : (view s : State) → view ≡ s → (me : Id) (walk walk' : Walk) (item : Item) (request : Option Request) (check : Check)
    → walk' ≡ asking view.specs me walk item → item ≡ item_asking view.objects request check → walk' ≡ asking s.specs me walk (item_asking s.objects request check)
asked_so view s is me walk walk' item request check asked same =
    asked ∙ ap (λ (i : Item). asking view.specs me walk i) same ∙ ap (λ (x : State). asking x.specs me walk (item_asking x.objects request check)) is
