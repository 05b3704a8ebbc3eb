-- The views of a plan's checks, as they are filled in.
use Rattle.std.proofs.Common.{◌≡◌, ℕ, suc, ◌+◌, ◌<◌, ◌≤◌, List, [], ◌∷◌, ◌++◌, Option, Some, length, get_or, set, take, map, refl, ap, sym, ◌∙◌, subst, length-append, arith}
use Rattle.std.specs.Prelude.{Bool, true, false, IsTrue}
use Rattle.std.proofs.lemmas.List.{map_more, map_push, get_or-map, length-set, places, take_more_set}
use Rattle.std.proofs.lemmas.List.Elements.{All-push}
use Rattle.mf_elem.specs.declared.label.Request.{Request}
use Rattle.mf_item.specs.declared.view.SubjectView.{SubjectView}
use Rattle.mf_item.specs.Item.{Item}
use Rattle.mf_objects.specs.Live.{Entities}
use Rattle.mf_plan.specs.declared.outline.Check.{Check}
use Rattle.mf_plan.specs.declared.views.CheckView.{CheckView}
use Rattle.mf_plan.specs.Outline.{item_asking, subject_in}
use Rattle.mf_plan.specs.Items.{HaveSubjects, item_with, items_with, nobody}
use Rattle.mf_plan.specs.Viewing.{EndsWith, GrowsTo, IsViewOf}

-- so many checks are filled in
pub record IsFilled (objects : Entities) (asked : Option Request) (checks : List Check) (done : ℕ) (subjects : List SubjectView) (seen : List CheckView) (last : Option Check) : Type 0 where
  pub items : items_with subjects (take done seen) ≡ map (item_asking objects asked) (take done checks)
  pub subjects_of : HaveSubjects subjects (take done seen)
  pub few : length subjects ≤ done + 1
  pub ends : EndsWith objects subjects last
  pub room : length checks ≤ length seen

-- a check keeps its subject as subjects are added
kept : (subjects rest : List SubjectView) (check : CheckView) → check.subject < length subjects → item_with (subjects ++ rest) check ≡ item_with subjects check
kept subjects rest check within =
    ap (λ (s : SubjectView). let i : Item = record { op = check.op; subject = s; object = check.object; request = check.request; privilege = check.privilege; port = check.port } in i) at
  where
    at : get_or (subjects ++ rest) check.subject nobody ≡ get_or subjects check.subject nobody
    at = grind (arith, places)

pub all_kept : (subjects rest : List SubjectView) (seen : List CheckView) → HaveSubjects subjects seen → items_with (subjects ++ rest) seen ≡ items_with subjects seen
all_kept subjects rest [] have = refl
all_kept subjects rest (check ∷ seen) have =
    (λ k. kept subjects rest check (have 0 check (omega arith)) k ∷ all_kept subjects rest seen (λ i d below. have (suc i) d (omega arith)) k)

pub longer : (subjects rest : List SubjectView) (seen : List CheckView) → HaveSubjects subjects seen → HaveSubjects (subjects ++ rest) seen
longer subjects rest seen have = λ k d below. omega (arith, have k d below, length-append subjects rest)

-- the view of a check, as policies see it
asked_item : (objects : Entities) (asked : Option Request) (check : Check) (subjects : List SubjectView) (view : CheckView) → IsViewOf objects asked check view
    → get_or subjects view.subject nobody ≡ subject_in objects check → item_with subjects view ≡ item_asking objects asked check
unfolding item_asking
asked_item objects asked check subjects view is subject =
    λ k. record { op = is.op k; subject = subject k; object = is.object k; request = is.request k; privilege = is.privilege k; port = is.port k }

pub one_more : (objects : Entities) (asked : Option Request) (checks : List Check) (done : ℕ) (subjects subjects' : List SubjectView) (seen : List CheckView) (last : Option Check)
    (d : Check) (view : CheckView) (place : ℕ)
    → IsFilled objects asked checks done subjects seen last → done < length checks → GrowsTo subjects subjects'
    → view.subject ≡ place → place < length subjects' → get_or subjects' place nobody ≡ subject_in objects (get_or checks done d) → IsViewOf objects asked (get_or checks done d) view
    → EndsWith objects subjects' (Some (get_or checks done d)) → length subjects' ≤ length subjects + 1
    → IsFilled objects asked checks (done + 1) subjects' (set seen done view) (Some (get_or checks done d))
one_more objects asked checks done subjects subjects' seen last d view place filled within grows at below shows is ends few =
    record {
      items = ap (items_with subjects') is_set ∙ pushed ∙ more ∙ sym (map_more (item_asking objects asked) checks done d within);
      subjects_of = subst (HaveSubjects subjects') (sym is_set) (All-push (λ (c : CheckView). c.subject < length subjects') (take done seen) view still sits);
      few = omega (arith, filled.few, few);
      ends = ends;
      room = room;
    }
  where
    check : Check
    check = get_or checks done d

    sits : view.subject < length subjects'
    sits = subst (λ (n : ℕ). n < length subjects') (sym at) below

    subject : get_or subjects' view.subject nobody ≡ subject_in objects check
    subject = subst (λ (n : ℕ). get_or subjects' n nobody ≡ subject_in objects check) (sym at) shows

    -- the view is put behind those that are filled in
    is_set : take (done + 1) (set seen done view) ≡ take done seen ++ view ∷ []
    is_set = take_more_set seen done view (omega (arith, filled.room, within))

    room : length checks ≤ length (set seen done view)
    room = omega (arith, filled.room, length-set seen done view)

    still : HaveSubjects subjects' (take done seen)
    still = subst (λ (s : List SubjectView). HaveSubjects s (take done seen)) (sym grows.is) (longer subjects grows.rest (take done seen) filled.subjects_of)

    old : items_with subjects' (take done seen) ≡ map (item_asking objects asked) (take done checks)
    old = ap (λ (s : List SubjectView). items_with s (take done seen)) grows.is ∙ all_kept subjects grows.rest (take done seen) filled.subjects_of ∙ filled.items

    pushed : items_with subjects' (take done seen ++ view ∷ []) ≡ items_with subjects' (take done seen) ++ item_with subjects' view ∷ []
    pushed = map_push (item_with subjects') (take done seen) view

    more : items_with subjects' (take done seen) ++ item_with subjects' view ∷ [] ≡ map (item_asking objects asked) (take done checks) ++ item_asking objects asked check ∷ []
    more = λ k. old k ++ asked_item objects asked check subjects' view is subject k ∷ []

-- where one check is seen otherwise, all together are
pub view_differs : {A B : Type 0} (view : A → Item) (other_view : B → Item) (seen : List A) (checks : List B) (i : ℕ) (dv : A) (dc : B) (is : Bool)
    → length seen ≡ length checks → i < length checks → is ≡ false → (view (get_or seen i dv) ≡ other_view (get_or checks i dc) → IsTrue is)
    → map view seen ≡ map other_view checks → IsTrue false
view_differs view other_view seen checks i dv dc true long within differs holds same = cc differs
view_differs view other_view seen checks i dv dc false long within differs holds same =
    holds (sym (get_or-map view seen i dv other (omega (arith, long, within)))
    ∙ ap (λ (items : List Item). get_or items i other) same
    ∙ get_or-map other_view checks i dc other within)
  where
    other : Item
    other = other_view (get_or checks i dc)
