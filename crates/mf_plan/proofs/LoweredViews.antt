-- The views of a plan's checks, as the caller is lowered by one after another.
use Rattle.std.proofs.Common.{◌≡◌, ℕ, ◌+◌, ◌<◌, ◌≤◌, Bool, true, false, cond, nat_eq, List, [], ◌∷◌, ◌++◌, length, get_or, set, take, map, zero, suc, ◌||◌, Option, Some, None, refl, ap, sym, ◌∙◌, subst, arith}
use Rattle.std.specs.Prelude.{All, IfSome}
use Rattle.std.proofs.lemmas.List.{get_or-map, length-map, map_more, map_push, length-set, places, take_more_set}
use Rattle.std.proofs.lemmas.Bool.Decides.{nat_tests}
use Rattle.std.proofs.lemmas.List.Elements.{All-push}
use Rattle.mf_elem.specs.declared.label.LabelValue.{LabelValue}
use Rattle.mf_elem.specs.declared.label.LabelValue.TheVariants.{Unset}
use Rattle.mf_elem.specs.declared.label.Request.{Request}
use Rattle.mf_item.specs.declared.view.SubjectView.{SubjectView}
use Rattle.mf_item.specs.Item.{Item}
use Rattle.mf_objects.specs.declared.id.Id.{Id}
use Rattle.mf_objects.specs.Live.{Entities, label_at}
use Rattle.mf_objects.specs.Lives.{value_at}
use Rattle.mf_policy.specs.Lowering.{after_check, after_checks}
use Rattle.mf_plan.specs.declared.outline.Check.{Check}
use Rattle.mf_plan.specs.declared.views.CheckView.{CheckView}
use Rattle.mf_plan.specs.Items.{HaveSubjects, item_with, items_with, nobody}
use Rattle.mf_plan.specs.Lowering.{each_lowered, while_lowered, with_slot}
use Rattle.mf_plan.specs.Outline.{item_asking, subject_in}
use Rattle.mf_plan.specs.Viewing.{FindsItWith, GrowsTo, while_caller}
use Rattle.mf_plan.proofs.LoweredChecks.{after_pushed, each_pushed, put_back}
use Rattle.mf_plan.proofs.Viewing.{all_kept, longer}

same_id : (a b : Id) → nat_eq a.0 b.0 ≡ true → a ≡ b
same_id a b same = let number : a.0 ≡ b.0 = grind (arith, nat_tests) in ap (λ (n : ℕ). let id : Id = record { 0 = n } in id) number

-- checks as they lie in an outline find their caller as it is in the state
as_they_are : (objects : Entities) (asked : Option Request) (me : Id) (slot : ℕ) (checks : List Check)
    → All (λ item. FindsItWith slot me.0 (value_at objects me slot) item.subject) (map (item_asking objects asked) checks)
unfolding item_asking
as_they_are objects asked me slot [] n d within = absurd (omega (arith, within))
as_they_are objects asked me slot (check ∷ checks) zero d within = one (nat_eq check.subject.0 me.0) refl
  where
    s : SubjectView
    s = subject_in objects check

    one : (b : Bool) → nat_eq check.subject.0 me.0 ≡ b → cond b (with_slot slot (value_at objects me slot) s) s ≡ s
    one false other = refl
    one true same =
        ap (λ (id : Id). let now : SubjectView = with_slot slot (value_at objects id slot) s in now) (sym (same_id check.subject me same))
        ∙ ap (λ (label : List LabelValue). let now : SubjectView = record s { label = label } in now) (put_back (label_at objects check.subject) slot Unset)
as_they_are objects asked me slot (check ∷ checks) (suc n) d within = as_they_are objects asked me slot checks n d (omega (arith, within))

pub all_as_they_are : (objects : Entities) (asked : Option Request) (caller : Option Id) (checks : List Check) (items : List Item)
    → items ≡ map (item_asking objects asked) checks
    → IfSome caller (λ me. (slot : ℕ) → All (λ item. FindsItWith slot me.0 (value_at objects me slot) item.subject) items)
all_as_they_are objects asked None checks items is = tt
all_as_they_are objects asked (Some me) checks items is =
    λ slot. subst (λ (items : List Item). All (λ item. FindsItWith slot me.0 (value_at objects me slot) item.subject) items) (sym is) (as_they_are objects asked me slot checks)

-- so many checks find the caller as lowered; the others are as they were
pub record IsLowered (slot caller : ℕ) (own : LabelValue) (subjects0 : List SubjectView) (checks0 : List CheckView) (done : ℕ)
    (subjects : List SubjectView) (checks : List CheckView) (value : LabelValue) (is_lowered : Bool) : Type 0 where
  pub items : items_with subjects (take done checks) ≡ each_lowered slot caller own (items_with subjects0 (take done checks0))
  pub value_is : value ≡ after_checks slot own (items_with subjects0 (take done checks0))
  pub have : HaveSubjects subjects (take done checks)
  pub rest : (k : ℕ) (d : CheckView) → done ≤ k → get_or checks k d ≡ get_or checks0 k d
  pub grows : GrowsTo subjects0 subjects
  pub few : length subjects ≤ length subjects0 + done
  pub long : length checks ≡ length checks0
  -- until it is lowered the caller has what it had at first
  pub first : is_lowered ≡ false → value ≡ own

joined : (xs ys zs : List SubjectView) → (xs ++ ys) ++ zs ≡ xs ++ (ys ++ zs)
joined [] ys zs = refl
joined (x ∷ xs) ys zs = ap (λ (l : List SubjectView). x ∷ l) (joined xs ys zs)

neither : (a b : Bool) → (a || b) ≡ false → (a ≡ false) × (b ≡ false)
neither false b none = (refl, none)
neither true b none = absurd (cc none)

-- a check that has yet to be lowered has the subject that it had at first
pub own_subject : (slot caller : ℕ) (own : LabelValue) (subjects0 : List SubjectView) (checks0 : List CheckView) (done : ℕ)
    (subjects : List SubjectView) (checks : List CheckView) (value : LabelValue) (is_lowered : Bool) (d : CheckView)
    → HaveSubjects subjects0 checks0 → done < length checks
    → IsLowered slot caller own subjects0 checks0 done subjects checks value is_lowered
    → get_or subjects (get_or checks done d).subject nobody ≡ get_or subjects0 (get_or checks0 done d).subject nobody
own_subject slot caller own subjects0 checks0 done subjects checks value is_lowered d have0 within so =
    ap (λ (c : CheckView). get_or subjects c.subject nobody) (so.rest done d (omega arith))
    ∙ ap (λ (s : List SubjectView). get_or s (get_or checks0 done d).subject nobody) so.grows.is
    ∙ first
  where
    first : get_or (subjects0 ++ so.grows.rest) (get_or checks0 done d).subject nobody ≡ get_or subjects0 (get_or checks0 done d).subject nobody
    first = let fits = have0 done d (omega (arith, within, so.long)) in grind (arith, places)

-- and until the caller is lowered, that finds it with the value that it has
pub finds_it : (slot caller : ℕ) (own : LabelValue) (subjects0 : List SubjectView) (checks0 : List CheckView) (done : ℕ)
    (subjects : List SubjectView) (checks : List CheckView) (value : LabelValue) (is_lowered : Bool) (d : CheckView)
    → HaveSubjects subjects0 checks0 → All (λ item. FindsItWith slot caller own item.subject) (items_with subjects0 checks0) → done < length checks
    → IsLowered slot caller own subjects0 checks0 done subjects checks value is_lowered → is_lowered ≡ false
    → FindsItWith slot caller value (get_or subjects (get_or checks done d).subject nobody)
finds_it slot caller own subjects0 checks0 done subjects checks value is_lowered d have0 finds within so none =
    subst (λ (s : SubjectView). FindsItWith slot caller value s) (sym (own_subject slot caller own subjects0 checks0 done subjects checks value is_lowered d have0 within so))
    (subst (λ (v : LabelValue). FindsItWith slot caller v (get_or subjects0 (get_or checks0 done d).subject nobody)) (sym (so.first none)) there)
  where
    long : done < length checks0
    long = omega (arith, within, so.long)

    there : FindsItWith slot caller own (get_or subjects0 (get_or checks0 done d).subject nobody)
    there =
        subst (λ (item : Item). FindsItWith slot caller own item.subject) (get_or-map (item_with subjects0) checks0 done d (item_with subjects0 d) long)
        (finds done (item_with subjects0 d) (subst (λ n. done < n) (sym (length-map checks0 (item_with subjects0))) long))

-- a check with this subject is that of the caller so far
seen : (slot caller : ℕ) (value : LabelValue) (subjects subjects' : List SubjectView) (check : CheckView) (at : ℕ)
    → get_or subjects' at nobody ≡ while_caller slot caller value (get_or subjects check.subject nobody)
    → item_with subjects' (record check { subject = at }) ≡ while_lowered slot caller value (item_with subjects check)
seen slot caller value subjects subjects' check at is = ap by is ∙ one (nat_eq s.id caller)
  where
    s : SubjectView
    s = get_or subjects check.subject nobody

    by : SubjectView → Item
    by subject = record { op = check.op; subject = subject; object = check.object; request = check.request; privilege = check.privilege; port = check.port }

    one : (b : Bool) → by (cond b (with_slot slot value s) s) ≡ cond b (by (with_slot slot value s)) (by s)
    one true = refl
    one false = refl

pub one_more : (slot caller : ℕ) (own : LabelValue) (subjects0 : List SubjectView) (checks0 : List CheckView) (done : ℕ)
    (subjects subjects' : List SubjectView) (checks : List CheckView) (value value' : LabelValue) (was lowers : Bool) (d : CheckView) (at : ℕ) → HaveSubjects subjects0 checks0 → done < length checks
    → get_or subjects' at nobody ≡ while_caller slot caller value (get_or subjects (get_or checks done d).subject nobody)
    → at < length subjects' → GrowsTo subjects subjects'
    → length subjects' ≤ length subjects + 1
    → ((ss : List SubjectView) → value' ≡ after_check slot value (item_with ss (record (get_or checks done d) { subject = at })))
    → (lowers ≡ false → value' ≡ value)
    → IsLowered slot caller own subjects0 checks0 done subjects checks value was
    → IsLowered slot caller own subjects0 checks0 (done + 1) subjects' (set checks done (record (get_or checks done d) { subject = at })) value' (was || lowers)
one_more slot caller own subjects0 checks0 done subjects subjects' checks value value' was lowers d at have0 within shows below grows few after same so =
    record {
      items = ap (items_with subjects') is_set ∙ map_push (item_with subjects') (take done checks) view ∙ pushed
          ∙ sym (each_pushed slot caller own before x) ∙ ap (each_lowered slot caller own) (sym more);
      value_is = after subjects0 ∙ ap (λ (c : CheckView). after_check slot value (item_with subjects0 (record c { subject = at }))) check_is
          ∙ ap (λ (v : LabelValue). after_check slot v x) so.value_is ∙ sym (after_pushed slot own before x) ∙ ap (after_checks slot own) (sym more);
      have = subst (HaveSubjects subjects') (sym is_set) (All-push (λ (c : CheckView). c.subject < length subjects') (take done checks) view still below);
      rest = λ k e later. other k e later ∙ so.rest k e (omega (arith, later));
      grows = record { rest = so.grows.rest ++ grows.rest; is = grows.is ∙ ap (λ (s : List SubjectView). s ++ grows.rest) so.grows.is ∙ grouped };
      few = omega (arith, few, so.few);
      long = length-set checks done view ∙ so.long;
      first = λ none. same (neither was lowers none).1 ∙ so.first (neither was lowers none).0;
    }
  where
    check : CheckView
    check = get_or checks done d

    view : CheckView
    view = record check { subject = at }

    before : List Item
    before = items_with subjects0 (take done checks0)

    x : Item
    x = item_with subjects0 (get_or checks0 done d)

    check_is : get_or checks done d ≡ get_or checks0 done d
    check_is = so.rest done d (omega arith)

    more : items_with subjects0 (take (done + 1) checks0) ≡ before ++ x ∷ []
    more = map_more (item_with subjects0) checks0 done d (omega (arith, within, so.long))

    is_set : take (done + 1) (set checks done view) ≡ take done checks ++ view ∷ []
    is_set = take_more_set checks done view within

    still : HaveSubjects subjects' (take done checks)
    still = subst (λ (s : List SubjectView). HaveSubjects s (take done checks)) (sym grows.is) (longer subjects grows.rest (take done checks) so.have)

    old : items_with subjects' (take done checks) ≡ each_lowered slot caller own before
    old = ap (λ (s : List SubjectView). items_with s (take done checks)) grows.is ∙ all_kept subjects grows.rest (take done checks) so.have ∙ so.items

    new : item_with subjects' view ≡ while_lowered slot caller (after_checks slot own before) x
    new =
        ap (λ (c : CheckView). item_with subjects' (record c { subject = at })) check_is
        ∙ seen slot caller value subjects0 subjects' (get_or checks0 done d) at (shows ∙ ap (while_caller slot caller value) (own_subject slot caller own subjects0 checks0 done subjects checks value was d have0 within so))
        ∙ ap (λ (v : LabelValue). while_lowered slot caller v x) so.value_is

    pushed : items_with subjects' (take done checks) ++ item_with subjects' view ∷ []
        ≡ each_lowered slot caller own before ++ while_lowered slot caller (after_checks slot own before) x ∷ []
    pushed = λ k. old k ++ new k ∷ []

    other : (k : ℕ) (e : CheckView) → done + 1 ≤ k → get_or (set checks done view) k e ≡ get_or checks k e
    other k e later = grind (arith, places)

    grouped : (subjects0 ++ so.grows.rest) ++ grows.rest ≡ subjects0 ++ (so.grows.rest ++ grows.rest)
    grouped = joined subjects0 so.grows.rest grows.rest
