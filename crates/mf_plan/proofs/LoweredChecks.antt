-- What is so of the checks that a caller comes to while mac_lomac lowers it.
use Rattle.std.proofs.Common.{◌≡◌, ℕ, zero, suc, ◌<◌, Bool, true, false, cond, nat_eq, List, [], ◌∷◌, ◌++◌, length, take, map, set, get_or, Option, Some, None, refl, ap, ◌∙◌, arith}
use Rattle.std.specs.List.{AllByRecursion}
use Rattle.std.specs.Option.{option_map_or}
use Rattle.mf_elem.specs.declared.label.LabelValue.{LabelValue}
use Rattle.mf_item.specs.Item.{Item}
use Rattle.mf_objects.specs.declared.id.Id.{Id}
use Rattle.mf_objects.specs.Lives.{value_at}
use Rattle.mf_policy.specs.Answer.{object_slot}
use Rattle.mf_policy.specs.Lowering.{after_check, after_checks, lomac_slot, lowered_value, observes}
use Rattle.mf_policy.specs.Operations.{row_of}
use Rattle.mf_plan.specs.declared.state.State.{State}
use Rattle.mf_plan.specs.Lowering.{each_lowered, lowering, while_lowered, with_slot}
use Rattle.mf_plan.specs.Plan.{lowering_by}
use Rattle.mf_plan.specs.Planned.{Plan}

-- The caller's value after checks

same_after : (slot caller : ℕ) (value own : LabelValue) (item : Item) → after_check slot value (while_lowered slot caller own item) ≡ after_check slot value item
same_after slot caller value own item = one (nat_eq item.subject.id caller)
  where
    one : (b : Bool) → after_check slot value (cond b (record item { subject = with_slot slot own item.subject }) item) ≡ after_check slot value item
    one true = refl
    one false = refl

-- it is read from their operations and objects alone: after the checks as policies see them it is that after those of the row
pub same_afters : (slot caller : ℕ) (value own : LabelValue) (items : List Item)
    → after_checks slot value (each_lowered slot caller own items) ≡ after_checks slot value items
same_afters slot caller value own [] = refl
same_afters slot caller value own (item ∷ items) =
    ap (λ (v : LabelValue). after_checks slot v (each_lowered slot caller (after_check slot own item) items)) (same_after slot caller value own item)
    ∙ same_afters slot caller (after_check slot value item) (after_check slot own item) items

pub after_pushed : (slot : ℕ) (value : LabelValue) (items : List Item) (item : Item)
    → after_checks slot value (items ++ item ∷ []) ≡ after_check slot (after_checks slot value items) item
after_pushed slot value [] item = refl
after_pushed slot value (x ∷ items) item = after_pushed slot (after_check slot value x) items item

-- where no check moves anything to its subject, the caller keeps its value
pub none_observed : (slot : ℕ) (value : LabelValue) (items : List Item) → AllByRecursion (λ item. observes (row_of item.op).movement ≡ false) items
    → after_checks slot value items ≡ value
none_observed slot value [] none = refl
none_observed slot value (x ∷ items) none =
    ap (λ (b : Bool). after_checks slot (cond b (lowered_value value (object_slot x.object slot)) value) items) none.0 ∙ none_observed slot value items none.1

-- Checks one after another

-- one check more
pub each_pushed : (slot caller : ℕ) (value : LabelValue) (items : List Item) (item : Item)
    → each_lowered slot caller value (items ++ item ∷ [])
    ≡ each_lowered slot caller value items ++ while_lowered slot caller (after_checks slot value items) item ∷ []
each_pushed slot caller value [] item = refl
each_pushed slot caller value (x ∷ items) item =
    ap (λ (rest : List Item). while_lowered slot caller value x ∷ rest) (each_pushed slot caller (after_check slot value x) items item)

-- the first checks of those are those of the first
pub each_taken : (slot caller : ℕ) (value : LabelValue) (n : ℕ) (items : List Item)
    → take n (each_lowered slot caller value items) ≡ each_lowered slot caller value (take n items)
each_taken slot caller value zero items = refl
each_taken slot caller value (suc n) [] = refl
each_taken slot caller value (suc n) (x ∷ items) =
    ap (λ (rest : List Item). while_lowered slot caller value x ∷ rest) (each_taken slot caller (after_check slot value x) n items)

-- a check finds the caller as those before it leave it
pub each_at : (slot caller : ℕ) (value : LabelValue) (items : List Item) (n : ℕ) (d : Item) → n < length items
    → get_or (each_lowered slot caller value items) n d ≡ while_lowered slot caller (after_checks slot value (take n items)) (get_or items n d)
each_at slot caller value [] n d within = absurd (omega (arith, within))
each_at slot caller value (x ∷ items) zero d within = refl
each_at slot caller value (x ∷ items) (suc n) d within = each_at slot caller (after_check slot value x) items n d (omega (arith, within))

-- a caller that isn't lowered is seen as it is
pub put_back : {A : Type 0} (xs : List A) (k : ℕ) (d : A) → set xs k (get_or xs k d) ≡ xs
put_back [] k d = refl
put_back (x ∷ xs) zero d = refl
put_back (x ∷ xs) (suc k) d = ap (λ (ys : List _). x ∷ ys) (put_back xs k d)

-- there are as many
pub each_long : (slot caller : ℕ) (value : LabelValue) (items : List Item) → length (each_lowered slot caller value items) ≡ length items
each_long slot caller value [] = refl
each_long slot caller value (x ∷ items) = ap suc (each_long slot caller (after_check slot value x) items)

-- What is kept

-- the same check of the same subject, whose label may be another
pub record IsSameCheck (item other : Item) : Type 0 where
  pub op : item.op ≡ other.op
  pub id : item.subject.id ≡ other.subject.id
  pub cred : item.subject.cred ≡ other.subject.cred
  pub object : item.object ≡ other.object
  pub request : item.request ≡ other.request
  pub privilege : item.privilege ≡ other.privilege
  pub port : item.port ≡ other.port

pub while_same : (slot caller : ℕ) (value : LabelValue) (item : Item) → IsSameCheck (while_lowered slot caller value item) item
while_same slot caller value item = one (nat_eq item.subject.id caller)
  where
    one : (b : Bool) → IsSameCheck (cond b (record item { subject = with_slot slot value item.subject }) item) item
    one true = record { op = refl; id = refl; cred = refl; object = refl; request = refl; privilege = refl; port = refl }
    one false = record { op = refl; id = refl; cred = refl; object = refl; request = refl; privilege = refl; port = refl }

same_itself : (item : Item) → IsSameCheck item item
same_itself item = record { op = refl; id = refl; cred = refl; object = refl; request = refl; privilege = refl; port = refl }

-- the check in each place is the same
pub each_same : (slot caller : ℕ) (value : LabelValue) (items : List Item) (n : ℕ) (d : Item)
    → IsSameCheck (get_or (each_lowered slot caller value items) n d) (get_or items n d)
each_same slot caller value [] n d = same_itself d
each_same slot caller value (x ∷ items) zero d = while_same slot caller value x
each_same slot caller value (x ∷ items) (suc n) d = each_same slot caller (after_check slot value x) items n d

-- what is so of each check, and is read of no label of a subject, is so of each as it is lowered
pub each_all : (P : Item → Type 0) → ((item other : Item) → IsSameCheck item other → P other → P item) → (slot caller : ℕ) (value : LabelValue) (items : List Item)
    → AllByRecursion P items → AllByRecursion P (each_lowered slot caller value items)
each_all P moves slot caller value [] all = all
each_all P moves slot caller value (x ∷ items) all =
    (moves (while_lowered slot caller value x) x (while_same slot caller value x) all.0, each_all P moves slot caller (after_check slot value x) items all.1)

-- what is read of no label of a subject is the same of all
pub each_read : {A : Type 0} (read : Item → A) → ((item other : Item) → IsSameCheck item other → read item ≡ read other)
    → (slot caller : ℕ) (value : LabelValue) (items : List Item)
    → map read (each_lowered slot caller value items) ≡ map read items
each_read read same slot caller value [] = refl
each_read {A = A} read same slot caller value (x ∷ items) =
    λ k. same (while_lowered slot caller value x) x (while_same slot caller value x) k ∷ each_read read same slot caller (after_check slot value x) items k

-- The same of the checks of a caller in a state

module _ (s : State) (caller : Id) where
  abbrev by_slot : List Item → Option ℕ → List Item
  by_slot items slot = option_map_or (λ slot. each_lowered slot caller.0 (value_at s.objects caller slot) items) slot items

  pub lowering_long : (items : List Item) → length (lowering s caller items) ≡ length items
  lowering_long items = one (lomac_slot s.specs)
    where
      one : (slot : Option ℕ) → length (by_slot items slot) ≡ length items
      one None = refl
      one (Some slot) = each_long slot caller.0 (value_at s.objects caller slot) items

  pub lowering_taken : (n : ℕ) (items : List Item) → take n (lowering s caller items) ≡ lowering s caller (take n items)
  lowering_taken n items = one (lomac_slot s.specs)
    where
      one : (slot : Option ℕ) → take n (by_slot items slot) ≡ by_slot (take n items) slot
      one None = refl
      one (Some slot) = each_taken slot caller.0 (value_at s.objects caller slot) n items

  pub lowering_same : (items : List Item) (n : ℕ) (d : Item) → IsSameCheck (get_or (lowering s caller items) n d) (get_or items n d)
  lowering_same items n d = one (lomac_slot s.specs)
    where
      one : (slot : Option ℕ) → IsSameCheck (get_or (by_slot items slot) n d) (get_or items n d)
      one None = same_itself (get_or items n d)
      one (Some slot) = each_same slot caller.0 (value_at s.objects caller slot) items n d

  pub lowering_all : (P : Item → Type 0) → ((item other : Item) → IsSameCheck item other → P other → P item) → (items : List Item) → AllByRecursion P items
      → AllByRecursion P (lowering s caller items)
  lowering_all P moves items all = one (lomac_slot s.specs)
    where
      one : (slot : Option ℕ) → AllByRecursion P (by_slot items slot)
      one None = all
      one (Some slot) = each_all P moves slot caller.0 (value_at s.objects caller slot) items all

  pub lowering_read : {A : Type 0} (read : Item → A) → ((item other : Item) → IsSameCheck item other → read item ≡ read other) → (items : List Item)
      → map read (lowering s caller items) ≡ map read items
  lowering_read {A = A} read same items = one (lomac_slot s.specs)
    where
      one : (slot : Option ℕ) → map read (by_slot items slot) ≡ map read items
      one None = refl
      one (Some slot) = each_read read same slot caller.0 (value_at s.objects caller slot) items

-- and of a plan, whoever calls

module _ (s : State) where
  -- where mac_lomac isn't listed, each check finds its subject as it is in the state
  pub unlowered : (caller : Option Id) (plan : Plan) → lomac_slot s.specs ≡ None → lowering_by s caller plan ≡ plan
  unlowered None plan none = refl
  unlowered (Some me) plan none = ap (λ (slot : Option ℕ). let p : Plan = record plan { items = by_slot s me plan.items slot } in p) none

  pub plan_long : (caller : Option Id) (plan : Plan) → length (lowering_by s caller plan).items ≡ length plan.items
  plan_long None plan = refl
  plan_long (Some me) plan = lowering_long s me plan.items

  pub plan_same : (caller : Option Id) (plan : Plan) (n : ℕ) (d : Item) → IsSameCheck (get_or (lowering_by s caller plan).items n d) (get_or plan.items n d)
  plan_same None plan n d = same_itself (get_or plan.items n d)
  plan_same (Some me) plan n d = lowering_same s me plan.items n d

  pub plan_all : (P : Item → Type 0) → ((item other : Item) → IsSameCheck item other → P other → P item) → (caller : Option Id) (plan : Plan)
      → AllByRecursion P plan.items
      → AllByRecursion P (lowering_by s caller plan).items
  plan_all P moves None plan all = all
  plan_all P moves (Some me) plan all = lowering_all s me P moves plan.items all

  pub plan_read : {A : Type 0} (read : Item → A) → ((item other : Item) → IsSameCheck item other → read item ≡ read other) → (caller : Option Id) (plan : Plan)
      → map read (lowering_by s caller plan).items ≡ map read plan.items
  plan_read {A = A} read same None plan = refl
  plan_read {A = A} read same (Some me) plan = lowering_read s me read same plan.items
