-- Values of a label slot that are put down and put back.
use Rattle.std.proofs.Common.{◌≡◌, ℕ, ◌+◌, zero, suc, Bool, true, false, cond, List, [], ◌∷◌, Option, Some, None, map, get_or, set, refl, ap, sym, ◌∙◌, arith}
use Rattle.std.specs.Prelude.{find, slice_index_or}
use Rattle.mf_elem.specs.declared.label.LabelValue.{LabelValue}
use Rattle.mf_elem.specs.declared.label.LabelValue.TheVariants.{Unset, Range, Number}
use Rattle.mf_item.specs.Item.{Item}
use Rattle.mf_objects.specs.declared.id.Id.{Id}
use Rattle.mf_objects.specs.Live.{LiveEntity, Entities, has_id, is_set, live_at}
use Rattle.mf_objects.specs.Lives.{value_at}
use Rattle.mf_objects.specs.Labels.{with_value}
use Rattle.mf_objects.specs.Changes.{with_change}
use Rattle.mf_objects.specs.Population.{IsRising}
use Rattle.mf_objects.proofs.Entities.{changed_at, label_of}
use Rattle.mf_objects.proofs.Finding.{find_before}
use Rattle.mf_objects.proofs.Rising.{id_is}
use Rattle.mf_policy.specs.Answer.{object_slot}
use Rattle.mf_policy.specs.Lowering.{after_check, after_checks, lowered_value, observes}
use Rattle.mf_policy.specs.Operations.{row_of}
use Rattle.mf_plan.proofs.LoweredChecks.{put_back as own_value}

-- the second of two values stays
last_value : {A : Type 0} (xs : List A) (k : ℕ) (a b : A) → set (set xs k a) k b ≡ set xs k b
last_value [] k a b = refl
last_value (x ∷ xs) zero a b = refl
last_value (x ∷ xs) (suc k) a b = ap (λ (ys : List _). x ∷ ys) (last_value xs k a b)

own_entity : (slot : ℕ) (value : LabelValue) (id : Id) (least next : ℕ) (es : List LiveEntity) → IsRising least next es
    → ((e : LiveEntity) → find (has_id id) es ≡ Some e → value ≡ slice_index_or e.label slot Unset) → map (changed_at (with_value slot value) id) es ≡ es
own_entity slot value id least next [] rising own = refl
own_entity slot value id least next (e ∷ es) rising own =
    one (has_id id e) refl (λ later. own_entity slot value id (e.id.0 + 1) next es rising.1 later) own
  where
    one : (b : Bool) → has_id id e ≡ b
        → (((x : LiveEntity) → find (has_id id) es ≡ Some x → value ≡ slice_index_or x.label slot Unset) → map (changed_at (with_value slot value) id) es ≡ es)
        → ((x : LiveEntity) → cond b (Some e) (find (has_id id) es) ≡ Some x → value ≡ slice_index_or x.label slot Unset)
        → cond b (with_value slot value e) e ∷ map (changed_at (with_value slot value) id) es ≡ e ∷ es
    one true hit later own =
        let none : find (has_id id) es ≡ None = find_before id (e.id.0 + 1) next es (omega (arith, id_is id e hit)) rising.1 in
        let rest : map (changed_at (with_value slot value) id) es ≡ es = later (λ x found. cc (sym none ∙ found)) in
        let here : with_value slot value e ≡ e =
        ap (λ (v : LabelValue). with_value slot v e) (own e refl)
        ∙ ap (λ (label : List LabelValue). let x : LiveEntity = record e { label = label } in x) (own_value e.label slot Unset) in
        (λ k. here k ∷ rest k)
    one false miss later own = ap (λ (xs : List LiveEntity). e ∷ xs) (later own)

found_value : (o : Entities) (id : Id) (slot : ℕ) (e : LiveEntity) → live_at o id ≡ Some e → value_at o id slot ≡ slice_index_or e.label slot Unset
found_value o id slot e found = ap (λ (at : Option LiveEntity). slice_index_or (label_of at) slot Unset) found

-- an entity that gets the value that it has
pub with_own : (o : Entities) (id : Id) (slot : ℕ) (value : LabelValue) → IsRising 0 o.next o.live → value ≡ value_at o id slot
    → with_change (with_value slot value) o id ≡ o
with_own o id slot value rising own =
    ap (λ (live : List LiveEntity). let x : Entities = record o { live = live } in x)
    (own_entity slot value id 0 o.next o.live rising (λ e found. own ∙ found_value o id slot e found))

twice : (slot : ℕ) (first second : LabelValue) (id : Id) (es : List LiveEntity)
    → map (changed_at (with_value slot second) id) (map (changed_at (with_value slot first) id) es) ≡ map (changed_at (with_value slot second) id) es
twice slot first second id [] = refl
twice slot first second id (e ∷ es) = (λ k. one (has_id id e) refl k ∷ twice slot first second id es k)
  where
    one : (b : Bool) → has_id id e ≡ b → changed_at (with_value slot second) id (cond b (with_value slot first e) e) ≡ cond b (with_value slot second e) e
    one true hit =
        ap (λ (b : Bool). cond b (with_value slot second (with_value slot first e)) (with_value slot first e)) hit
        ∙ ap (λ (label : List LabelValue). let x : LiveEntity = record e { label = label } in x) (last_value e.label slot first second)
    one false miss = ap (λ (b : Bool). cond b (with_value slot second e) e) miss

-- the old value, put back
pub put_back : (o : Entities) (id : Id) (slot : ℕ) (value own : LabelValue) → IsRising 0 o.next o.live → own ≡ value_at o id slot
    → with_change (with_value slot own) (with_change (with_value slot value) o id) id ≡ o
put_back o id slot value own rising is =
    ap (λ (live : List LiveEntity). let x : Entities = record o { live = live } in x) (twice slot value own id o.live) ∙ with_own o id slot own rising is

-- Whether a slot is set

lowered_set : (own other : LabelValue) → is_set (lowered_value own other) ≡ is_set own
lowered_set Unset other = refl
lowered_set (Range label) other = refl
lowered_set (Number n) other = refl

check_set : (slot : ℕ) (value : LabelValue) (item : Item) → is_set (after_check slot value item) ≡ is_set value
check_set slot value item = one (observes (row_of item.op).movement)
  where
    one : (b : Bool) → is_set (cond b (lowered_value value (object_slot item.object slot)) value) ≡ is_set value
    one true = lowered_set value (object_slot item.object slot)
    one false = refl

-- what lowers sets nothing that wasn't set, and unsets nothing
pub still_set : (slot : ℕ) (value : LabelValue) (items : List Item) → is_set (after_checks slot value items) ≡ is_set value
still_set slot value [] = refl
still_set slot value (item ∷ items) = still_set slot (after_check slot value item) items ∙ check_set slot value item

pub unset : (a b : LabelValue) → is_set a ≡ is_set b → b ≡ Unset → a ≡ b
unset Unset b same none = sym none
unset (Range label) b same none = cc (ap is_set none)
unset (Number n) b same none = cc (ap is_set none)

set_in : (xs : List LabelValue) (k : ℕ) (v : LabelValue) → is_set v ≡ is_set (get_or xs k Unset) → is_set (get_or (set xs k v) k Unset) ≡ is_set v
set_in [] k v same = sym same
set_in (x ∷ xs) zero v same = refl
set_in (x ∷ xs) (suc k) v same = set_in xs k v same

set_among : (slot : ℕ) (v : LabelValue) (id : Id) (es : List LiveEntity) → is_set v ≡ is_set (slice_index_or (label_of (find (has_id id) es)) slot Unset)
    → is_set (slice_index_or (label_of (find (has_id id) (map (changed_at (with_value slot v) id) es))) slot Unset) ≡ is_set v
set_among slot v id [] same = sym same
set_among slot v id (e ∷ es) same = one (has_id id e) refl (set_among slot v id es) same
  where
    one : (b : Bool) → has_id id e ≡ b
        → (is_set v ≡ is_set (slice_index_or (label_of (find (has_id id) es)) slot Unset)
        → is_set (slice_index_or (label_of (find (has_id id) (map (changed_at (with_value slot v) id) es))) slot Unset) ≡ is_set v)
        → is_set v ≡ is_set (slice_index_or (label_of (cond b (Some e) (find (has_id id) es))) slot Unset)
        → is_set (slice_index_or (label_of (find (has_id id) (cond b (with_value slot v e) e ∷ map (changed_at (with_value slot v) id) es))) slot Unset) ≡ is_set v
    one true hit later same = rw hit (set_in e.label slot v same)
    one false miss later same = rw miss (later same)

-- a slot that was set stays so with another value, and one that wasn't does not become it
pub value_set : (o : Entities) (id : Id) (slot : ℕ) (v : LabelValue) → is_set v ≡ is_set (value_at o id slot)
    → is_set (value_at (with_change (with_value slot v) o id) id slot) ≡ is_set v
value_set o id slot v same = set_among slot v id o.live same
