-- The checks of a call tell the elements that their subjects and objects have in the state for which they were made, but that the caller has the one to
-- which the checks before have lowered it; and in the state after the checks it has the one to which they all have lowered it.
use Rattle.std.proofs.Common.{◌≡◌, ◌≢◌, ℕ, ◌<◌, ◌-◌, ◌==◌, zero, suc, Bool, true, false, cond, nat_eq, List, [], ◌∷◌, length, map, take, Option, Some, None, option_map, slice_index_or, refl, ap, sym, ◌∙◌, subst, arith, ◌⊎◌, inl, inr, get_or-set_same, get_or-set_other}
use Rattle.std.specs.Option.{option_map_or}
use Rattle.std.specs.Prelude.{fold, slice_set}
use Rattle.std.specs.List.{AllByRecursion}
use Rattle.std.proofs.lemmas.Bool.Decides.{nat_tests}
use Rattle.mf_elem.specs.declared.elem.Elem.{Elem}
use Rattle.mf_elem.specs.declared.label.LabelValue.{LabelValue}
use Rattle.mf_elem.specs.declared.label.LabelValue.TheVariants.{Unset, Range, Number}
use Rattle.mf_elem.specs.declared.label.Request.{Request}
use Rattle.mf_item.specs.Item.{Item}
use Rattle.mf_policy.specs.declared.registration.Registration.{Registration}
use Rattle.mf_policy.specs.Answer.{object_slot, range_label}
use Rattle.mf_policy.specs.Lowering.{after_check, after_checks, lomac_slot, lowered, lowered_element, lowered_value, observes}
use Rattle.mf_policy.specs.Operations.{row_of}
use Rattle.mf_policy.specs.Registration.{Entry}
use Rattle.mf_list.specs.Asked.{slot_of}
use Rattle.mf_objects.proofs.Entities.{changed_at, label_of as values_of}
use Rattle.mf_objects.specs.declared.id.Id.{Id}
use Rattle.mf_objects.specs.Changes.{with_change}
use Rattle.mf_objects.specs.Labels.{with_value}
use Rattle.mf_objects.specs.Live.{LiveEntity, Entities, has_id, label_at, live_at, value_in}
use Rattle.mf_objects.specs.Lives.{value_at, view_at}
use Rattle.mf_calls.specs.declared.script.Call.{Call}
use Rattle.mf_calls.specs.Tasks.{is_change}
use Rattle.mf_plan.specs.declared.outline.Check.{Check}
use Rattle.mf_plan.specs.declared.reply.Reply.{Reply}
use Rattle.mf_plan.specs.declared.reply.Reply.TheVariants as reply
use Rattle.mf_plan.specs.declared.state.State.{State}
use Rattle.mf_plan.specs.Lowering.{each_lowered, lowering, while_lowered, with_slot}
use Rattle.mf_plan.specs.Names.{caller_name}
use Rattle.mf_plan.specs.Outline.{item_asking}
use Rattle.mf_plan.specs.Views.{process_named}
use Rattle.mf_perform.specs.OneCall.{observed}
use Rattle.mf_perform.specs.Passed.{passed}
use Rattle.mf_perform.proofs.Observing.{Observing, checks_passed, find_valued, observed_change, observed_lowers, observing, passes_found}
use Rattle.mf_perform.proofs.Observing.Observing.{kept, lowers}
use Rattle.mf_perform.proofs.Rooted.{IsRooted}
use Rattle.mf_flow.specs.Sources.{element_by}
use Rattle.mf_flow.proofs.Across.{element_at, is_id}
use Rattle.mf_flow.proofs.Bounds.{remaining}
use Rattle.mf_flow.proofs.Callers.{AreBy, IsBy, LooksAway}
use Rattle.mf_flow.proofs.Moves.{AllSeen, IsObject, IsSeen, element_now, element_then, same_id, still}
use Rattle.mf_flow.proofs.Orders.{FlowPolicy}

-- What lowering has to do with a policy: it is mac_lomac, which these policies list with the same slot, and what remains of an element is what it is
-- lowered to; or an element remains as it was, and mac_lomac has another slot, or isn't listed.
pub data IsLowering (p : FlowPolicy) (r : Registration) (specs : List Entry) : Type 0 where
  its_slot : lomac_slot specs ≡ Some (slot_of r) → ((subject object : Elem) → p.remains subject object ≡ lowered subject object) → IsLowering p r specs
  other_slot : (n : ℕ) → lomac_slot specs ≡ Some n → slot_of r ≢ n → ((subject object : Elem) → p.remains subject object ≡ subject) → IsLowering p r specs
  unlisted : lomac_slot specs ≡ None → ((subject object : Elem) → p.remains subject object ≡ subject) → IsLowering p r specs

-- Elements that remain

module _ (p : FlowPolicy) (r : Registration) (keeps : (subject object : Elem) → p.remains subject object ≡ subject) where
  pub remaining_same : (now object : Option Elem) → remaining p now object ≡ now
  remaining_same None object = refl
  remaining_same (Some subject) None = refl
  remaining_same (Some subject) (Some object) = ap Some (keeps subject object)

  pub then_same : (now : Option Elem) (item : Item) → element_then p r now item ≡ now
  then_same now item = one (observes (row_of item.op).movement)
    where
      one : (b : Bool) → cond b (remaining p now (range_label (object_slot item.object (slot_of r))).effective) now ≡ now
      one true = remaining_same now (range_label (object_slot item.object (slot_of r))).effective
      one false = refl

  pub fold_same : (now : Option Elem) (items : List Item) → fold (element_then p r) now items ≡ now
  fold_same now [] = refl
  fold_same now (item ∷ items) = fold_same (element_then p r now item) items ∙ then_same now item

-- checks that move nothing to their subjects
fold_away : (p : FlowPolicy) (r : Registration) (now : Option Elem) (items : List Item) → AllByRecursion (λ item. observes (row_of item.op).movement ≡ false) items
    → fold (element_then p r) now items ≡ now
fold_away p r now [] away = refl
fold_away p r now (item ∷ items) away =
    fold_away p r (element_then p r now item) items away.1
    ∙ ap (λ (b : Bool). cond b (remaining p now (range_label (object_slot item.object (slot_of r))).effective) now) away.0

-- Values that are lowered

lowered_effective : (value other : LabelValue) → (range_label (lowered_value value other)).effective ≡ lowered_element (range_label value).effective (range_label other).effective
lowered_effective Unset other = refl
lowered_effective (Range label) other = refl
lowered_effective (Number n) other = refl

module _ (p : FlowPolicy) (r : Registration) (sinks : (subject object : Elem) → p.remains subject object ≡ lowered subject object) where
  remaining_lowered : (now object : Option Elem) → lowered_element now object ≡ remaining p now object
  remaining_lowered None object = refl
  remaining_lowered (Some subject) None = refl
  remaining_lowered (Some subject) (Some object) = ap Some (sym (sinks subject object))

  value_then : (value : LabelValue) (now : Option Elem) (item : Item) → (range_label value).effective ≡ now
      → (range_label (after_check (slot_of r) value item)).effective ≡ element_then p r now item
  value_then value now item is = one (observes (row_of item.op).movement)
    where
      object : LabelValue
      object = object_slot item.object (slot_of r)

      one : (b : Bool) → (range_label (cond b (lowered_value value object) value)).effective ≡ cond b (remaining p now (range_label object).effective) now
      one true =
          lowered_effective value object ∙ ap (λ (e : Option Elem). lowered_element e (range_label object).effective) is
          ∙ remaining_lowered now (range_label object).effective
      one false = is

  values_then : (value : LabelValue) (now : Option Elem) (items : List Item) → (range_label value).effective ≡ now
      → (range_label (after_checks (slot_of r) value items)).effective ≡ fold (element_then p r) now items
  values_then value now [] is = is
  values_then value now (item ∷ items) is = values_then (after_check (slot_of r) value item) (element_then p r now item) items (value_then value now item is)

-- a slot that has an element is one of the label's
pub within_label : (label : List LabelValue) (slot : ℕ) (e : Elem) → (range_label (slice_index_or label slot Unset)).effective ≡ Some e → slot < length label
within_label [] slot e is = cc
within_label (x ∷ label) zero e is = omega arith
within_label (x ∷ label) (suc slot) e is = let rest = within_label label slot e is in omega (arith, rest)

-- What checks see

object_seen : (o : Entities) (object : Option Id) → IsObject o (option_map (view_at o) object)
object_seen o None = tt
object_seen o (Some id) = refl

module _ (p : FlowPolicy) (r : Registration) (o : Entities) (me : Id) (asked : Option Request) where
  -- each check, or the caller is as in the state and none lowers it
  abbrev ByCaller : Option Elem → List Check → Type 0
  ByCaller now checks = AllByRecursion (IsBy me) checks ⊎ ((now ≡ element_at r o me) × AllByRecursion LooksAway checks)

  first_by : (now : Option Elem) (check : Check) (checks : List Check) → ByCaller now (check ∷ checks)
      → (check.subject ≡ me) ⊎ ((now ≡ element_at r o me) × (observes (row_of check.op).movement ≡ false))
  first_by now check checks (inl all) = inl all.0
  first_by now check checks (inr none) = inr (none.0, none.1.0)

  rest_by : (now after : Option Elem) (check : Check) (checks : List Check) → (observes (row_of check.op).movement ≡ false → after ≡ now) → ByCaller now (check ∷ checks)
      → ByCaller after checks
  rest_by now after check checks same (inl all) = inl all.1
  rest_by now after check checks same (inr none) = inr (same none.1.0 ∙ none.0, none.1.1)

  away_then : (now : Option Elem) (item : Item) → observes (row_of item.op).movement ≡ false → element_then p r now item ≡ now
  away_then now item away = ap (λ (b : Bool). cond b (remaining p now (range_label (object_slot item.object (slot_of r))).effective) now) away

  -- where the caller is seen as it is
  raw_seen : ((subject object : Elem) → p.remains subject object ≡ subject) → (checks : List Check) (now : Option Elem) → now ≡ element_at r o me → ByCaller now checks
      → AllSeen p r o me now (map (item_asking o asked) checks)
  unfolding item_asking
  raw_seen keeps [] now is by = tt
  raw_seen keeps (check ∷ checks) now is by =
      let item : Item = item_asking o asked check in (
        record { subject = sym (still r o me now check.subject is); object = object_seen o check.object; by = first_by now check checks by },
        raw_seen keeps checks (element_then p r now item) (then_same p r keeps now item ∙ is) (rest_by now (element_then p r now item) check checks (away_then now item) by),
      )

  -- where it has another value in the slot, of this element by the policy
  module _ (n : ℕ) where
    abbrev Shows : LabelValue → Option Elem → Type 0
    Shows value now = element_by r (slice_set (label_at o me) n value) ≡ now

    check_seen : (check : Check) (value : LabelValue) (now : Option Elem) → Shows value now
        → (check.subject ≡ me) ⊎ ((now ≡ element_at r o me) × (observes (row_of check.op).movement ≡ false))
        → IsSeen r o me now (while_lowered n me.0 value (item_asking o asked check))
    unfolding item_asking
    check_seen check value now is by = one (check.subject.0 == me.0) refl
      where
        item : Item
        item = item_asking o asked check

        one : (b : Bool) → is_id check.subject me ≡ b → IsSeen r o me now (cond b (record item { subject = with_slot n value item.subject }) item)
        one true same =
            record {
              subject = ap (λ (x : Id). element_by r (slice_set (label_at o x) n value)) (same_id check.subject me same) ∙ is
                  ∙ sym (ap (λ (b : Bool). cond b now (element_at r o check.subject)) same);
              object = object_seen o check.object;
              by = by;
            }
        one false apart =
            record {
              subject = sym (ap (λ (b : Bool). cond b now (element_at r o check.subject)) apart);
              object = object_seen o check.object;
              by = by;
            }

    then_lowered : (value : LabelValue) (now : Option Elem) (item : Item) → element_then p r now (while_lowered n me.0 value item) ≡ element_then p r now item
    then_lowered value now item = one (item.subject.id == me.0)
      where
        one : (b : Bool) → element_then p r now (cond b (record item { subject = with_slot n value item.subject }) item) ≡ element_then p r now item
        one true = refl
        one false = refl

    each_seen : ((value : LabelValue) (now : Option Elem) (item : Item) → Shows value now → Shows (after_check n value item) (element_then p r now item))
        → (checks : List Check) (value : LabelValue) (now : Option Elem) → Shows value now → ByCaller now checks
        → AllSeen p r o me now (each_lowered n me.0 value (map (item_asking o asked) checks))
    unfolding item_asking
    each_seen step [] value now is by = tt
    each_seen step (check ∷ checks) value now is by =
        let item : Item = item_asking o asked check in (
          check_seen check value now is (first_by now check checks by),
          subst (λ (e : Option Elem). AllSeen p r o me e (each_lowered n me.0 (after_check n value item) (map (item_asking o asked) checks))) (sym (then_lowered value now item))
              (each_seen step checks (after_check n value item) (element_then p r now item) (step value now item is)
              (rest_by now (element_then p r now item) check checks (away_then now item) by)),
        )

-- the checks of a caller that has an element
pub plan_seen : (p : FlowPolicy) (r : Registration) (s : State) (me : Id) (asked : Option Request) (checks : List Check) → IsLowering p r s.specs
    → ((slot_of r) < length (label_at s.objects me)) → AreBy me checks
    → AllSeen p r s.objects me (element_at r s.objects me) (lowering s me (map (item_asking s.objects asked) checks))
plan_seen p r s me asked checks lowering within by = one lowering
  where
    o : Entities
    o = s.objects

    items : List Item
    items = map (item_asking o asked) checks

    now : Option Elem
    now = element_at r o me

    by_now : AreBy me checks → AllByRecursion (IsBy me) checks ⊎ ((now ≡ element_at r o me) × AllByRecursion LooksAway checks)
    by_now (inl all) = inl all
    by_now (inr none) = inr (refl, none)

    all_by : AllByRecursion (IsBy me) checks ⊎ ((now ≡ element_at r o me) × AllByRecursion LooksAway checks)
    all_by = by_now by

    Seen : Option ℕ → Type 0
    Seen slot = AllSeen p r o me now (option_map_or (λ slot. each_lowered slot me.0 (value_at o me slot) items) slot items)

    same_slot : (value : LabelValue) → element_by r (slice_set (label_at o me) (slot_of r) value) ≡ (range_label value).effective
    same_slot value = ap (λ (v : LabelValue). (range_label v).effective) (get_or-set_same (label_at o me) (slot_of r) value Unset within)

    apart_slot : (n : ℕ) → slot_of r ≢ n → (value : LabelValue) → element_by r (slice_set (label_at o me) n value) ≡ now
    apart_slot n apart value = ap (λ (v : LabelValue). (range_label v).effective) (get_or-set_other (label_at o me) n (slot_of r) value Unset apart)

    one : IsLowering p r s.specs → Seen (lomac_slot s.specs)
    one (its_slot is sinks) =
        subst Seen (sym is)
        (each_seen p r o me asked (slot_of r)
        (λ value now item shows. same_slot (after_check (slot_of r) value item) ∙ value_then p r sinks value now item (sym (same_slot value) ∙ shows))
        checks (value_at o me (slot_of r)) now (same_slot (value_at o me (slot_of r))) all_by)
    one (other_slot n is apart keeps) =
        subst Seen (sym is)
        (each_seen p r o me asked n
        (λ value now item shows. apart_slot n apart (after_check n value item) ∙ sym (apart_slot n apart value) ∙ shows ∙ sym (then_same p r keeps now item))
        checks (value_at o me n) now (apart_slot n apart (value_at o me n)) all_by)
    one (unlisted is keeps) = subst Seen (sym is) (raw_seen p r o me asked keeps checks now refl all_by)

-- so are those that passed

take_seen : (p : FlowPolicy) (r : Registration) (o : Entities) (me : Id) (n : ℕ) (now : Option Elem) (items : List Item) → AllSeen p r o me now items
    → AllSeen p r o me now (take n items)
take_seen p r o me zero now items all = tt
take_seen p r o me (suc n) now [] all = tt
take_seen p r o me (suc n) now (item ∷ items) all = (all.0, take_seen p r o me n (element_then p r now item) items all.1)

pub passed_seen : (p : FlowPolicy) (r : Registration) (o : Entities) (me : Id) (said : Reply) (now : Option Elem) (items : List Item) → AllSeen p r o me now items
    → AllSeen p r o me now (passed said items)
passed_seen p r o me (reply.Ok payload) now items all = all
passed_seen p r o me (reply.Denied errno op item by) now items all = take_seen p r o me (item - 1) now items all
passed_seen p r o me (reply.Refused errno) now items all = all

-- The state after the checks

module _ (r : Registration) (o : Entities) where
  abbrev valued : ℕ → LabelValue → Id → Entities
  valued slot value at = with_change (with_value slot value) o at

  -- another slot leaves the element
  valued_other : (slot : ℕ) (value : LabelValue) (at id : Id) → slot_of r ≢ slot → element_at r (valued slot value at) id ≡ element_at r o id
  valued_other slot value at id apart =
      ap (λ (found : Option LiveEntity). element_by r (values_of found)) (find_valued slot value at id o.live) ∙ one (live_at o id)
    where
      by : (x : LiveEntity) (b : Bool) → element_by r (cond b (with_value slot value x) x).label ≡ element_by r x.label
      by x true = ap (λ (v : LabelValue). (range_label v).effective) (get_or-set_other x.label slot (slot_of r) value Unset apart)
      by x false = refl

      one : (found : Option LiveEntity) → element_by r (values_of (option_map (changed_at (with_value slot value) at) found)) ≡ element_by r (values_of found)
      one None = refl
      one (Some x) = by x (has_id at x)

  -- its own slot gives that one the value's element
  valued_own : (value : LabelValue) (at id : Id) (e : LiveEntity) → live_at o at ≡ Some e → (slot_of r) < length (label_at o at)
      → element_at r (valued (slot_of r) value at) id ≡ element_now r o at (range_label value).effective id
  valued_own value at id e live within =
      ap (λ (found : Option LiveEntity). element_by r (values_of found)) (find_valued (slot_of r) value at id o.live) ∙ one (live_at o id) refl
    where
      own : Option Elem
      own = (range_label value).effective

      -- the test of the entity is that of the id
      same_test : (x : LiveEntity) → has_id id x ≡ true → has_id at x ≡ is_id id at
      same_test x hit =
          let number : x.id.0 ≡ id.0 = grind (arith, nat_tests) in
          ap (λ (k : ℕ). nat_eq k at.0) number

      by : (x : LiveEntity) (b : Bool) → is_id id at ≡ b → live_at o id ≡ Some x → element_by r (cond b (with_value (slot_of r) value x) x).label ≡ cond b own (element_at r o id)
      by x true same found =
          let here : label_at o at ≡ x.label = ap (label_at o) (sym (same_id id at same)) ∙ ap values_of found in
          ap (λ (v : LabelValue). (range_label v).effective)
          (get_or-set_same x.label (slot_of r) value Unset (subst (λ (label : List LabelValue). slot_of r < length label) here within))
      by x false apart found = sym (ap (λ (f : Option LiveEntity). element_by r (values_of f)) found)

      one : (found : Option LiveEntity) → live_at o id ≡ found
          → element_by r (values_of (option_map (changed_at (with_value (slot_of r) value) at) found)) ≡ cond (is_id id at) own (element_at r o id)
      one None none = missing (is_id id at) refl
        where
          missing : (b : Bool) → is_id id at ≡ b → element_by r [] ≡ cond b own (element_at r o id)
          missing true same =
              let gone : live_at o at ≡ None = ap (live_at o) (sym (same_id id at same)) ∙ none in
              cc
          missing false apart = sym (ap (λ (f : Option LiveEntity). element_by r (values_of f)) none)
      one (Some x) found =
          ap (λ (b : Bool). element_by r (cond b (with_value (slot_of r) value x) x).label) (same_test x (passes_found (has_id id) o.live x found))
          ∙ by x (is_id id at) refl found

-- each entity has the element then to which it is lowered
pub after_seen : (p : FlowPolicy) (r : Registration) (s : State) (task : List ℕ) (child : Option (List ℕ)) (c : Call) (me : Id) (e : LiveEntity) → IsLowering p r s.specs → IsRooted s.objects
    → process_named s.objects (caller_name task child) ≡ Some me → live_at s.objects me ≡ Some e → slot_of r < length (label_at s.objects me)
    → (is_change c ≡ true → AllByRecursion (λ (item : Item). observes (row_of item.op).movement ≡ false) (checks_passed s task child c)) → (id : Id)
    → element_at r (observed s task child c).objects id
    ≡ element_now r s.objects me (fold (element_then p r) (element_at r s.objects me) (checks_passed s task child c)) id
after_seen p r s task child c me e lowering rooted named live within away id = one lowering
  where
    o : Entities
    o = s.objects

    now : Option Elem
    now = element_at r o me

    checks : List Item
    checks = checks_passed s task child c

    -- nothing is lowered, and what remains is as it was
    none_lowered : (s1 : State) → ((x : Id) → element_at r s1.objects x ≡ element_at r o x) → fold (element_then p r) now checks ≡ now
        → element_at r s1.objects id ≡ element_now r o me (fold (element_then p r) now checks) id
    none_lowered s1 same is = same id ∙ sym (still r o me (fold (element_then p r) now checks) id is)

    same_state : (s1 : State) → s1 ≡ s → (x : Id) → element_at r s1.objects x ≡ element_at r o x
    same_state s1 is x = ap (λ (y : State). element_at r y.objects x) is

    elsewhere : (s1 : State) → ((n : ℕ) → lomac_slot s.specs ≡ Some n → slot_of r ≢ n) → Observing (process_named o (caller_name task child)) checks s s1
        → (x : Id) → element_at r s1.objects x ≡ element_at r o x
    elsewhere s1 apart (kept is) x = same_state s1 is x
    elsewhere s1 apart (lowers slot at entity is mine there process sees after_is) x =
        ap (λ (y : State). element_at r y.objects x) after_is ∙ valued_other r o slot (after_checks slot (value_in slot entity) checks) at x (apart slot is)

    by_change : (b : Bool) → is_change c ≡ b → lomac_slot s.specs ≡ Some (slot_of r) → ((subject object : Elem) → p.remains subject object ≡ lowered subject object)
        → element_at r (observed s task child c).objects id ≡ element_now r o me (fold (element_then p r) now checks) id
    by_change true change is sinks =
        none_lowered (observed s task child c) (same_state (observed s task child c) (observed_change s task child c change)) (fold_away p r now checks (away change))
    by_change false entry is sinks =
        let value : LabelValue = after_checks (slot_of r) (value_in (slot_of r) e) checks in
        ap (λ (y : State). element_at r y.objects id) (observed_lowers s task child c (slot_of r) me e is entry named live)
        ∙ valued_own r o value me id e live within
        ∙ ap (λ (x : Option Elem). element_now r o me x id)
        (values_then p r sinks (value_in (slot_of r) e) now checks (sym (ap (λ (f : Option LiveEntity). element_by r (values_of f)) live)))

    one : IsLowering p r s.specs → element_at r (observed s task child c).objects id ≡ element_now r o me (fold (element_then p r) now checks) id
    one (its_slot is sinks) = by_change (is_change c) refl is sinks
    one (other_slot n is apart keeps) =
        none_lowered (observed s task child c)
        (elsewhere (observed s task child c) (λ m at. let same : n ≡ m = cc in subst (λ (k : ℕ). slot_of r ≢ k) same apart) (observing s task child c rooted)) (fold_same p r keeps now checks)
    one (unlisted is keeps) =
        none_lowered (observed s task child c) (elsewhere (observed s task child c) (λ m at same. cc) (observing s task child c rooted)) (fold_same p r keeps now checks)
