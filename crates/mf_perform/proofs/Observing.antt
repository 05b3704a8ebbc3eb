-- What the checks of a call make of a state where they pass: nothing; or, where mac_lomac is listed, its caller, which is a live process, has
-- another value of it.
use Rattle.std.proofs.Common.{◌≡◌, ℕ, ◌-◌, zero, suc, Bool, true, false, cond, List, [], ◌∷◌, map, take, Option, Some, None, option_map, refl, ap, sym, ◌∙◌, subst}
use Rattle.std.specs.Option.{option_map_or}
use Rattle.std.specs.Prelude.{find, slice_index_or, IfSome}
use Rattle.std.specs.List.{AllByRecursion}
use Rattle.mf_elem.specs.declared.label.LabelValue.{LabelValue}
use Rattle.mf_elem.specs.declared.label.LabelValue.TheVariants.{Unset}
use Rattle.mf_elem.specs.declared.label.Request.{Request}
use Rattle.mf_item.specs.declared.view.Kind.TheVariants as kinds
use Rattle.mf_item.specs.declared.view.ObjectView.{ObjectView}
use Rattle.mf_item.specs.Item.{Item}
use Rattle.mf_policy.specs.Answer.{object_slot}
use Rattle.mf_policy.specs.Lowering.{after_check, after_checks, lomac_slot, lowered_value, observes}
use Rattle.mf_policy.specs.Operations.{row_of}
use Rattle.mf_objects.specs.declared.id.Id.{Id}
use Rattle.mf_objects.specs.Live.{LiveEntity, Entities, has_id, is_process, kind_of, live_at, value_in}
use Rattle.mf_objects.specs.Lives.{value_at, view_at}
use Rattle.mf_objects.specs.Changes.{with_change}
use Rattle.mf_objects.specs.Labels.{with_value}
use Rattle.mf_objects.specs.Population.{IsPopulation}
use Rattle.mf_objects.proofs.Entities.{label_of, changed_at}
use Rattle.mf_objects.proofs.Belonging.{StaysAt, stays_same, belong_changed, directories_changed}
use Rattle.mf_objects.proofs.Names.{names_changed}
use Rattle.mf_objects.proofs.Opened.{described_changed}
use Rattle.mf_objects.proofs.Rising.{id_is, rising_changed, root_changed}
use Rattle.mf_calls.specs.declared.script.Call.{Call}
use Rattle.mf_calls.specs.Tasks.{is_change}
use Rattle.mf_plan.specs.declared.outline.Check.{Check}
use Rattle.mf_plan.specs.declared.reply.Reply.{Reply}
use Rattle.mf_plan.specs.declared.reply.Reply.TheVariants as reply
use Rattle.mf_plan.specs.declared.state.State.{State}
use Rattle.mf_plan.specs.Names.{caller_name}
use Rattle.mf_plan.specs.Outline.{item_asking}
use Rattle.mf_plan.specs.Plan.{call_row, plan_in, plan_of}
use Rattle.mf_plan.specs.Views.{process_named}
use Rattle.mf_plan.proofs.LoweredChecks.{IsSameCheck, plan_all}
use Rattle.mf_perform.specs.Effect.{with_objects}
use Rattle.mf_perform.specs.OneCall.{call_reply, observed, observed_by}
use Rattle.mf_perform.specs.Passed.{passed}
use Rattle.mf_perform.proofs.LoweredBy.{lowers as lowers_caller}
use Rattle.mf_perform.proofs.Rooted.{HasKind, IsRooted, inside_some, named_process, process_kind}

-- What checks see

-- what a check sees of its object is the entity of that id as it is; of one that doesn't live it sees no label
abbrev pub Sees : Entities → Item → Type 0
Sees objects item = IfSome item.object (λ object. object ≡ view_at objects (record { 0 = object.id }))

item_sees : (o : Entities) (asked : Option Request) (check : Check) → Sees o (item_asking o asked check)
unfolding item_asking
item_sees o asked check = one check.object
  where
    one : (at : Option Id) → IfSome (option_map (view_at o) at) (λ object. object ≡ view_at o (record { 0 = object.id }))
    one None = tt
    one (Some id) = refl

items_see : (o : Entities) (asked : Option Request) (checks : List Check) → AllByRecursion (Sees o) (map (item_asking o asked) checks)
items_see o asked [] = tt
items_see o asked (check ∷ checks) = (item_sees o asked check, items_see o asked checks)

take_sees : (o : Entities) (n : ℕ) (items : List Item) → AllByRecursion (Sees o) items → AllByRecursion (Sees o) (take n items)
take_sees o zero items all = tt
take_sees o (suc n) [] all = tt
take_sees o (suc n) (item ∷ items) all = (all.0, take_sees o n items all.1)

passed_see : (o : Entities) (r : Reply) (items : List Item) → AllByRecursion (Sees o) items → AllByRecursion (Sees o) (passed r items)
passed_see o (reply.Denied errno op item by) items all = take_sees o (item - 1) items all
passed_see o (reply.Ok payload) items all = all
passed_see o (reply.Refused errno) items all = all

-- what a check sees of its object is read of no label of a subject
sees_so : (o : Entities) (item other : Item) → IsSameCheck item other → Sees o other → Sees o item
sees_so o item other same sees =
    subst (λ (at : Option ObjectView). IfSome at (λ object. object ≡ view_at o (record { 0 = object.id }))) (sym same.object) sees

-- A value that is lowered

module _ (P : LabelValue → Type 0) (o : Entities) (slot : ℕ) (seen : (own : LabelValue) (id : Id) → P own → P (lowered_value own (value_at o id slot)))
    (unset : (own : LabelValue) → P own → P (lowered_value own Unset)) where
  after_check_keeps : (item : Item) (value : LabelValue) → Sees o item → P value → P (after_check slot value item)
  after_check_keeps item value sees own = by_way (observes (row_of item.op).movement)
    where
      by_object : (object : Option ObjectView) → IfSome object (λ object. object ≡ view_at o (record { 0 = object.id })) → P (lowered_value value (object_slot object slot))
      by_object None sees = unset value own
      by_object (Some object) sees =
          subst (λ (x : ObjectView). P (lowered_value value (object_slot (Some x) slot))) (sym sees) (seen value (record { 0 = object.id }) own)

      by_way : (b : Bool) → P (cond b (lowered_value value (object_slot item.object slot)) value)
      by_way true = by_object item.object sees
      by_way false = own

  each_keeps : (checks : List Item) (value : LabelValue) → AllByRecursion (Sees o) checks → P value → P (after_checks slot value checks)
  each_keeps [] value all own = own
  each_keeps (check ∷ checks) value all own = each_keeps checks (after_check slot value check) all.1 (after_check_keeps check value all.0 own)

-- what is so of the caller's value, and is kept by each lowering to the value of an entity or to none, is so of it after the checks
pub after_checks_keep : (P : LabelValue → Type 0) (o : Entities) (slot : ℕ) (checks : List Item) (value : LabelValue) → AllByRecursion (Sees o) checks
    → ((own : LabelValue) (id : Id) → P own → P (lowered_value own (value_at o id slot))) → ((own : LabelValue) → P own → P (lowered_value own Unset))
    → P value → P (after_checks slot value checks)
after_checks_keep P o slot checks value all seen unset own = each_keeps P o slot seen unset checks value all own

-- What checks make of a state

-- what checks of this caller make of a state where they pass
pub data Observing (caller : Option Id) (checks : List Item) (s s1 : State) : Type 0 where
  kept : s1 ≡ s → Observing caller checks s s1
  lowers : (slot : ℕ) (me : Id) (e : LiveEntity) → lomac_slot s.specs ≡ Some slot → caller ≡ Some me → live_at s.objects me ≡ Some e
      → kind_of e.what ≡ kinds.Process → AllByRecursion (Sees s.objects) checks
      → s1 ≡ with_objects s (with_change (with_value slot (after_checks slot (value_in slot e) checks)) s.objects me) → Observing caller checks s s1

-- the checks of a call that passed
abbrev pub checks_passed : State → List ℕ → Option (List ℕ) → Call → List Item
checks_passed s task child c = passed (call_reply s task child c) (plan_of s task child c).items

call_sees : (s : State) (task : List ℕ) (child : Option (List ℕ)) (c : Call) → AllByRecursion (Sees s.objects) (checks_passed s task child c)
call_sees s task child c =
    passed_see s.objects (call_reply s task child c) (plan_of s task child c).items
    (plan_all s (Sees s.objects) (sees_so s.objects) (process_named s.objects (caller_name task child)) (plan_in s (call_row s task child c))
    (items_see s.objects _ (call_row s task child c).checks))

-- the value that is read at the id of a live entity is its own
lowered_own : (s : State) (slot : ℕ) (me : Id) (e : LiveEntity) (checks : List Item) → live_at s.objects me ≡ Some e
    → with_objects s (with_change (with_value slot (after_checks slot (value_at s.objects me slot) checks)) s.objects me)
    ≡ with_objects s (with_change (with_value slot (after_checks slot (value_in slot e) checks)) s.objects me)
lowered_own s slot me e checks live =
    ap (λ (found : Option LiveEntity). with_objects s (with_change (with_value slot (after_checks slot (slice_index_or (label_of found) slot Unset) checks)) s.objects me)) live

module _ (s : State) (task : List ℕ) (child : Option (List ℕ)) (c : Call) where
  abbrev caller_of : Option Id
  caller_of = process_named s.objects (caller_name task child)

  abbrev checks_of : List Item
  checks_of = checks_passed s task child c

  abbrev by_slot : Id → Option ℕ → State
  by_slot me at = option_map_or (λ slot. with_objects s (with_change (with_value slot (after_checks slot (value_at s.objects me slot) checks_of)) s.objects me)) at s

  unlisted_by : (found : Option Id) → lomac_slot s.specs ≡ None → option_map_or (observed_by s checks_of) found s ≡ s
  unlisted_by None none = refl
  unlisted_by (Some me) none = ap (by_slot me) none

  unlisted_at : (b : Bool) → lomac_slot s.specs ≡ None → cond b s (option_map_or (observed_by s checks_of) caller_of s) ≡ s
  unlisted_at true none = refl
  unlisted_at false none = unlisted_by caller_of none

  -- nothing is lowered where mac_lomac isn't listed
  pub observed_unlisted : lomac_slot s.specs ≡ None → observed s task child c ≡ s
  observed_unlisted none = unlisted_at (is_change c) none

  -- nor by a change of the policies
  pub observed_change : is_change c ≡ true → observed s task child c ≡ s
  observed_change change = ap (λ (b : Bool). cond b s (option_map_or (observed_by s checks_of) caller_of s)) change

  -- else the caller is
  pub observed_lowers : (slot : ℕ) (me : Id) (e : LiveEntity) → lomac_slot s.specs ≡ Some slot → is_change c ≡ false → caller_of ≡ Some me → live_at s.objects me ≡ Some e
      → observed s task child c ≡ with_objects s (with_change (with_value slot (after_checks slot (value_in slot e) checks_of)) s.objects me)
  observed_lowers slot me e at entry named live = lowers_caller s task child c slot me entry at named ∙ lowered_own s slot me e checks_of live

  module _ (rooted : IsRooted s.objects) where
    observing_slot : (me : Id) (at : Option ℕ) → lomac_slot s.specs ≡ at → caller_of ≡ Some me → Observing caller_of checks_of s (by_slot me at)
    observing_slot me None at named = kept refl
    observing_slot me (Some slot) at named =
        let has : HasKind is_process s.objects me = named_process s.objects (caller_name task child) me named rooted.rising in
        lowers slot me has.entity at named has.live (process_kind has.entity.what has.passes) (call_sees s task child c)
        (lowered_own s slot me has.entity checks_of has.live)

    observing_caller : (found : Option Id) → caller_of ≡ found → Observing caller_of checks_of s (option_map_or (observed_by s checks_of) found s)
    observing_caller None named = kept refl
    observing_caller (Some me) named = observing_slot me (lomac_slot s.specs) refl named

    observing_by : (b : Bool) → Observing caller_of checks_of s (cond b s (option_map_or (observed_by s checks_of) caller_of s))
    observing_by true = kept refl
    observing_by false = observing_caller caller_of refl

pub observing : (s : State) (task : List ℕ) (child : Option (List ℕ)) (c : Call) → IsRooted s.objects
    → Observing (process_named s.objects (caller_name task child)) (checks_passed s task child c) s (observed s task child c)
observing s task child c rooted = observing_by s task child c rooted (is_change c)

-- What stays

-- the list of policies, and what a module that comes finds
pub record KeepsPolicies (s s1 : State) : Type 0 where
  pub specs : s1.specs ≡ s.specs
  pub numbers : s1.numbers ≡ s.numbers
  pub booted : s1.booted ≡ s.booted

pub observed_policies : (s : State) (task : List ℕ) (child : Option (List ℕ)) (c : Call) → KeepsPolicies s (observed s task child c)
observed_policies s task child c = by_change (is_change c)
  where
    checks : List Item
    checks = checks_passed s task child c

    by_listed : (me : Id) (at : Option ℕ) → KeepsPolicies s (by_slot s task child c me at)
    by_listed me None = record { specs = refl; numbers = refl; booted = refl }
    by_listed me (Some slot) = record { specs = refl; numbers = refl; booted = refl }

    by_caller : (found : Option Id) → KeepsPolicies s (option_map_or (observed_by s checks) found s)
    by_caller None = record { specs = refl; numbers = refl; booted = refl }
    by_caller (Some me) = by_listed me (lomac_slot s.specs)

    by_change : (b : Bool) → KeepsPolicies s (cond b s (option_map_or (observed_by s checks) (process_named s.objects (caller_name task child)) s))
    by_change true = record { specs = refl; numbers = refl; booted = refl }
    by_change false = by_caller (process_named s.objects (caller_name task child))

-- the entity of an id before and after the checks
pub data HasObserved (caller : Option Id) (checks : List Item) (s : State) (id : Id) : Option LiveEntity → Option LiveEntity → Type 0 where
  absent : HasObserved caller checks s id None None
  unlowered : (e : LiveEntity) → HasObserved caller checks s id (Some e) (Some e)
  lowered : (slot : ℕ) (e : LiveEntity) → caller ≡ Some id → lomac_slot s.specs ≡ Some slot → kind_of e.what ≡ kinds.Process
      → AllByRecursion (Sees s.objects) checks → HasObserved caller checks s id (Some e) (Some (with_value slot (after_checks slot (value_in slot e) checks) e))

-- what the checks leave as it is, and what they make of each entity
pub record ObservingKeeps (caller : Option Id) (checks : List Item) (s s1 : State) : Type 0 where
  pub specs : s1.specs ≡ s.specs
  pub numbers : s1.numbers ≡ s.numbers
  pub booted : s1.booted ≡ s.booted
  pub next : s1.objects.next ≡ s.objects.next
  pub rooted : IsRooted s1.objects
  pub each : (id : Id) → HasObserved caller checks s id (live_at s.objects id) (live_at s1.objects id)

-- the entity of an id after one has another value in a slot
pub find_valued : (slot : ℕ) (value : LabelValue) (at id : Id) (es : List LiveEntity)
    → find (has_id id) (map (changed_at (with_value slot value) at) es) ≡ option_map (changed_at (with_value slot value) at) (find (has_id id) es)
find_valued slot value at id [] = refl
find_valued slot value at id (e ∷ es) =
    ap (λ (b : Bool). cond b (Some (changed e)) (find (has_id id) (map changed es))) (same (has_id at e)) ∙ one (has_id id e) (find_valued slot value at id es)
  where
    changed : LiveEntity → LiveEntity
    changed = changed_at (with_value slot value) at

    same : (b : Bool) → has_id id (cond b (with_value slot value e) e) ≡ has_id id e
    same true = refl
    same false = refl

    one : (b : Bool) → find (has_id id) (map changed es) ≡ option_map changed (find (has_id id) es)
        → cond b (Some (changed e)) (find (has_id id) (map changed es)) ≡ option_map changed (cond b (Some e) (find (has_id id) es))
    one true rest = refl
    one false rest = rest

pub passes_found : (test : LiveEntity → Bool) (es : List LiveEntity) (x : LiveEntity) → find test es ≡ Some x → test x ≡ true
passes_found test [] x is = cc
passes_found test (e ∷ es) x is = one (test e) refl (passes_found test es x) is
  where
    one : (b : Bool) → test e ≡ b → (find test es ≡ Some x → test x ≡ true) → cond b (Some e) (find test es) ≡ Some x → test x ≡ true
    one true hit rest is = ap test (sym (inside_some e x is)) ∙ hit
    one false miss rest is = rest is

pub same_id : (a b : Id) (x : LiveEntity) → has_id a x ≡ true → has_id b x ≡ true → a ≡ b
same_id a b x own other = ap (λ (n : ℕ). let i : Id = record { 0 = n } in i) (sym (id_is a x own) ∙ id_is b x other)

itself : (caller : Option Id) (checks : List Item) (s : State) (id : Id) (found : Option LiveEntity) → HasObserved caller checks s id found found
itself caller checks s id None = absent
itself caller checks s id (Some e) = unlowered e

-- another value doesn't change what the first id is of
first_kept : (slot : ℕ) (value : LabelValue) (at : Id) (found : Option LiveEntity) → IfSome found (λ e. kind_of e.what ≡ kinds.Vnode)
    → IfSome (option_map (changed_at (with_value slot value) at) found) (λ e. kind_of e.what ≡ kinds.Vnode)
first_kept slot value at None vnode = tt
first_kept slot value at (Some e) vnode = one (has_id at e)
  where
    one : (b : Bool) → kind_of (cond b (with_value slot value e) e).what ≡ kinds.Vnode
    one true = vnode
    one false = vnode

valued_rooted : (slot : ℕ) (value : LabelValue) (at : Id) (o : Entities) → IsRooted o → IsRooted (with_change (with_value slot value) o at)
valued_rooted slot value at o rooted =
    record {
      rising = rising_changed (with_value slot value) at 0 o.next o.live (λ e. refl) rooted.rising;
      given = rooted.given;
      vnode = subst (λ (found : Option LiveEntity). IfSome found (λ e. kind_of e.what ≡ kinds.Vnode)) (sym (find_valued slot value at _ o.live))
          (first_kept slot value at _ rooted.vnode);
    }

valued_each : (caller : Option Id) (checks : List Item) (s : State) (slot : ℕ) (me : Id) (e : LiveEntity) → lomac_slot s.specs ≡ Some slot → caller ≡ Some me
    → live_at s.objects me ≡ Some e → kind_of e.what ≡ kinds.Process → AllByRecursion (Sees s.objects) checks → (id : Id)
    → HasObserved caller checks s id (live_at s.objects id) (live_at (with_change (with_value slot (after_checks slot (value_in slot e) checks)) s.objects me) id)
valued_each caller checks s slot me e at named live process sees id =
    subst (HasObserved caller checks s id (live_at s.objects id)) (sym (find_valued slot value me id s.objects.live)) (by_found (live_at s.objects id) refl)
  where
    value : LabelValue
    value = after_checks slot (value_in slot e) checks

    -- the caller itself
    here : (x : LiveEntity) → me ≡ id → x ≡ e → HasObserved caller checks s id (Some x) (Some (with_value slot value x))
    here x is same =
        subst (λ (y : LiveEntity). HasObserved caller checks s id (Some y) (Some (with_value slot value y))) (sym same)
        (lowered slot e (named ∙ ap (λ (i : Id). Some i) is) at process sees)

    by_test : (x : LiveEntity) (b : Bool) → has_id me x ≡ b → live_at s.objects id ≡ Some x → HasObserved caller checks s id (Some x) (Some (cond b (with_value slot value x) x))
    by_test x true hit found =
        let is : me ≡ id = same_id me id x hit (passes_found (has_id id) s.objects.live x found) in
        here x is (inside_some x e (sym found ∙ ap (λ (i : Id). live_at s.objects i) (sym is) ∙ live))
    by_test x false miss found = unlowered x

    by_found : (found : Option LiveEntity) → live_at s.objects id ≡ found → HasObserved caller checks s id found (option_map (changed_at (with_value slot value) me) found)
    by_found None is = absent
    by_found (Some x) is = by_test x (has_id me x) refl is

pub observing_keeps : {caller : Option Id} {checks : List Item} (s s1 : State) → Observing caller checks s s1 → IsRooted s.objects → ObservingKeeps caller checks s s1
observing_keeps {caller = caller} {checks = checks} s s1 (kept is) rooted =
    subst (ObservingKeeps caller checks s) (sym is)
    (record { specs = refl; numbers = refl; booted = refl; next = refl; rooted = rooted; each = λ id. itself caller checks s id (live_at s.objects id) })
observing_keeps {caller = caller} {checks = checks} s s1 (lowers slot me e at named live process sees is) rooted =
    subst (ObservingKeeps caller checks s) (sym is)
    (record {
      specs = refl;
      numbers = refl;
      booted = refl;
      next = refl;
      rooted = valued_rooted slot _ me s.objects rooted;
      each = valued_each caller checks s slot me e at named live process sees;
    })

-- what was a process is one
pub process_kept : (caller : Option Id) (checks : List Item) (s s1 : State) (id : Id) → ObservingKeeps caller checks s s1 → HasKind is_process s.objects id → HasKind is_process s1.objects id
process_kept caller checks s s1 id keeps was = one (live_at s.objects id) (live_at s1.objects id) (keeps.each id) was.live refl
  where
    one : (found found1 : Option LiveEntity) → HasObserved caller checks s id found found1 → found ≡ Some was.entity → live_at s1.objects id ≡ found1
        → HasKind is_process s1.objects id
    one _ _ absent is now = cc
    one _ _ (unlowered e) is now =
        record { entity = e; live = now; passes = ap (λ (x : LiveEntity). is_process x.what) (inside_some e was.entity is) ∙ was.passes }
    one _ _ (lowered slot e named at process sees) is now =
        record {
          entity = with_value slot (after_checks slot (value_in slot e) checks) e;
          live = now;
          passes = ap (λ (x : LiveEntity). is_process x.what) (inside_some e was.entity is) ∙ was.passes;
        }

-- what is so of each population is so of that with another value
pub valued_population : (slot : ℕ) (value : LabelValue) (at : Id) (o : Entities) → IsPopulation o → IsPopulation (with_change (with_value slot value) o at)
valued_population slot value at o population =
    record {
      rising = rising_changed (with_value slot value) at 0 o.next o.live (λ e. refl) population.rising;
      rooted = root_changed (with_value slot value) at o.live (λ e. refl) (λ k d l has. refl) population.rooted;
      belong = belong_changed (with_value slot value) at o.live (λ e. refl) stays population.belong;
      directories = directories_changed (with_value slot value) at o.live stays population.directories;
      names = names_changed (with_value slot value) at o.live (λ e. refl) stays population.names;
      descriptors = described_changed (with_value slot value) at o.live (λ e. refl) stays (λ k d l has. population.descriptors k d l) population.descriptors;
    }
  where
    stays : StaysAt (with_value slot value) at o.live
    stays k d l has = stays_same _

pub observing_population : {caller : Option Id} {checks : List Item} (s s1 : State) → Observing caller checks s s1 → IsPopulation s.objects → IsPopulation s1.objects
observing_population s s1 (kept is) population = subst (λ (x : State). IsPopulation x.objects) (sym is) population
observing_population s s1 (lowers slot me e at named live process sees is) population =
    subst (λ (x : State). IsPopulation x.objects) (sym is) (valued_population slot _ me s.objects population)
