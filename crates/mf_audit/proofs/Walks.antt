-- A walk along the checks of a call tells the denial of the policies' verdict on its plan, and what those that passed make of the caller.
use Rattle.std.proofs.Common.{◌≡◌, ℕ, ◌+◌, ◌-◌, ◌≤◌, suc, Bool, false, cond, List, [], ◌∷◌, take, fold, Option, Some, None, option_map, Result, Ok, Err, refl, ap, sym, subst, ◌∙◌, arith}
use Rattle.std.specs.Option.{option_map_or}
use Rattle.std.specs.Prelude.{slice_get, unwrap_or}
use Rattle.mf_elem.specs.declared.label.LabelValue.{LabelValue}
use Rattle.mf_elem.specs.declared.label.LabelValue.TheVariants.{Unset}
use Rattle.mf_elem.specs.declared.label.Request.{Request}
use Rattle.mf_errno.specs.declared.errno.Errno.{Errno}
use Rattle.mf_errno.specs.declared.errno.Errno.TheVariants.{Success, Esrch}
use Rattle.mf_errno.specs.declared.module.Module.{Module}
use Rattle.mf_item.specs.declared.operation.CheckOp.{CheckOp}
use Rattle.mf_item.specs.declared.operation.CheckOp.TheVariants.{VnodeLookup}
use Rattle.mf_item.specs.Item.{Item}
use Rattle.mf_list.specs.Asked.{answer_to}
use Rattle.mf_list.specs.declared.ask.Answer.{Answer}
use Rattle.mf_objects.specs.declared.id.Id.{Id}
use Rattle.mf_objects.specs.Live.{Entities}
use Rattle.mf_objects.specs.Changes.{with_change}
use Rattle.mf_objects.specs.Labels.{with_value}
use Rattle.mf_objects.specs.Lives.{value_at}
use Rattle.mf_policy.specs.Lowering.{after_check, after_checks, lomac_slot}
use Rattle.mf_policy.specs.Registration.{Entry}
use Rattle.mf_calls.specs.declared.script.Call.{Call}
use Rattle.mf_calls.specs.Tasks.{is_change}
use Rattle.mf_plan.specs.declared.outline.Check.{Check}
use Rattle.mf_plan.specs.declared.plan.Tail.{Tail}
use Rattle.mf_plan.specs.declared.plan.Tail.TheVariants as tail
use Rattle.mf_plan.specs.declared.reply.Payload.{Payload}
use Rattle.mf_plan.specs.declared.reply.Reply.{Reply}
use Rattle.mf_plan.specs.declared.reply.Reply.TheVariants as reply
use Rattle.mf_plan.specs.declared.state.State.{State}
use Rattle.mf_plan.specs.Lowering.{each_lowered, lowering, while_lowered}
use Rattle.mf_plan.specs.Names.{caller_name}
use Rattle.mf_plan.specs.Outline.{is_relabel, item_asking, item_of}
use Rattle.mf_plan.specs.Plan.{lowering_by, plan_in, plan_of, row_for}
use Rattle.mf_plan.specs.Planned.{Plan}
use Rattle.mf_plan.specs.Row.{Row, refuse}
use Rattle.mf_plan.specs.Views.{process_named}
use Rattle.mf_plan.proofs.LoweredChecks.{same_afters, while_same}
use Rattle.mf_perform.specs.declared.verdict.Denial.{Denial}
use Rattle.mf_perform.specs.Effect.{with_objects}
use Rattle.mf_perform.specs.Held.{lomac_value, with_lomac_value}
use Rattle.mf_perform.specs.OneCall.{call_reply, observed, observed_by}
use Rattle.mf_perform.specs.Passed.{passed}
use Rattle.mf_perform.specs.Reply.{reply_to, tail_reply}
use Rattle.mf_perform.specs.Verdict.{denial_at, denial_from}
use Rattle.mf_audit.specs.declared.done.Done.{Done}
use Rattle.mf_audit.specs.declared.walk.Denied.{Denied}
use Rattle.mf_audit.specs.declared.walk.Walk.{Walk}
use Rattle.mf_audit.specs.Asking.{asking_all, denial_of, first_denied, start, value_then}
use Rattle.mf_audit.specs.Ended.{ended_so, shown_of, shown_reply}
use Rattle.mf_audit.specs.Ends.{EndsBy, Goes}

-- a check that changes no label carries no request, whatever its row asks for
pub unasked : (o : Entities) (asked : Option Request) (check : Check) → is_relabel check.op ≡ false → item_asking o asked check ≡ item_of o check
unfolding item_asking
unasked o None check still = refl
unasked o (Some request) check still =
    ap (λ (b : Bool). let item : Item = record (item_of o check) { request = cond b (Some request) None } in item) still

-- The denial that a walk tells

-- the number of a denial among checks from n on is at least n
from_start : (listed : List Entry) (n : ℕ) (items : List Item) (d : Denial) → denial_from listed n items ≡ Some d → n ≤ d.item
from_start listed n [] d found = cc
from_start listed n (i ∷ is) d found = one (answer_to listed i).errno (from_start listed (n + 1) is d) found
  where
    here : (e : Errno) → Some (record { item = n; errno = e; by = (answer_to listed i).by }) ≡ Some d → n ≤ d.item
    here e same =
        let number : n ≡ d.item = cc in
        omega (arith, number)

    one : (e : Errno) → (denial_from listed (n + 1) is ≡ Some d → n + 1 ≤ d.item) → denial_at n e (answer_to listed i).by (denial_from listed (n + 1) is) ≡ Some d → n ≤ d.item
    one Success rest later = omega (arith, rest later)
    one e rest same = here e same

-- the operation of the check whose number is k, of some that count from 1
abbrev op_of : List Item → ℕ → CheckOp
op_of items k = unwrap_or (option_map (λ i. i.op) (slice_get items k)) VnodeLookup

abbrev told_at : Denial → CheckOp → Option Denied
told_at d op = Some (record { errno = d.errno; op = op; item = d.item; by = d.by })

-- a denial among these checks, of which so many came before, with its operation
abbrev told : ℕ → List Item → Option Denial → Option Denied
told n items None = None
told n items (Some d) = told_at d (op_of items (d.item - (n + 1)))

-- the checks that passed
abbrev passed_from : ℕ → List Item → Option Denial → List Item
passed_from n items None = items
passed_from n items (Some d) = take (d.item - (n + 1)) items

module _ (me : Id) (at : Option ℕ) where
  -- the check while the caller has the value in that slot, and the value once the check has passed
  abbrev seen_by : LabelValue → Item → Item
  seen_by value item = option_map_or (λ slot. while_lowered slot me.0 value item) at item

  abbrev lowered_by : LabelValue → Item → LabelValue
  lowered_by value item = option_map_or (λ slot. after_check slot value item) at value

  -- the checks as the caller comes to them, and the value after all of them
  abbrev each_by : LabelValue → List Item → List Item
  each_by value items = option_map_or (λ slot. each_lowered slot me.0 value items) at items

  abbrev after_by : LabelValue → List Item → LabelValue
  after_by value items = option_map_or (λ slot. after_checks slot value items) at value

  -- the walk after a check that is answered so
  abbrev step_by : Answer → Walk → Item → Walk
  step_by answer walk item =
      record {
        asked = walk.asked + 1;
        value = value_then walk.denied answer.errno walk.value (lowered_by walk.value item);
        denied = first_denied walk.denied (denial_of (walk.asked + 1) item.op answer.errno answer.by);
      }

-- How these grow by a check

each_none : (me : Id) (at : Option ℕ) (value : LabelValue) → each_by me at value [] ≡ []
each_none me None value = refl
each_none me (Some slot) value = refl

each_one : (me : Id) (at : Option ℕ) (value : LabelValue) (i : Item) (is : List Item)
    → each_by me at value (i ∷ is) ≡ seen_by me at value i ∷ each_by me at (lowered_by me at value i) is
each_one me None value i is = refl
each_one me (Some slot) value i is = refl

same_op : (me : Id) (at : Option ℕ) (value : LabelValue) (i : Item) → (seen_by me at value i).op ≡ i.op
same_op me None value i = refl
same_op me (Some slot) value i = (while_same slot me.0 value i).op

same_lowered : (me : Id) (at : Option ℕ) (value : LabelValue) (i : Item) → lowered_by me at value (seen_by me at value i) ≡ lowered_by me at value i
same_lowered me None value i = refl
same_lowered me (Some slot) value i = same_afters slot me.0 value value (i ∷ [])

after_none : (me : Id) (at : Option ℕ) (value : LabelValue) → after_by me at value [] ≡ value
after_none me None value = refl
after_none me (Some slot) value = refl

after_one : (me : Id) (at : Option ℕ) (value : LabelValue) (i : Item) (is : List Item)
    → after_by me at value (i ∷ is) ≡ after_by me at (lowered_by me at value i) is
after_one me None value i is = refl
after_one me (Some slot) value i is = refl

module _ (listed : List Entry) (me : Id) (at : Option ℕ) where
  abbrev all_steps : Walk → List Item → Walk
  all_steps walk items = fold (λ (w : Walk) (i : Item). step_by me at (answer_to listed (seen_by me at w.value i)) w i) walk items

  -- once a check was denied, denial and value stay
  denied_stays : (n : ℕ) (value : LabelValue) (d : Denied) (items : List Item)
      → (all_steps (record { asked = n; value = value; denied = Some d }) items).denied ≡ Some d
  denied_stays n value d [] = refl
  denied_stays n value d (i ∷ is) = denied_stays (n + 1) value d is

  value_stays : (n : ℕ) (value : LabelValue) (d : Denied) (items : List Item)
      → (all_steps (record { asked = n; value = value; denied = Some d }) items).value ≡ value
  value_stays n value d [] = refl
  value_stays n value d (i ∷ is) = value_stays (n + 1) value d is

-- where so many checks were asked, and none was denied
abbrev so_far : ℕ → LabelValue → Walk
so_far n value = record { asked = n; value = value; denied = None }

-- What a walk tells of checks, of which so many came before: the first denial, and the caller's value after those that passed.
record Tells (me : Id) (at : Option ℕ) (n : ℕ) (value : LabelValue) (items : List Item) (walk : Walk) (denial : Option Denial) : Type 0 where
  denied : walk.denied ≡ told n items denial
  value_is : walk.value ≡ after_by me at value (passed_from n items denial)

-- a check that passed, and those after it
later_tells : (me : Id) (at : Option ℕ) (n : ℕ) (value next : LabelValue) (s : Item) (rest : List Item) (walk : Walk) (denial : Option Denial)
    → lowered_by me at value s ≡ next → ((d : Denial) → denial ≡ Some d → n + 1 + 1 ≤ d.item)
    → Tells me at (n + 1) next rest walk denial → Tells me at n value (s ∷ rest) walk denial
later_tells me at n value next s rest walk None is beyond tells =
    record {
      denied = tells.denied;
      value_is = tells.value_is ∙ ap (λ (v : LabelValue). after_by me at v rest) (sym is) ∙ sym (after_one me at value s rest);
    }
later_tells me at n value next s rest walk (Some d) is beyond tells =
    let above : n + 1 + 1 ≤ d.item = beyond d refl in
    let number : d.item - (n + 1) ≡ suc (d.item - (n + 1 + 1)) = omega (arith, above) in
    let kept : List Item = take (d.item - (n + 1 + 1)) rest in
    record {
      denied = tells.denied ∙ ap (λ (k : ℕ). told_at d (op_of (s ∷ rest) k)) (sym number);
      value_is = tells.value_is ∙ ap (λ (v : LabelValue). after_by me at v kept) (sym is) ∙ sym (after_one me at value s kept)
          ∙ ap (λ (k : ℕ). after_by me at value (take k (s ∷ rest))) (sym number);
    }

-- a check that is denied
denied_tells : (listed : List Entry) (me : Id) (at : Option ℕ) (n : ℕ) (value : LabelValue) (e : Errno) (by : Option Module) (i s : Item) (is rest : List Item) → s.op ≡ i.op
    → Tells me at n value (s ∷ rest) (all_steps listed me at (record { asked = n + 1; value = value; denied = Some (record { errno = e; op = i.op; item = n + 1; by = by }) }) is)
    (Some (record { item = n + 1; errno = e; by = by }))
denied_tells listed me at n value e by i s is rest same =
    let first : n + 1 - (n + 1) ≡ 0 = omega arith in
    let d : Denial = record { item = n + 1; errno = e; by = by } in
    record {
      denied = denied_stays listed me at (n + 1) value (record { errno = e; op = i.op; item = n + 1; by = by }) is
          ∙ ap (told_at d) (sym same) ∙ ap (λ (k : ℕ). told_at d (op_of (s ∷ rest) k)) (sym first);
      value_is = value_stays listed me at (n + 1) value (record { errno = e; op = i.op; item = n + 1; by = by }) is
          ∙ sym (after_none me at value) ∙ ap (λ (k : ℕ). after_by me at value (take k (s ∷ rest))) (sym first);
    }

tells_from : (listed : List Entry) (me : Id) (at : Option ℕ) (n : ℕ) (value : LabelValue) (items : List Item)
    → Tells me at n value (each_by me at value items) (all_steps listed me at (so_far n value) items) (denial_from listed (n + 1) (each_by me at value items))
tells_from listed me at n value [] =
    subst (λ (its : List Item). Tells me at n value its (so_far n value) (denial_from listed (n + 1) its)) (sym (each_none me at value))
    (record { denied = refl; value_is = sym (after_none me at value) })
tells_from listed me at n value (i ∷ is) =
    subst (λ (its : List Item). Tells me at n value its (all_steps listed me at (so_far n value) (i ∷ is)) (denial_from listed (n + 1) its)) (sym (each_one me at value i is))
    (one (answer_to listed seen).errno (answer_to listed seen).by (tells_from listed me at (n + 1) next is))
  where
    seen : Item
    seen = seen_by me at value i

    next : LabelValue
    next = lowered_by me at value i

    rest : List Item
    rest = each_by me at next is

    one : (e : Errno) (by : Option Module)
        → Tells me at (n + 1) next rest (all_steps listed me at (so_far (n + 1) next) is) (denial_from listed (n + 1 + 1) rest)
        → Tells me at n value (seen ∷ rest) (all_steps listed me at (step_by me at (record { errno = e; by = by }) (so_far n value) i) is)
        (denial_at (n + 1) e by (denial_from listed (n + 1 + 1) rest))
    one Success by later =
        later_tells me at n value next seen rest _ _ (same_lowered me at value i) (λ d found. from_start listed (n + 1 + 1) rest d found) later
    one e by later = denied_tells listed me at n value e by i seen is rest (same_op me at value i)

-- A walk of a row, from its start

module _ (s : State) (me : Id) (row : Row) where
  abbrev row_items : List Item
  row_items = (plan_in s row).items

  abbrev own_at : Option ℕ → LabelValue
  own_at at = option_map_or (λ slot. value_at s.objects me slot) at Unset

  -- its checks as its caller comes to them
  lowered_checks : (at : Option ℕ) → each_by me at (own_at at) row_items ≡ option_map_or (λ slot. each_lowered slot me.0 (value_at s.objects me slot) row_items) at row_items
  lowered_checks None = refl
  lowered_checks (Some slot) = refl

  abbrev comes_to : List Item
  comes_to = lowering s me row_items

  abbrev verdict : Option Denial
  verdict = denial_from s.specs 1 comes_to

  row_tells : Tells me (lomac_slot s.specs) 0 (lomac_value s (Some me)) comes_to (asking_all s.specs me (start s me) row_items) verdict
  row_tells =
      subst (λ (its : List Item). Tells me (lomac_slot s.specs) 0 (lomac_value s (Some me)) its (asking_all s.specs me (start s me) row_items) (denial_from s.specs 1 its))
      (lowered_checks (lomac_slot s.specs))
      (tells_from s.specs me (lomac_slot s.specs) 0 (lomac_value s (Some me)) row_items)

  -- the value that it has where the checks made it so
  valued : (at : Option ℕ) (value : LabelValue) (checks : List Item) → value ≡ after_by me at (own_at at) checks
      → option_map_or (λ slot. with_objects s (with_change (with_value slot (after_checks slot (value_at s.objects me slot) checks)) s.objects me)) at s
      ≡ option_map_or (λ slot. with_objects s (with_change (with_value slot value) s.objects me)) at s
  valued None value checks is = refl
  valued (Some slot) value checks is = ap (λ (v : LabelValue). with_objects s (with_change (with_value slot v) s.objects me)) (sym is)

-- the reply that the end of a row tells
end_reply : (s : State) (task : List ℕ) (me : Id) (row : Row) (items : List Item) (denial : Option Denial) (end : Result Done Errno) → EndsBy s task me row end
    → shown_reply s (told 0 items denial) (shown_of end) ≡ reply_to (record { items = items; tail = row.tail }) denial row.payload
end_reply s task me row items (Some d) end ends = refl
end_reply s task me row items None (Ok done) ends = ap reply.Ok (sym ends.1) ∙ ap (λ (t : Tail). tail_reply t row.payload) (sym ends.0)
end_reply s task me row items None (Err e) ends = ap (λ (t : Tail). tail_reply t row.payload) (sym ends)

-- which checks passed by it
passed_so : (plan : Plan) (denial : Option Denial) (payload : Payload) (items : List Item) → passed (reply_to plan denial payload) items ≡ passed_from 0 items denial
passed_so plan (Some d) payload items = refl
passed_so plan None payload items = one plan.tail
  where
    one : (t : Tail) → passed (tail_reply t payload) items ≡ items
    one tail.Do = refl
    one (tail.Refuse e) = refl

-- Of a call

module _ (s : State) (task : List ℕ) (child : Option (List ℕ)) (call : Call) where
  abbrev row_by : Option Id → Row
  row_by caller = option_map_or (row_for s task call) caller (refuse Esrch)

  abbrev plan_by : Option Id → Plan
  plan_by caller = lowering_by s caller (plan_in s (row_by caller))

  abbrev reply_by : Option Id → Reply
  reply_by caller = reply_to (plan_by caller) (denial_from s.specs 1 (plan_by caller).items) (row_by caller).payload

  module _ (me : Id) (named : process_named s.objects (caller_name task child) ≡ Some me) (walk : Walk) (end : Result Done Errno)
      (goes : Goes s task me (row_for s task call me) (start s me) walk end) where
    abbrev row : Row
    row = row_for s task call me

    tells : Tells me (lomac_slot s.specs) 0 (lomac_value s (Some me)) (comes_to s me row) walk (verdict s me row)
    tells =
        subst (λ (w : Walk). Tells me (lomac_slot s.specs) 0 (lomac_value s (Some me)) (comes_to s me row) w (verdict s me row)) (sym goes.walk) (row_tells s me row)

    -- the reply to it
    pub call_replied : call_reply s task child call ≡ ended_so s walk end
    call_replied =
        ap reply_by named
        ∙ sym (ap (λ (d : Option Denied). shown_reply s d (shown_of end)) tells.denied ∙ end_reply s task me row (comes_to s me row) (verdict s me row) end goes.ends)

    -- what its checks that passed make of the state
    pub call_observed : observed_by s (passed (call_reply s task child call) (plan_of s task child call).items) me ≡ with_lomac_value walk.value s (Some me)
    call_observed =
        ap (λ (caller : Option Id). observed_by s (passed (reply_by caller) (plan_by caller).items) me) named
        ∙ ap (λ (checks : List Item). observed_by s checks me) (passed_so (plan_by (Some me)) (verdict s me row) row.payload (comes_to s me row))
        ∙ valued s me row (lomac_slot s.specs) walk.value (passed_from 0 (comes_to s me row) (verdict s me row)) tells.value_is

    pub call_entered : is_change call ≡ false → observed s task child call ≡ with_lomac_value walk.value s (Some me)
    call_entered entry =
        ap (λ (b : Bool). cond b s (option_map_or (observed_by s (passed (call_reply s task child call) (plan_of s task child call).items)) (process_named s.objects (caller_name task child)) s)) entry
        ∙ ap (λ (caller : Option Id). option_map_or (observed_by s (passed (call_reply s task child call) (plan_of s task child call).items)) caller s) named
        ∙ call_observed

  -- a caller that doesn't live makes no call
  pub absent_reply : process_named s.objects (caller_name task child) ≡ None → call_reply s task child call ≡ reply.Refused Esrch
  absent_reply none = ap reply_by none
