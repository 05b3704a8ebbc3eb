-- What a call that was gone through makes of the state: what its checks made of its caller, and then its effect.
use Rattle.std.proofs.Common.{◌≡◌, ℕ, ◌+◌, ◌≤◌, Bool, true, false, cond, List, Option, Some, None, IsSome, is_some, option_map, Result, Ok, Err, refl, ap, sym, ◌∙◌, arith}
use Rattle.std.specs.Prelude.{◌↔◌, IsTrue}
use Rattle.std.specs.Option.{option_map_or}
use Rattle.std.proofs.lemmas.Bool.{false≢true}
use Rattle.mf_errno.specs.declared.errno.Errno.{Errno}
use Rattle.mf_errno.specs.declared.errno.Errno.TheVariants.{Esrch}
use Rattle.mf_elem.specs.declared.label.LabelValue.{LabelValue}
use Rattle.mf_item.specs.Item.{Item}
use Rattle.mf_policy.specs.Lowering.{lomac_slot}
use Rattle.mf_objects.specs.declared.id.Id.{Id}
use Rattle.mf_objects.specs.declared.entity.EntityData.{EntityData}
use Rattle.mf_objects.specs.Changes.{with_change}
use Rattle.mf_objects.specs.Labels.{with_value}
use Rattle.mf_objects.specs.Live.{Entities, LiveEntity, cred_at, cred_of, file_at, file_of, live_at, no_cred, no_file}
use Rattle.mf_objects.specs.Lives.{IsLive, passes}
use Rattle.mf_objects.proofs.Entities.{changed_at}
use Rattle.mf_calls.specs.declared.script.Call.{Call}
use Rattle.mf_calls.specs.Tasks.{is_change}
use Rattle.mf_plan.specs.declared.reply.Reply.{Reply}
use Rattle.mf_plan.specs.declared.reply.Reply.TheVariants as reply
use Rattle.mf_plan.specs.declared.state.State.{State}
use Rattle.mf_plan.specs.Effect.{Effect as Made}
use Rattle.mf_plan.specs.Effect.{Effect as made}
use Rattle.mf_plan.specs.Names.{caller_name}
use Rattle.mf_plan.specs.Plan.{plan_of, row_for}
use Rattle.mf_plan.specs.Row.{Row}
use Rattle.mf_plan.specs.Views.{process_named}
use Rattle.mf_perform.specs.Effect.{after, with_objects}
use Rattle.mf_perform.specs.OneCall.{after_reply, call_reply, call_state, observed, observed_by, performed}
use Rattle.mf_perform.specs.Passed.{passed}
use Rattle.mf_perform.proofs.LabelsAlone.{KeepsRest, at_mapped, is_mapped, live_mapped, value_keeps}
use Rattle.mf_audit.specs.declared.done.Done.{Done}
use Rattle.mf_audit.specs.declared.done.Effect.{Effect as Change}
use Rattle.mf_audit.specs.declared.done.Effect.TheVariants as does
use Rattle.mf_audit.specs.declared.walk.Denied.{Denied}
use Rattle.mf_audit.specs.declared.walk.Walk.{Walk}
use Rattle.mf_audit.specs.Asking.{start}
use Rattle.mf_audit.specs.Ended.{shown_of, shown_reply}
use Rattle.mf_audit.specs.Ends.{EndsBy, Goes, IsSound, IsSoundEnd, effect_of}
use Rattle.mf_audit.specs.Taking.{IsSoundEffect, Replies, ended, lowered}
use Rattle.mf_audit.proofs.Walks.{absent_reply, call_entered, call_replied}

-- Another value in a label slot of the caller: what an effect needs is still there, and the effect is the same

read_mapped : {A : Type 0} (g : LiveEntity → LiveEntity) (keeps : KeepsRest g) (read : EntityData → A) (none : A) (found : Option LiveEntity)
    → option_map_or (λ (e : LiveEntity). read e.what) (option_map g found) none ≡ option_map_or (λ (e : LiveEntity). read e.what) found none
read_mapped g keeps read none None = refl
read_mapped g keeps read none (Some e) = ap read (keeps.what e)

module _ (s : State) (me : Id) (value : LabelValue) (slot : ℕ) where
  abbrev g : LiveEntity → LiveEntity
  g = changed_at (with_value slot value) me

  abbrev valued : State
  valued = with_objects s (with_change (with_value slot value) s.objects me)

  keeps : KeepsRest g
  keeps = value_keeps slot value me

  valued_live : (test : EntityData → Bool) (id : Id) → IsLive test s.objects id → IsLive test valued.objects id
  valued_live test id live = live_mapped g keeps s.objects test id live

  valued_sound : (c : Change) → IsSound s c → IsSound valued c
  valued_sound (does.Open fd) sound = valued_live _ fd.file sound
  valued_sound (does.Unlink id) sound = (valued_live _ id sound.0, sound.1)
  valued_sound (does.Relabel id request) sound = is_mapped g keeps s.objects id sound
  valued_sound (does.Load m) sound = sound
  valued_sound (does.Set m change) sound = sound
  valued_sound other sound = tt

  valued_cred : (id : Id) → cred_at valued.objects id ≡ cred_at s.objects id
  valued_cred id =
      ap (λ (found : Option LiveEntity). option_map_or (λ (e : LiveEntity). cred_of e.what) found no_cred) (at_mapped g keeps s.objects id)
      ∙ read_mapped g keeps cred_of no_cred (live_at s.objects id)

  valued_file : (id : Id) → file_at valued.objects id ≡ file_at s.objects id
  valued_file id =
      ap (λ (found : Option LiveEntity). option_map_or (λ (e : LiveEntity). file_of e.what) found no_file) (at_mapped g keeps s.objects id)
      ∙ read_mapped g keeps file_of no_file (live_at s.objects id)

  valued_effect : (task : List ℕ) (c : Change) → effect_of valued task me c ≡ effect_of s task me c
  valued_effect task (does.Fork child) = rw (valued_cred me) refl
  valued_effect task (does.MakeFile dir name mode is_dir) = rw (valued_cred me, valued_file dir) refl
  valued_effect task other = refl

-- the same of what the checks of a call make of its caller
record Stays (s s' : State) (me : Id) : Type 0 where
  live : (test : EntityData → Bool) (id : Id) → IsLive test s.objects id → IsLive test s'.objects id
  sound : (c : Change) → IsSound s c → IsSound s' c
  effect : (task : List ℕ) (c : Change) → effect_of s' task me c ≡ effect_of s task me c
  next : s'.objects.next ≡ s.objects.next
  booted : s'.booted ≡ s.booted

same_stays : (s : State) (me : Id) → Stays s s me
same_stays s me = record { live = λ test id live. live; sound = λ c sound. sound; effect = λ task c. refl; next = refl; booted = refl }

slot_stays : (s : State) (me : Id) (value : LabelValue) (at : Option ℕ)
    → Stays s (option_map_or (λ slot. with_objects s (with_change (with_value slot value) s.objects me)) at s) me
slot_stays s me value None = same_stays s me
slot_stays s me value (Some slot) =
    record {
      live = valued_live s me value slot;
      sound = valued_sound s me value slot;
      effect = valued_effect s me value slot;
      next = refl;
      booted = refl;
    }

lowered_stays : (changes : Bool) (value : LabelValue) (s : State) (me : Id) → Stays s (lowered changes value s me) me
lowered_stays true value s me = same_stays s me
lowered_stays false value s me = slot_stays s me value (lomac_slot s.specs)

pub still_live : (changes : Bool) (value : LabelValue) (s : State) (me : Id) (test : EntityData → Bool) (id : Id) → IsLive test s.objects id
    → IsLive test (lowered changes value s me).objects id
still_live changes value s me test id live = (lowered_stays changes value s me).live test id live

pub still_sound : (changes : Bool) (value : LabelValue) (s : State) (me : Id) (end : Result Done Errno) → IsSoundEnd s end
    → IsSoundEffect (lowered changes value s me) end
still_sound changes value s me (Ok done) sound = (lowered_stays changes value s me).sound done.effect sound.1
still_sound changes value s me (Err e) sound = tt

pub still_next : (changes : Bool) (value : LabelValue) (s : State) (me : Id) → (lowered changes value s me).objects.next ≡ s.objects.next
still_next changes value s me = (lowered_stays changes value s me).next

-- The state after a call

module _ (s : State) (task : List ℕ) (child : Option (List ℕ)) (call : Call) where
  module _ (me : Id) (named : process_named s.objects (caller_name task child) ≡ Some me) (walk : Walk) (end : Result Done Errno)
      (goes : Goes s task me (row_for s task call me) (start s me) walk end) where
    abbrev row : Row
    row = row_for s task call me

    abbrev low : State
    low = lowered (is_change call) walk.value s me

    changed_observed : is_change call ≡ true → observed s task child call ≡ s
    changed_observed changes =
        ap (λ (b : Bool). cond b s (option_map_or (observed_by s (passed (call_reply s task child call) (plan_of s task child call).items)) (process_named s.objects (caller_name task child)) s)) changes

    low_by : (b : Bool) → is_change call ≡ b → lowered b walk.value s me ≡ observed s task child call
    low_by true changes = sym (changed_observed changes)
    low_by false entry = sym (call_entered s task child call me named walk end goes entry)

    low_is : low ≡ observed s task child call
    low_is = low_by (is_change call) refl

    performed_is : performed s task child call ≡ after (observed s task child call) me row.effect
    performed_is =
        ap (λ (caller : Option Id). option_map_or (λ me. after (observed s task child call) me (row_for s task call me).effect) caller (observed s task child call)) named

    by_reply : Reply → State
    by_reply r = after_reply r (observed s task child call) (performed s task child call)

    by_end : (denied : Option Denied) (e : Result Done Errno) → EndsBy s task me row e → call_reply s task child call ≡ shown_reply s denied (shown_of e)
        → ended low task me denied e ≡ call_state s task child call
    unfolding by_reply
    by_end (Some d) e ends is = low_is ∙ sym (ap by_reply is)
    by_end None (Err e) ends is = low_is ∙ sym (ap by_reply is)
    by_end None (Ok done) ends is =
        ap (λ (m : Made). after low me m) ((lowered_stays (is_change call) walk.value s me).effect task done.effect ∙ sym ends.2)
        ∙ ap (λ (x : State). after x me row.effect) low_is
        ∙ sym performed_is
        ∙ sym (ap by_reply is)

    pub call_goes_on : ended low task me walk.denied end ≡ call_state s task child call
    call_goes_on = by_end walk.denied end goes.ends (call_replied s task child call me named walk end goes)

  -- a caller that doesn't live changes nothing
  pub absent_state : process_named s.objects (caller_name task child) ≡ None → call_state s task child call ≡ s
  absent_state none =
      ap (λ (r : Reply). after_reply r (observed s task child call) (performed s task child call)) (absent_reply s task child call none)
      ∙ ap (λ (caller : Option Id). cond (is_change call) s (option_map_or (observed_by s (passed (call_reply s task child call) (plan_of s task child call).items)) caller s)) none
      ∙ either (is_change call)
    where
      either : (b : Bool) → cond b s s ≡ s
      either true = refl
      either false = refl

-- Boot has ended as before, and at most one id was given

pub record Keeps (s s' : State) : Type 0 where
  pub next : s'.objects.next ≤ s.objects.next + 1
  pub booted : s'.booted ≡ s.booted

after_keeps : (s x : State) (me : Id) (e : Made) → x.objects.next ≡ s.objects.next → x.booted ≡ s.booted → Keeps s (after x me e)
after_keeps s x me (made.Make name what) next booted = record { next = omega arith; booted = booted }
after_keeps s x me other next booted = record { next = omega arith; booted = booted }

observed_keeps : (s : State) (task : List ℕ) (child : Option (List ℕ)) (call : Call)
    → ((observed s task child call).objects.next ≡ s.objects.next) × ((observed s task child call).booted ≡ s.booted)
observed_keeps s task child call =
    by_change (is_change call) (process_named s.objects (caller_name task child)) (passed (call_reply s task child call) (plan_of s task child call).items)
  where
    by_slot : (at : Option ℕ) (value : ℕ → LabelValue) (me : Id)
        → ((option_map_or (λ slot. with_objects s (with_change (with_value slot (value slot)) s.objects me)) at s).objects.next ≡ s.objects.next)
        × ((option_map_or (λ slot. with_objects s (with_change (with_value slot (value slot)) s.objects me)) at s).booted ≡ s.booted)
    by_slot None value me = (refl, refl)
    by_slot (Some slot) value me = (refl, refl)

    by_change : (b : Bool) (caller : Option Id) (checks : List Item)
        → ((cond b s (option_map_or (observed_by s checks) caller s)).objects.next ≡ s.objects.next) × ((cond b s (option_map_or (observed_by s checks) caller s)).booted ≡ s.booted)
    by_change true caller checks = (refl, refl)
    by_change false None checks = (refl, refl)
    by_change false (Some me) checks = by_slot (lomac_slot s.specs) _ me

pub call_keeps : (s : State) (task : List ℕ) (child : Option (List ℕ)) (call : Call) → Keeps s (call_state s task child call)
call_keeps s task child call = by_reply (call_reply s task child call) (observed_keeps s task child call)
  where
    by_caller : (x : State) (caller : Option Id) → (x.objects.next ≡ s.objects.next) × (x.booted ≡ s.booted)
        → Keeps s (option_map_or (λ me. after x me (row_for s task call me).effect) caller x)
    by_caller x None same = record { next = omega (arith, same.0); booted = same.1 }
    by_caller x (Some me) same = after_keeps s x me (row_for s task call me).effect same.0 same.1

    by_reply : (r : Reply) → ((observed s task child call).objects.next ≡ s.objects.next) × ((observed s task child call).booted ≡ s.booted)
        → Keeps s (after_reply r (observed s task child call) (performed s task child call))
    by_reply (reply.Ok payload) same = by_caller (observed s task child call) (process_named s.objects (caller_name task child)) same
    by_reply other same = record { next = omega (arith, same.0); booted = same.1 }

-- A caller that doesn't live: the call is refused

pub absent_goes : (s : State) (task : List ℕ) (child : Option (List ℕ)) (call : Call) (given : Reply) (next : State) (is : Bool)
    → process_named s.objects (caller_name task child) ≡ None → next ≡ s → IsTrue is ↔ (given ≡ reply.Refused Esrch) → Replies s task child call given next is
absent_goes s task child call given next true none same refused = (refused.0 refl ∙ sym (absent_reply s task child call none), same ∙ sym (absent_state s task child call none))
absent_goes s task child call given next false none same refused = λ is. false≢true (refused.1 (is ∙ absent_reply s task child call none))

-- what lives is there
pub is_there : (test : EntityData → Bool) (o : Entities) (id : Id) → IsLive test o id → IsSome (live_at o id)
is_there test o id live = one (live_at o id) live
  where
    one : (found : Option LiveEntity) → passes test found ≡ true → is_some found ≡ true
    one None live = cc
    one (Some e) live = refl
