-- How a call changes the state after its checks: not at all; one entity is made, one changed, some removed, or a file with all descriptors on it; a
-- module is loaded, or unloaded; a setting is changed.
use Rattle.std.proofs.Common.{◌≡◌, ℕ, Bool, true, false, cond, not, List, Option, Some, None, Result, Ok, Err, drop, refl, ap, sym, ◌∙◌}
use Rattle.std.specs.Option.{option_map_or}
use Rattle.mf_errno.specs.declared.errno.Errno.{Errno}
use Rattle.mf_errno.specs.declared.module.Module.{Module}
use Rattle.mf_elem.specs.declared.label.Request.{Request}
use Rattle.mf_item.specs.declared.view.Kind.TheVariants as kinds
use Rattle.mf_item.specs.Item.{Item}
use Rattle.mf_policy.specs.declared.loading.UnloadFault.TheVariants.{NotLoaded, Pinned}
use Rattle.mf_policy.specs.Loading.{load_fault}
use Rattle.mf_policy.specs.Modules.{facts_of}
use Rattle.mf_policy.specs.Registration.{entries_without, given_after, is_listed, registration_of, with_registered}
use Rattle.mf_policy.specs.Settings.{change_in}
use Rattle.mf_policy.specs.declared.settings.Change.{Change}
use Rattle.mf_objects.specs.declared.id.Id.{Id}
use Rattle.mf_objects.specs.declared.entity.EntityData.{EntityData}
use Rattle.mf_objects.specs.declared.entity.EntityData.TheVariants.{Process, Vnode, Pipe, Socket}
use Rattle.mf_objects.specs.declared.descriptors.Fd.{Fd}
use Rattle.mf_objects.specs.Descriptors.{closed, opened, with_fds, without_vnode}
use Rattle.mf_objects.specs.Live.{LiveEntity, is_process, kind_of, live_at}
use Rattle.mf_objects.specs.Changes.{without, goes_with, with_change, with_what, appended, with_message, with_messages, cleared, with_mode}
use Rattle.mf_objects.specs.Population.{IsRising}
use Rattle.mf_calls.specs.declared.script.Call.{Call}
use Rattle.mf_calls.specs.Tasks.{is_change}
use Rattle.mf_plan.specs.Planned.{Plan}
use Rattle.mf_plan.specs.declared.outline.Check.{Check}
use Rattle.mf_plan.specs.declared.plan.Tail.{Tail}
use Rattle.mf_plan.specs.declared.plan.Tail.TheVariants.{Do, Refuse}
use Rattle.mf_plan.specs.declared.reply.Payload.{Payload}
use Rattle.mf_plan.specs.declared.reply.Reply.{Reply}
use Rattle.mf_plan.specs.declared.reply.Reply.TheVariants as reply
use Rattle.mf_plan.specs.declared.state.State.{State}
use Rattle.mf_plan.specs.Effect.{Effect, relabelled_by}
use Rattle.mf_plan.specs.Effect.Effect.{Unchanged, Make, Append, Deliver, Empty, Receive, SetMode, Open, Close, Unlink, End, Relabel, Load, Unload, Set}
use Rattle.mf_plan.specs.Names.{caller_name}
use Rattle.mf_plan.specs.Plan.{plan_of, row_for, call_row}
use Rattle.mf_plan.specs.Row.{through}
use Rattle.mf_plan.specs.Rows.{about_of}
use Rattle.mf_plan.specs.Views.{process_named}
use Rattle.mf_plan.specs.Ways.{At, way_to}
use Rattle.mf_plan.proofs.Finding.{row_by}
use Rattle.mf_perform.specs.declared.verdict.Denial.{Denial}
use Rattle.mf_perform.specs.Verdict.{verdict_of}
use Rattle.mf_perform.specs.Reply.{tail_reply, reply_to}
use Rattle.mf_perform.specs.Effect.{after, with_objects, with_created, with_request}
use Rattle.mf_perform.specs.Passed.{passed}
use Rattle.mf_perform.specs.OneCall.{performed, after_reply, call_reply, call_state, observed, observed_by}
use Rattle.mf_perform.proofs.Allowed.{IsAllowed}
use Rattle.mf_perform.proofs.Granted.{all_granted}
use Rattle.mf_perform.proofs.Loads.{SetsUnloadable, SuitsList, row_sets, suits_list}
use Rattle.mf_perform.proofs.Observing.{ObservingKeeps, checks_passed, observing, observing_keeps, process_kept}
use Rattle.mf_perform.proofs.Rooted.{HasKind, IsRooted, named_process, process_kind}
use Rattle.mf_perform.proofs.RelabelChange.{RelabelMade, relabel_made, with_relabelled}
use Rattle.mf_perform.proofs.RelabelChange.RelabelMade.{no_change, permitted}

-- who makes a call, and what it asks of whose label where it is done
pub record Deed : Type 0 where
  pub caller : Option Id
  pub asked : Option (Id × Request)

-- what a step makes of a state
pub data StateChange (by : Deed) (s s' : State) : Type 0 where
  -- nothing changes
  same : s' ≡ s → StateChange by s s'
  -- an entity comes, made by the process, which is live
  created : (maker : Id) (e : LiveEntity) (name : List ℕ) (what : EntityData) → by.caller ≡ Some maker → live_at s.objects maker ≡ Some e
      → kind_of e.what ≡ kinds.Process → s' ≡ with_created s maker (kind_of what) name what → StateChange by s s'
  -- what one entity holds is changed
  changed : (change : EntityData → EntityData) (id : Id) → ((what : EntityData) → kind_of (change what) ≡ kind_of what)
      → s' ≡ with_objects s (with_change (with_what change) s.objects id) → StateChange by s s'
  -- a live entity is relabelled, as the listed policies allow
  relabels : (id : Id) (e : LiveEntity) (request : Request) → by.asked ≡ Some (id, request) → live_at s.objects id ≡ Some e → IsAllowed s e request
      → s' ≡ with_request s (id, request) → StateChange by s s'
  -- some entities go
  removed : (gone : LiveEntity → Bool) → s' ≡ with_objects s (without gone s.objects) → StateChange by s s'
  -- a file or a directory goes, with all descriptors on it
  unlinked : (id : Id) → s' ≡ with_objects s (without_vnode id s.objects) → StateChange by s s'
  -- a policy comes, for which there is no fault
  loaded : (m : Module) → load_fault s.booted s.specs s.numbers m ≡ None
      → s' ≡ record s { specs = with_registered s.specs (registration_of m s.booted s.numbers); numbers = given_after s.numbers m } → StateChange by s s'
  -- a policy goes that may be unloaded
  unloaded : (m : Module) → (facts_of m).unload_ok ≡ true → s' ≡ record s { specs = entries_without m s.specs } → StateChange by s s'
  -- a listed policy that may be unloaded has another setting
  set_to : (m : Module) (change : Change) → (facts_of m).unload_ok ≡ true → s' ≡ record s { specs = (change_in m change s.specs).1 } → StateChange by s s'

-- Changes keep the kind

appended_kind : (text : List ℕ) (what : EntityData) → kind_of (appended text what) ≡ kind_of what
appended_kind text (Process process) = refl
appended_kind text (Vnode vnode) = refl
appended_kind text (Pipe pipe) = refl
appended_kind text (Socket socket) = refl

cleared_kind : (what : EntityData) → kind_of (cleared what) ≡ kind_of what
cleared_kind (Process process) = refl
cleared_kind (Vnode vnode) = refl
cleared_kind (Pipe pipe) = refl
cleared_kind (Socket socket) = refl

messages_kind : (change : List (List ℕ) → List (List ℕ)) (what : EntityData) → kind_of (with_messages change what) ≡ kind_of what
messages_kind change (Process process) = refl
messages_kind change (Vnode vnode) = refl
messages_kind change (Pipe pipe) = refl
messages_kind change (Socket socket) = refl

mode_kind : (mode : ℕ) (what : EntityData) → kind_of (with_mode mode what) ≡ kind_of what
mode_kind mode (Process process) = refl
mode_kind mode (Vnode vnode) = refl
mode_kind mode (Pipe pipe) = refl
mode_kind mode (Socket socket) = refl

pub fds_kind : (change : List Fd → List Fd) (what : EntityData) → kind_of (with_fds change what) ≡ kind_of what
fds_kind change (Process process) = refl
fds_kind change (Vnode vnode) = refl
fds_kind change (Pipe pipe) = refl
fds_kind change (Socket socket) = refl

-- Effects

-- a live process makes a call
pub record IsMadeBy (by : Deed) (s : State) (maker : Id) : Type 0 where
  pub entity : LiveEntity
  pub caller : by.caller ≡ Some maker
  pub live : live_at s.objects maker ≡ Some entity
  pub process : kind_of entity.what ≡ kinds.Process

may_unload : (listed unloadok : Bool) → cond (not listed) (Some NotLoaded) (cond unloadok None (Some Pinned)) ≡ None → unloadok ≡ true
may_unload true true none = refl
may_unload true false some = cc
may_unload false unloadok some = cc

-- a relabel that is made is allowed
by_relabel : (by : Deed) (s : State) (id : Id) (request : Request) → by.asked ≡ Some (id, request) → RelabelMade s by.asked → StateChange by s (with_request s (id, request))
by_relabel by s id request asked (no_change kept) = same (sym (ap (with_relabelled s) asked) ∙ kept)
by_relabel by s id request asked (permitted to e other is live allowed) = relabels to e other is live allowed (ap (with_relabelled s) (sym asked ∙ is))

by_effect : (by : Deed) (s : State) (me : Id) (e : Effect) → IsMadeBy by s me → SuitsList s e → SetsUnloadable e → by.asked ≡ relabelled_by e → RelabelMade s by.asked
    → StateChange by s (after s me e)
by_effect by s me Unchanged made suits sets asked relabel = same refl
by_effect by s me (Make name what) made suits sets asked relabel = created me made.entity name what made.caller made.live made.process refl
by_effect by s me (Append id text) made suits sets asked relabel = changed (appended text) id (appended_kind text) refl
by_effect by s me (Deliver id text) made suits sets asked relabel = changed (with_messages (with_message text)) id (messages_kind (with_message text)) refl
by_effect by s me (Empty id) made suits sets asked relabel = changed cleared id cleared_kind refl
by_effect by s me (Receive id) made suits sets asked relabel = changed (with_messages (drop 1)) id (messages_kind (drop 1)) refl
by_effect by s me (SetMode id mode) made suits sets asked relabel = changed (with_mode mode) id (mode_kind mode) refl
by_effect by s me (Open id fd) made suits sets asked relabel = changed (with_fds (opened fd)) id (fds_kind (opened fd)) refl
by_effect by s me (Close id n) made suits sets asked relabel = changed (with_fds (closed n)) id (fds_kind (closed n)) refl
by_effect by s me (Unlink id) made suits sets asked relabel = unlinked id refl
by_effect by s me (End id) made suits sets asked relabel = removed (goes_with id) refl
by_effect by s me (Relabel id request) made suits sets asked relabel = by_relabel by s id request asked relabel
by_effect by s me (Load m) made suits sets asked relabel = loaded m suits refl
by_effect by s me (Unload m) made suits sets asked relabel = unloaded m (may_unload (is_listed m s.specs) ((facts_of m).unload_ok) suits) refl
by_effect by s me (Set m change) made suits sets asked relabel = set_to m change sets refl

-- The effect of a call that may be done

-- the state after the call from the one after its checks, by who makes it, if somebody does
abbrev pub performed_by : State → State → List ℕ → Call → Option Id → State
performed_by s s1 task c caller = option_map_or (λ me. after s1 me (row_for s task c me).effect) caller s1

-- what suits each row of a call suits its effect
pub suits_row : (s : State) (task : List ℕ) (me : Id) (c : Call) (checks : List Check) (there : Result (At (about_of s task me c).place) Errno)
    → (through (record { checks = checks; there = there }) (about_of s task me c).row).tail ≡ Do
    → SuitsList s (through (record { checks = checks; there = there }) (about_of s task me c).row).effect
suits_row s task me c checks (Ok what) done = suits_list s task me c what done
suits_row s task me c checks (Err e) done = cc

module _ (by : Deed) (s s1 : State) (observer : Option Id) (checks : List Item) (keeps : ObservingKeeps observer checks s s1) where
  -- the checks leave the list of policies as it is
  suits_now : (e : Effect) → SuitsList s e → SuitsList s1 e
  suits_now (Load m) suits = rw (keeps.specs, keeps.numbers, keeps.booted) suits
  suits_now (Unload m) suits = rw (keeps.specs) suits
  suits_now other suits = tt

  -- a live process of the name makes the call
  made_by : (name : List ℕ) (caller : Id) → by.caller ≡ Some caller → process_named s.objects name ≡ Some caller → IsRising 0 s.objects.next s.objects.live
      → IsMadeBy by s1 caller
  made_by name caller own found rising =
      let me : HasKind is_process s1.objects caller = process_kept observer checks s s1 caller keeps (named_process s.objects name caller found rising) in
      record { entity = me.entity; caller = own; live = me.live; process = process_kind me.entity.what me.passes }

  by_caller : (task name : List ℕ) (c : Call) (caller : Option Id) → by.caller ≡ caller → process_named s.objects name ≡ caller
      → IsRising 0 s.objects.next s.objects.live → (row_by s task c caller).tail ≡ Do → by.asked ≡ relabelled_by (row_by s task c caller).effect → RelabelMade s1 by.asked
      → StateChange by s1 (performed_by s s1 task c caller)
  by_caller task name c None own found rising done asked relabel = same refl
  by_caller task name c (Some me) own found rising done asked relabel =
      let way = way_to s me (about_of s task me c).place in
      by_effect by s1 me (row_for s task c me).effect (made_by name me own found rising) (suits_now (row_for s task c me).effect (suits_row s task me c way.checks way.there done))
      (row_sets s task me c done) asked relabel

-- a call that is refused or denied changes nothing more, and asks nothing of a label

module _ (s1 done : State) (caller : Option Id) (asked : Option (Id × Request)) (p : Payload) where
  abbrev by_reply : Reply → Deed
  by_reply r = record { caller = caller; asked = after_reply r None asked }

  tail_change : (tail : Tail) → (tail ≡ Do → StateChange (record { caller = caller; asked = asked }) s1 done)
      → StateChange (by_reply (tail_reply tail p)) s1 (after_reply (tail_reply tail p) s1 done)
  tail_change Do may = may refl
  tail_change (Refuse errno) may = same refl

  reply_change : (plan : Plan) (denied : Option Denial) → (plan.tail ≡ Do → denied ≡ None → StateChange (record { caller = caller; asked = asked }) s1 done)
      → StateChange (by_reply (reply_to plan denied p)) s1 (after_reply (reply_to plan denied p) s1 done)
  reply_change plan None may = tail_change plan.tail (λ proceeds. may proceeds refl)
  reply_change plan (Some denial) may = same refl

-- Every step

-- who makes the call of a step, and what it asks of whose label where it is done
abbrev pub step_by : State → List ℕ → Option (List ℕ) → Call → Deed
step_by s task child c =
    record {
      caller = process_named s.objects (caller_name task child);
      asked = after_reply (call_reply s task child c) None (relabelled_by (call_row s task child c).effect);
    }

-- the state after all checks of a call that is done
observed_whole : (s : State) (task : List ℕ) (child : Option (List ℕ)) (c : Call) → (plan_of s task child c).tail ≡ Do
    → (verdict_of s.specs (plan_of s task child c)).denied ≡ None → is_change c ≡ false
    → observed s task child c ≡ option_map_or (observed_by s (plan_of s task child c).items) (process_named s.objects (caller_name task child)) s
observed_whole s task child c proceeds none entry =
    ap (λ (b : Bool). cond b s (by_checks (passed (call_reply s task child c) plan.items))) entry
    ∙ ap (λ (r : Reply). by_checks (passed r plan.items)) replied
  where
    plan : Plan
    plan = plan_of s task child c

    p : Payload
    p = (call_row s task child c).payload

    by_checks : List Item → State
    by_checks items = option_map_or (observed_by s items) (process_named s.objects (caller_name task child)) s

    replied : call_reply s task child c ≡ reply.Ok p
    replied = ap (λ (denied : Option Denial). reply_to plan denied p) none ∙ ap (λ (tail : Tail). tail_reply tail p) proceeds

-- a call changes the state after its checks so
pub step_change : (s : State) (task : List ℕ) (child : Option (List ℕ)) (c : Call) → IsRooted s.objects
    → StateChange (step_by s task child c) (observed s task child c) (call_state s task child c)
step_change s task child c rooted =
    reply_change s1 (performed s task child c) caller asked (call_row s task child c).payload plan (verdict_of s.specs plan).denied
    (λ proceeds none.
    by_caller by s s1 caller (checks_passed s task child c) keeps task (caller_name task child) c caller refl refl rooted.rising proceeds refl
    (relabel_made s s1 task (caller_name task child) c caller caller (checks_passed s task child c) refl rooted keeps (observed_whole s task child c proceeds none)
    (record { proceeds = proceeds; granted = all_granted s.specs plan none })))
  where
    plan : Plan
    plan = plan_of s task child c

    s1 : State
    s1 = observed s task child c

    caller : Option Id
    caller = process_named s.objects (caller_name task child)

    keeps : ObservingKeeps caller (checks_passed s task child c) s s1
    keeps = observing_keeps s s1 (observing s task child c rooted) rooted

    asked : Option (Id × Request)
    asked = relabelled_by (call_row s task child c).effect

    by : Deed
    by = record { caller = caller; asked = asked }
