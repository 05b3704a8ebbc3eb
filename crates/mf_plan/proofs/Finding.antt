-- What a call is about where it may be done, and what it asks of a label.
use Rattle.std.proofs.Common.{◌≡◌, ℕ, List, Option, Some, None, Result, Ok, Err, map, option_map, refl, ap, sym, ◌∙◌}
use Rattle.std.specs.Result.{result_ok}
use Rattle.std.specs.Option.{ok_or, option_map_or}
use Rattle.mf_elem.specs.declared.label.Request.{Request}
use Rattle.mf_errno.specs.declared.errno.Errno.{Errno}
use Rattle.mf_errno.specs.declared.errno.Errno.TheVariants as errno
use Rattle.mf_item.specs.declared.operation.CheckOp.TheVariants as op
use Rattle.mf_item.specs.declared.view.Kind.TheVariants as kinds
use Rattle.mf_objects.specs.declared.id.Id.{Id}
use Rattle.mf_calls.specs.declared.script.Call.{Call}
use Rattle.mf_calls.specs.declared.script.Call.TheVariants as call
use Rattle.mf_text.specs.Results.{and_then}
use Rattle.mf_plan.specs.declared.found.Found.{Found}
use Rattle.mf_plan.specs.declared.outline.Check.{Check}
use Rattle.mf_plan.specs.declared.plan.Tail.{Tail}
use Rattle.mf_plan.specs.declared.plan.Tail.TheVariants.{Do, Refuse}
use Rattle.mf_plan.specs.declared.state.State.{State}
use Rattle.mf_plan.specs.Checks.{on, by_itself}
use Rattle.mf_plan.specs.Ended.{Ended, end_by, end_in}
use Rattle.mf_plan.specs.Found.{AreFound, asked_at, target_at}
use Rattle.mf_plan.specs.Names.{caller_name}
use Rattle.mf_plan.specs.Outline.{item_asking}
use Rattle.mf_plan.specs.Path.{found_at, lookup_along}
use Rattle.mf_plan.specs.Plan.{call_row, lowering_by, plan_in, plan_of, row_for}
use Rattle.mf_plan.specs.Planned.{Plan}
use Rattle.mf_plan.specs.Relabels.{claimed_in}
use Rattle.mf_plan.specs.Effect.{Effect, relabelled_by}
use Rattle.mf_plan.specs.Effect.Effect.{Unchanged}
use Rattle.mf_plan.specs.Row.{Row, if_there, refuse, relabel_by, through}
use Rattle.mf_plan.specs.Rows.{about_of}
use Rattle.mf_plan.specs.Views.{process_named, entity_named}
use Rattle.mf_plan.specs.Ways.{At, Place, Way, along, asking, missing, asked_in, opened_file_at, straight, target_in, then_way, way_to, carrying}
use Rattle.mf_plan.specs.Ways.Place.{Asking, Caller, Entry, File, Free, Named, Opened, Sockets}

-- What is there

pub is_there : {A : Type 0} (e : Errno) (holder : Option A) (a : A) → ok_or holder e ≡ Ok a → holder ≡ Some a
is_there e None a is = cc
is_there e (Some x) a is = cc

-- a relabel has found what its text asks for, and what it relabels
pub record Asked {A : Type 0} (claim : Option Request) (there : Result A Errno) (found : Request × A) : Type 0 where
  pub claimed : claim ≡ Some found.0
  pub on_the_way : there ≡ Ok found.1

pub are_asked : {A : Type 0} (claim : Option Request) (checks : List Check) (there : Result A Errno) (found : Request × A)
    → (then_way (ok_or claim errno.Einval) (λ r. carrying r (record { checks = checks; there = there }))).there ≡ Ok found → Asked claim there found
are_asked None checks there found is = cc
are_asked (Some r) checks (Err e) found is = cc
are_asked (Some r) checks (Ok a) found is = record { claimed = cc; on_the_way = cc }

module _ (s : State) (me : Id) where
  -- the second of two sockets
  sockets_there : (from to : Option Id) (ends : Id × Id)
      → (then_way (ok_or from errno.Enoent) (λ from. asking (on me op.SocketSend from) (straight (and_then (ok_or to errno.Enoent) (λ to. Ok (from, to)))))).there ≡ Ok ends
      → to ≡ Some ends.1
  sockets_there (Some from) (Some to) ends is = cc
  sockets_there (Some from) None ends is = cc
  sockets_there None to ends is = cc

  pub target_there : (place : Place) (found : At place) → (way_to s me place).there ≡ Ok found → target_at s me place ≡ target_in place found
  target_there Caller id is = cc
  target_there (Named kind name) id is = is_there (missing kind) (entity_named s.objects kind name) id is
  target_there (File path) id is = ap result_ok is
  target_there (Free path) id is = ap result_ok is
  target_there (Entry path) entry is = ap (λ (there : Result (Id × Id) Errno). option_map (λ (e : Id × Id). e.1) (result_ok there)) is
  target_there (Opened access n) id is = is_there errno.Ebadf (opened_file_at s.objects me access n) id is
  target_there (Sockets from to) ends is = sockets_there (entity_named s.objects kinds.Socket from) (entity_named s.objects kinds.Socket to) ends is
  target_there (Asking kind text place) found is =
      target_there place found.1 (are_asked (claimed_in s.specs kind text) (way_to s me place).checks (way_to s me place).there found is).on_the_way
  target_there other found is = refl

  pub request_there : (place : Place) (found : At place) → (way_to s me place).there ≡ Ok found → asked_at s place ≡ asked_in place found
  request_there (Asking kind text place) found is = (are_asked (claimed_in s.specs kind text) (way_to s me place).checks (way_to s me place).there found is).claimed
  request_there other found is = refl

-- a call that may be done has found what it is about
pub record Reached {A : Type 0} (there : Result A Errno) (row : A → Row) : Type 0 where
  pub what : A
  pub is : there ≡ Ok what
  pub rest : (row what).tail ≡ Do

pub reached : {A : Type 0} (row : A → Row) (checks : List Check) (there : Result A Errno) → (through (record { checks = checks; there = there }) row).tail ≡ Do → Reached there row
reached row checks (Ok a) done = record { what = a; is = refl; rest = done }
reached row checks (Err e) done = cc

-- What it asks of a label

-- what an effect asks
abbrev pub asked_in_effect : Effect → Option Request
asked_in_effect effect = option_map (λ asked. asked.1) (relabelled_by effect)

-- the row of a call by who makes it, if somebody does
abbrev pub row_by : State → List ℕ → Call → Option Id → Row
row_by s task c caller = option_map_or (row_for s task c) caller (refuse errno.Esrch)

-- what is so where the call may be done
abbrev pub where_done : Tail → Option Request → Option Request
where_done Do request = request
where_done (Refuse e) request = None

none_done : (tail : Tail) → None ≡ where_done tail None
none_done Do = refl
none_done (Refuse e) = refl

nothing_asked : {A : Type 0} (row : A → Row) → ((a : A) → asked_in_effect (row a).effect ≡ None) → (way : Way A) → asked_in_effect (through way row).effect ≡ where_done (through way row).tail None
nothing_asked {A = A} row none way = by_there way.there ∙ none_done (through way row).tail
  where
    by_there : (there : Result A Errno) → asked_in_effect (if_there (λ found. (row found).effect) (λ e. Unchanged) there) ≡ None
    by_there (Ok a) = none a
    by_there (Err e) = refl

relabel_asks : (claim : Option Request) (way : Way Id) (check : Id → Check)
    → asked_in_effect (through (then_way (ok_or claim errno.Einval) (λ r. carrying r way)) (relabel_by check)).effect
    ≡ where_done (through (then_way (ok_or claim errno.Einval) (λ r. carrying r way)) (relabel_by check)).tail claim
relabel_asks None way check = refl
relabel_asks (Some r) way check = by_there way.there
  where
    by_there : (there : Result Id Errno)
        → asked_in_effect (through (carrying r (record { checks = way.checks; there = there })) (relabel_by check)).effect
        ≡ where_done (through (carrying r (record { checks = way.checks; there = there })) (relabel_by check)).tail (Some r)
    by_there (Ok id) = refl
    by_there (Err e) = refl

module _ (s : State) (task : List ℕ) (me : Id) where
  abbrev mine : (c : Call) → At (about_of s task me c).place → Row
  mine c = (about_of s task me c).row

  abbrev way_of : (c : Call) → Way (At (about_of s task me c).place)
  way_of c = way_to s me (about_of s task me c).place

  -- The table.
  pub asks : (c : Call) → asked_in_effect (row_for s task c me).effect ≡ where_done (row_for s task c me).tail (asked_at s (about_of s task me c).place)
  asks (call.Setpmac text) = relabel_asks (claimed_in s.specs kinds.Process text) (straight (Ok me)) (λ id. by_itself me op.CredRelabel)
  asks (call.Setfmac text path) = relabel_asks (claimed_in s.specs kinds.Vnode text) (along me found_at (lookup_along s.objects path)) (on me op.VnodeRelabel)
  asks (call.Setpipemac text name) = relabel_asks (claimed_in s.specs kinds.Pipe text) (straight (ok_or (entity_named s.objects kinds.Pipe name) errno.Enoent)) (on me op.PipeRelabel)
  asks (call.Setsockmac text name) = relabel_asks (claimed_in s.specs kinds.Socket text) (straight (ok_or (entity_named s.objects kinds.Socket name) errno.Enoent)) (on me op.SocketRelabel)
  asks other = nothing_asked (mine other) (λ a. refl) (way_of other)

  -- the whole of a call is its way, and its row there
  whole : (c : Call) → end_by s task me c ≡ end_in (row_for s task c me)
  whole call.Exit = refl
  whole other = refl

  -- so the plan is that of the checks and the end, with what is asked
  abbrev pub seen : Option Request → Ended → Plan
  seen asked end = record { items = map (item_asking s.objects asked) end.checks; tail = end.tail }

  pub planned : (c : Call) (asked : Option Request) (end : Ended) → end ≡ end_by s task me c → asked ≡ where_done end.tail (asked_at s (about_of s task me c).place)
      → seen asked end ≡ plan_in s (row_for s task c me)
  planned c asked end is same =
      let same_end = is ∙ whole c in
      ap (seen asked) same_end
      ∙ ap (λ (request : Option Request). seen request (end_in (row_for s task c me)))
      (same ∙ ap (λ (e : Ended). where_done e.tail (asked_at s (about_of s task me c).place)) same_end ∙ sym (asks c))

  pub plan_by : (child : Option (List ℕ)) (c : Call) (plan : Plan) → process_named s.objects (caller_name task child) ≡ Some me → plan ≡ plan_in s (row_for s task c me)
      → plan ≡ plan_in s (call_row s task child c)
  plan_by child c plan is same = same ∙ ap (λ (caller : Option Id). plan_in s (row_by s task c caller)) (sym is)

  -- the plan of a call that this process makes, as it comes to its checks
  pub plan_with : (child : Option (List ℕ)) (c : Call) → process_named s.objects (caller_name task child) ≡ Some me
      → plan_of s task child c ≡ lowering_by s (Some me) (plan_in s (row_for s task c me))
  plan_with child c is = ap (λ (caller : Option Id). lowering_by s caller (plan_in s (row_by s task c caller))) is

  pub are_found : (child : Option (List ℕ)) (c : Call) (found : Found) → process_named s.objects (caller_name task child) ≡ Some me → found.caller ≡ Some me
      → (end_by s task me c).tail ≡ Do → found.target ≡ target_at s me (about_of s task me c).place → found.request ≡ asked_at s (about_of s task me c).place
      → AreFound s task child c found
  are_found child c found named caller done target request =
      let place = (about_of s task me c).place in
      let there = reached (mine c) (way_of c).checks (way_of c).there (ap (λ (e : Ended). e.tail) (sym (whole c)) ∙ done) in
      record {
        me = me;
        caller = caller;
        named = named;
        is = record {
          what = there.what;
          there = there.is;
          target = target ∙ target_there s me place there.what there.is;
          request = request ∙ request_there s me place there.what there.is;
        };
      }

-- and of one that nobody makes
pub plan_without : (s : State) (task : List ℕ) (child : Option (List ℕ)) (c : Call) → process_named s.objects (caller_name task child) ≡ None
    → plan_of s task child c ≡ plan_in s (refuse errno.Esrch)
plan_without s task child c is = ap (λ (caller : Option Id). lowering_by s caller (plan_in s (row_by s task c caller))) is
