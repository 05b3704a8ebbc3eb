-- The whole reply is covered.
use Rattle.std.proofs.Common.{◌≡◌, ℕ, Bool, cond, List, [], ◌∷◌, ◌++◌, map, Option, Some, None, is_some, option_map, slice_index_or, Result, Ok, Err, refl, ap, sym, ◌∙◌, subst}
use Rattle.std.specs.Option.{ok_or, option_map_or}
use Rattle.mf_errno.specs.declared.errno.Errno.{Errno}
use Rattle.mf_errno.specs.declared.errno.Errno.TheVariants as errno
use Rattle.mf_elem.specs.declared.label.LabelValue.TheVariants.{Unset}
use Rattle.mf_elem.specs.declared.label.Request.{Request}
use Rattle.mf_item.specs.Item.{Item}
use Rattle.mf_item.specs.declared.view.Kind.TheVariants as kinds
use Rattle.mf_item.specs.declared.view.ObjectView.{ObjectView}
use Rattle.mf_policy.specs.Lowering.{lomac_slot}
use Rattle.mf_policy.specs.Registration.{Entry}
use Rattle.mf_objects.specs.declared.id.Id.{Id}
use Rattle.mf_objects.specs.Descriptors.{fds_at}
use Rattle.mf_objects.specs.Live.{Entities}
use Rattle.mf_objects.specs.Lives.{value_at, view_at}
use Rattle.mf_calls.specs.declared.script.Call.{Call}
use Rattle.mf_calls.specs.declared.script.Call.TheVariants as call
use Rattle.mf_plan.specs.declared.lookup.Lookup.{Lookup}
use Rattle.mf_plan.specs.declared.outline.Check.{Check}
use Rattle.mf_plan.specs.declared.plan.Tail.{Tail}
use Rattle.mf_plan.specs.declared.plan.Tail.TheVariants.{Do, Refuse}
use Rattle.mf_plan.specs.declared.reply.Payload.{Payload}
use Rattle.mf_plan.specs.declared.reply.Reply.TheVariants as reply
use Rattle.mf_plan.specs.declared.state.State.{State}
use Rattle.mf_plan.specs.declared.target.Target.TheVariants.{Name}
use Rattle.mf_plan.specs.Checks.{on}
use Rattle.mf_plan.specs.Ended.{Ended, end_in}
use Rattle.mf_plan.specs.Lowering.{each_lowered, lowering}
use Rattle.mf_plan.specs.Names.{caller_name}
use Rattle.mf_plan.specs.Outline.{item_asking}
use Rattle.mf_plan.specs.Path.{entry_at, entry_of, found_at, free_at, going_on, looking_into, lookup_from, nowhere, root}
use Rattle.mf_plan.specs.Plan.{call_row, plan_of, row_for}
use Rattle.mf_plan.specs.Planned.{Plan}
use Rattle.mf_plan.specs.Relabels.{claimed_in}
use Rattle.mf_plan.specs.Row.{Row, through}
use Rattle.mf_plan.specs.Rows.{about_of}
use Rattle.mf_plan.specs.Views.{is_dir, process_named}
use Rattle.mf_plan.specs.Ways.{At, Place, Way, along, carrying, missing, straight, then_way, way_to}
use Rattle.mf_plan.specs.Ways.Place.{Asking, Caller, Entry as EntryOf, File, Free, Listed, Loading, Named, Nothing, Opened, Setting, Sockets, Unloading, Unused}
use Rattle.mf_plan.specs.Found.{asked_at}
use Rattle.mf_plan.proofs.Finding.{asked_in_effect, asks, plan_with, row_by, where_done}
use Rattle.mf_perform.specs.declared.verdict.Denial.{Denial}
use Rattle.mf_perform.specs.OneCall.{call_reply}
use Rattle.mf_perform.specs.Reply.{reply_to, tail_reply}
use Rattle.mf_perform.specs.Verdict.{verdict_of}
use Rattle.mf_moves.specs.Moves.{Lead, moves_in}
use Rattle.mf_moves.specs.Alike.{AreAlike, AreTestedAlike}
use Rattle.mf_moves.specs.Laws.{RepliesAreCovered}
use Rattle.mf_moves.proofs.Leads.{lead_itself}
use Rattle.mf_moves.proofs.Shown.{same_fds, shows}
use Rattle.mf_moves.proofs.Done.{done, moves}

-- Walks

module _ (o o' : Entities) (tested : AreTestedAlike o o') where
  dir_same : (id : Id) → is_dir o id ≡ is_dir o' id
  dir_same id = ap (λ (v : ObjectView). v.file.dir) (tested.views id)

  walk_same : (path : List (List ℕ)) (dir : Id) → lookup_from o path dir ≡ lookup_from o' path dir
  unfolding lookup_from
  walk_same [] dir = refl
  walk_same (name ∷ []) dir =
      ap (λ (entry : Option Id). let walk : Lookup = record { lookups = dir ∷ []; target = Name dir entry } in walk) (tested.entries dir name)
  walk_same (name ∷ below ∷ rest) dir =
      ap (λ (entry : Option Id). looking_into dir (going_on o (lookup_from o (below ∷ rest)) entry)) (tested.entries dir name)
      ∙ by_entry (λ mid. walk_same (below ∷ rest) mid) (entry_of o' dir name)
    where
      by_entry : ((mid : Id) → lookup_from o (below ∷ rest) mid ≡ lookup_from o' (below ∷ rest) mid) → (entry : Option Id)
          → looking_into dir (going_on o (lookup_from o (below ∷ rest)) entry) ≡ looking_into dir (going_on o' (lookup_from o' (below ∷ rest)) entry)
      by_entry on None = refl
      by_entry on (Some mid) =
          ap (λ (b : Bool). looking_into dir (cond b (lookup_from o (below ∷ rest) mid) (nowhere errno.Enotdir))) (dir_same mid)
          ∙ ap (λ (walk : Lookup). looking_into dir (cond (is_dir o' mid) walk (nowhere errno.Enotdir))) (on mid)

-- Ways and ends

with_end : List Check → Ended → Ended
with_end first e = record { checks = first ++ e.checks; tail = e.tail }

by_way : {A : Type 0} (way way' : Way A) (row row' : A → Row) → way ≡ way' → ((a : A) → end_in (row a) ≡ end_in (row' a)) → end_in (through way row) ≡ end_in (through way' row')
unfolding with_end
by_way {A = A} way way' row row' is same = by_there way.there ∙ ap (λ (w : Way A). end_in (through w row')) is
  where
    by_there : (there : Result A Errno) → end_in (through (record { checks = way.checks; there = there }) row) ≡ end_in (through (record { checks = way.checks; there = there }) row')
    by_there (Ok a) = ap (with_end way.checks) (same a)
    by_there (Err e) = refl

module _ (s s' : State) (task : List ℕ) (me : Id) (alike : AreAlike s s') (tested : AreTestedAlike s.objects s'.objects) (own : fds_at s.objects me ≡ fds_at s'.objects me) where
  way_same : (place : Place) → way_to s me place ≡ way_to s' me place
  way_same Nothing = refl
  way_same Caller = refl
  way_same (Named kind name) = ap (λ (found : Option Id). straight (ok_or found (missing kind))) (alike.names kind name)
  way_same (Unused kind name) =
      ap (λ (found : Option Id). let there : Result (Unit {0}) Errno = cond (is_some found) (Err errno.Eexist) (Ok tt) in straight there) (alike.names kind name)
  way_same (File path) = ap (along me found_at) (walk_same s.objects s'.objects tested path root)
  way_same (Free path) = ap (along me free_at) (walk_same s.objects s'.objects tested path root)
  way_same (EntryOf path) = ap (along me entry_at) (walk_same s.objects s'.objects tested path root)
  way_same (Opened access n) = rw own refl
  way_same (Sockets from to) = rw (alike.names kinds.Socket from, alike.names kinds.Socket to) refl
  way_same (Listed m) = rw alike.specs refl
  way_same (Loading name) = refl
  way_same (Unloading name) = refl
  way_same (Setting tunable m change) = rw (alike.specs, tested.creds me) refl
  way_same (Asking kind text place) =
      ap (λ (claim : Option Request). then_way (ok_or claim errno.Einval) (λ request. carrying request (way_to s me place))) (ap (λ (specs : List Entry). claimed_in specs kind text) alike.specs)
      ∙ ap (λ (way : Way (At place)). then_way (ok_or (claimed_in s'.specs kind text) errno.Einval) (λ request. carrying request way)) (way_same place)

  abbrev Ends : Call → Type 0
  Ends c = end_in (row_for s task c me) ≡ end_in (row_for s' task c me)

  abbrev way : (c : Call) → Way (At (about_of s task me c).place)
  way c = way_to s me (about_of s task me c).place

  abbrev way' : (c : Call) → Way (At (about_of s' task me c).place)
  way' c = way_to s' me (about_of s' task me c).place

  abbrev mine : (c : Call) → At (about_of s task me c).place → Row
  mine c = (about_of s task me c).row

  abbrev mine' : (c : Call) → At (about_of s' task me c).place → Row
  mine' c = (about_of s' task me c).row

  abbrev dirs : (id : Id) → is_dir s.objects id ≡ is_dir s'.objects id
  dirs id = dir_same s.objects s'.objects tested id

  -- The table.
  ends : (c : Call) → Ends c
  ends (call.Fork child) = by_way (way (call.Fork child)) (way' (call.Fork child)) (mine (call.Fork child)) (mine' (call.Fork child)) (way_same (about_of s task me (call.Fork child)).place) (λ a. rw tested.many refl)
  ends (call.Pipe name) = by_way (way (call.Pipe name)) (way' (call.Pipe name)) (mine (call.Pipe name)) (mine' (call.Pipe name)) (way_same (about_of s task me (call.Pipe name)).place) (λ a. rw tested.many refl)
  ends (call.Socket name) = by_way (way (call.Socket name)) (way' (call.Socket name)) (mine (call.Socket name)) (mine' (call.Socket name)) (way_same (about_of s task me (call.Socket name)).place) (λ a. rw tested.many refl)
  ends (call.Create path) = by_way (way (call.Create path)) (way' (call.Create path)) (mine (call.Create path)) (mine' (call.Create path)) (way_same (Free path)) (λ a. rw tested.many refl)
  ends (call.Mkdir path) = by_way (way (call.Mkdir path)) (way' (call.Mkdir path)) (mine (call.Mkdir path)) (mine' (call.Mkdir path)) (way_same (Free path)) (λ a. rw tested.many refl)
  ends (call.Exec path) = by_way (way (call.Exec path)) (way' (call.Exec path)) (mine (call.Exec path)) (mine' (call.Exec path)) (way_same (File path)) (λ id. rw (dirs id) refl)
  ends (call.Read path) = by_way (way (call.Read path)) (way' (call.Read path)) (mine (call.Read path)) (mine' (call.Read path)) (way_same (File path)) (λ id. rw (dirs id) refl)
  ends (call.Readdir path) = by_way (way (call.Readdir path)) (way' (call.Readdir path)) (mine (call.Readdir path)) (mine' (call.Readdir path)) (way_same (File path)) (λ id. rw (dirs id) refl)
  ends (call.Write path text) = by_way (way (call.Write path text)) (way' (call.Write path text)) (mine (call.Write path text)) (mine' (call.Write path text)) (way_same (File path)) (λ id. rw (dirs id, tested.sizes id) refl)
  ends (call.OpenFd path read write) =
      by_way (way (call.OpenFd path read write)) (way' (call.OpenFd path read write)) (mine (call.OpenFd path read write)) (mine' (call.OpenFd path read write)) (way_same (File path)) (λ id. rw (dirs id, own) refl)
  ends (call.Fwrite n text) = by_way (way (call.Fwrite n text)) (way' (call.Fwrite n text)) (mine (call.Fwrite n text)) (mine' (call.Fwrite n text)) (way_same (about_of s task me (call.Fwrite n text)).place) (λ id. rw (tested.sizes id) refl)
  ends (call.Unlink path) = by_way (way (call.Unlink path)) (way' (call.Unlink path)) (mine (call.Unlink path)) (mine' (call.Unlink path)) (way_same (EntryOf path)) (λ entry. rw (tested.counts entry.1) refl)
  ends (call.Pread name) = by_way (way (call.Pread name)) (way' (call.Pread name)) (mine (call.Pread name)) (mine' (call.Pread name)) (way_same (Named kinds.Pipe name)) (λ id. rw (tested.sizes id) refl)
  ends (call.Pwrite name text) = by_way (way (call.Pwrite name text)) (way' (call.Pwrite name text)) (mine (call.Pwrite name text)) (mine' (call.Pwrite name text)) (way_same (Named kinds.Pipe name)) (λ id. rw (tested.sizes id) refl)
  ends (call.Recv name) = by_way (way (call.Recv name)) (way' (call.Recv name)) (mine (call.Recv name)) (mine' (call.Recv name)) (way_same (Named kinds.Socket name)) (λ id. rw (tested.counts id) refl)
  ends (call.Send from to text) = by_way (way (call.Send from to text)) (way' (call.Send from to text)) (mine (call.Send from to text)) (mine' (call.Send from to text)) (way_same (Sockets from to)) (λ both. rw (tested.counts both.1) refl)
  ends (call.Kldload name) = by_way (way (call.Kldload name)) (way' (call.Kldload name)) (mine (call.Kldload name)) (mine' (call.Kldload name)) (way_same (Loading name)) (λ m. rw (alike.specs, alike.numbers, alike.booted) refl)
  ends (call.Kldunload name) = by_way (way (call.Kldunload name)) (way' (call.Kldunload name)) (mine (call.Kldunload name)) (mine' (call.Kldunload name)) (way_same (Unloading name)) (λ m. rw alike.specs refl)
  ends (call.Sysctl name value) = rw (alike.specs, tested.creds me) refl
  ends (call.UgidfwAdd rule) = rw (alike.specs, tested.creds me) refl
  ends (call.UgidfwSet n rule) = rw (alike.specs, tested.creds me) refl
  ends (call.UgidfwRemove n) = rw (alike.specs, tested.creds me) refl
  ends other = by_way (way other) (way' other) (mine other) (mine' other) (way_same (about_of s task me other).place) (λ a. refl)

  -- what is asked of a label
  claims : (c : Call) → asked_at s (about_of s task me c).place ≡ asked_at s' (about_of s' task me c).place
  claims (call.Setpmac text) = ap (λ (specs : List Entry). claimed_in specs kinds.Process text) alike.specs
  claims (call.Setfmac text path) = ap (λ (specs : List Entry). claimed_in specs kinds.Vnode text) alike.specs
  claims (call.Setpipemac text name) = ap (λ (specs : List Entry). claimed_in specs kinds.Pipe text) alike.specs
  claims (call.Setsockmac text name) = ap (λ (specs : List Entry). claimed_in specs kinds.Socket text) alike.specs
  claims other = refl

  asked_same : (c : Call) → asked_in_effect (row_for s task c me).effect ≡ asked_in_effect (row_for s' task c me).effect
  asked_same c =
      asks s task me c ∙ ap (where_done (row_for s task c me).tail) (claims c)
      ∙ ap (λ (e : Ended). where_done e.tail (asked_at s' (about_of s' task me c).place)) (ends c) ∙ sym (asks s' task me c)

  -- Items

  item_same : (asked : Option Request) (check : Check) → item_asking s.objects asked check ≡ item_asking s'.objects asked check
  unfolding item_asking
  item_same asked check =
      rw (tested.creds check.caller, ap (λ (v : ObjectView). v.label) (tested.views check.subject), object check.object) refl
    where
      object : (at : Option Id) → option_map (view_at s.objects) at ≡ option_map (view_at s'.objects) at
      object None = refl
      object (Some id) = ap (λ (v : ObjectView). Some v) (tested.views id)

  items_same : (asked : Option Request) (checks : List Check) → map (item_asking s.objects asked) checks ≡ map (item_asking s'.objects asked) checks
  items_same asked [] = refl
  items_same asked (check ∷ checks) =
      ap (λ (item : Item). item ∷ map (item_asking s.objects asked) checks) (item_same asked check)
      ∙ ap (λ (items : List Item). item_asking s'.objects asked check ∷ items) (items_same asked checks)

  lowering_same : (items : List Item) → lowering s me items ≡ lowering s' me items
  lowering_same items =
      ap (λ (slot : Option ℕ). option_map_or (λ slot. each_lowered slot me.0 (value_at s.objects me slot) items) slot items) (ap lomac_slot alike.specs) ∙ one (lomac_slot s'.specs)
    where
      one : (slot : Option ℕ)
          → option_map_or (λ slot. each_lowered slot me.0 (value_at s.objects me slot) items) slot items ≡ option_map_or (λ slot. each_lowered slot me.0 (value_at s'.objects me slot) items) slot items
      one None = refl
      one (Some slot) = ap (λ (v : ObjectView). each_lowered slot me.0 (slice_index_or v.label slot Unset) items) (tested.views me)

  abbrev seen : State → Option Request → Ended → Plan
  seen x asked end = record { items = lowering x me (map (item_asking x.objects asked) end.checks); tail = end.tail }

  pub plans_same : (child : Option (List ℕ)) (c : Call) → process_named s.objects (caller_name task child) ≡ Some me → process_named s'.objects (caller_name task child) ≡ Some me
      → plan_of s task child c ≡ plan_of s' task child c
  plans_same child c named named' =
      plan_with s task me child c named
      ∙ ap (λ (asked : Option Request). seen s asked (end_in (row_for s task c me))) (asked_same c)
      ∙ ap (seen s (asked_in_effect (row_for s' task c me).effect)) (ends c)
      ∙ ap (λ (items : List Item). let p : Plan = record { items = lowering s me items; tail = (row_for s' task c me).tail } in p)
      (items_same (asked_in_effect (row_for s' task c me).effect) (row_for s' task c me).checks)
      ∙ ap (λ (items : List Item). let p : Plan = record { items = items; tail = (row_for s' task c me).tail } in p)
      (lowering_same (map (item_asking s'.objects (asked_in_effect (row_for s' task c me).effect)) (row_for s' task c me).checks))
      ∙ sym (plan_with s' task me child c named')

-- The reply

by_plan : (plan : Plan) (denied : Option Denial) (p p' : Payload) → (reply_to plan denied p ≡ reply.Ok p → p ≡ p') → reply_to plan denied p ≡ reply_to plan denied p'
by_plan plan (Some d) p p' same = refl
by_plan plan None p p' same = by_tail plan.tail same
  where
    by_tail : (tail : Tail) → (tail_reply tail p ≡ reply.Ok p → p ≡ p') → tail_reply tail p ≡ tail_reply tail p'
    by_tail Do same = ap (λ (x : Payload). reply.Ok x) (same refl)
    by_tail (Refuse e) same = refl

pub replies_covered : RepliesAreCovered
replies_covered s s' task child c me named alike tested all =
    by_plan (plan_of s task child c) (verdict_of s.specs (plan_of s task child c)).denied (call_row s task child c).payload (call_row s' task child c).payload pays
    ∙ ap (λ (plan : Plan). reply_to plan (verdict_of s.specs plan).denied (call_row s' task child c).payload) (plans_same s s' task me alike tested own child c named named')
    ∙ ap (λ (specs : List Entry). reply_to (plan_of s' task child c) (verdict_of specs (plan_of s' task child c)).denied (call_row s' task child c).payload) alike.specs
  where
    named' : process_named s'.objects (caller_name task child) ≡ Some me
    named' = sym (alike.names kinds.Process (caller_name task child)) ∙ named

    own : fds_at s.objects me ≡ fds_at s'.objects me
    own = same_fds s s' alike me (all me (lead_itself (moves_in s task child c) me))

    pays : call_reply s task child c ≡ reply.Ok (call_row s task child c).payload → (call_row s task child c).payload ≡ (call_row s' task child c).payload
    pays ok =
        ap (λ (caller : Option Id). (row_by s task c caller).payload) named
        ∙ shows s s' task me alike c (done s task child c me named (call_row s task child c).payload ok)
        (λ id lead. all id (subst (λ (xs : List (Id × Id)). Lead xs id me) (sym (moves s task child c me named (call_row s task child c).payload ok)) lead))
        ∙ ap (λ (caller : Option Id). (row_by s' task c caller).payload) (sym named')
